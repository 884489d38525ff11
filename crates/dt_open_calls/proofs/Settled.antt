-- Octets have their fate from the left to the right, in the places of a span alone.
use Rattle.std.proofs.Common.{ℕ, zero, suc, ◌+◌, ◌-◌, ◌≡◌, ◌<◌, ◌≤◌, Bool, true, false, List, [], ◌∷◌, length, set, get_or, Option, Some, None, refl, ap, sym, subst, ◌∙◌, inl, inr, arith, add-one, cond}
use Rattle.std.specs.Prelude.{◌&&◌, ◌||◌, nat_lt, if◌then◌else◌}
use Rattle.std.proofs.lemmas.Bool.{cases_Bool, and_parts}
use Rattle.std.proofs.lemmas.Bool.Decides.{nat_tests}
use Rattle.dt_units.specs.declared.endpoints.Flow.{Flow}
use Rattle.dt_world_model.specs.Tables.{same_flow}
use Rattle.dt_table.specs.Places.{slot}
use Rattle.dt_service_model.specs.declared.calls.OpenCall.{OpenCall}
use Rattle.dt_service_model.specs.Hearing.{with_fate}
use Rattle.dt_open_calls.specs.Slots.{Each, Slot, count_past, fated, fated_slot, has_octets_on, slot_is}
use Rattle.dt_open_calls.proofs.Lists.{on_rest, rest_end, unchanged_over}
use Rattle.dt_open_calls.proofs.Found.{Stems, StemAll, each_set, each_written, stems_self}

pub slot_true : (test : OpenCall → Bool) (s : Slot) → slot_is test s ≡ true → (c : OpenCall) × (s ≡ Some c) × (test c ≡ true)
slot_true test None h = absurd cc
slot_true test (Some c) h = (c, refl, h)

module _ (g : Bool) (f : Flow) where
  abbrev pub fated_from : ℕ → ℕ → List Slot → List Slot
  fated_from i count slots = on_rest i (fated g f count) slots

  step_suc : (i count : ℕ) (slots : List Slot) → i < length slots → fated_from (suc i) (count_past f count (slot slots i)) (set slots i (fated_slot g f count (slot slots i))) ≡ fated_from i count slots
  step_suc i count [] lt = absurd (omega arith)
  step_suc zero count (s ∷ slots) lt = refl
  step_suc (suc i) count (s ∷ slots) lt = ap (λ (xs : List Slot). s ∷ xs) (step_suc i count slots (omega arith))

  pub settle_step : (i count rest : ℕ) (slots after target : List Slot) (s : Slot) → i < length slots → after ≡ set slots i s → s ≡ fated_slot g f count (slot slots i) → rest ≡ count_past f count (slot slots i)
      → fated_from i count slots ≡ target → fated_from (i + 1) rest after ≡ target
  settle_step i count rest slots after target s lt after_is s_is rest_is so =
      subst (λ (xs : List Slot). fated_from (i + 1) rest xs ≡ target) (sym after_is)
      (subst (λ (x : Slot). fated_from (i + 1) rest (set slots i x) ≡ target) (sym s_is)
      (subst (λ (n : ℕ). fated_from (i + 1) n (set slots i (fated_slot g f count (slot slots i))) ≡ target) (sym rest_is)
      (subst (λ (k : ℕ). fated_from k (count_past f count (slot slots i)) (set slots i (fated_slot g f count (slot slots i))) ≡ target) (sym (add-one i)) (step_suc i count slots lt ∙ so))))

  -- A CALL OF WHICH NOTHING IS LEFT stays as it is, and so does each where no octets have a fate
  same_call : (count : ℕ) (c : OpenCall) → c.left - count ≡ c.left → (c.has_given_up || (g && nat_lt 0 count && nat_lt 0 c.left)) ≡ c.has_given_up → with_fate g count c ≡ c
  same_call count c left given = ap (λ (n : ℕ). record c { left = n; has_given_up = c.has_given_up || (g && nat_lt 0 count && nat_lt 0 c.left) }) left ∙ ap (λ (b : Bool). record c { has_given_up = b }) given

  or_false : (b : Bool) → (b || false) ≡ b
  or_false true = refl
  or_false false = refl

  none_given : (count left : ℕ) (b : Bool) → nat_lt 0 left ≡ false → (b || (g && nat_lt 0 count && nat_lt 0 left)) ≡ b
  none_given count left b none_so = elim (cases_Bool g) [
    | inl y ↦ elim (cases_Bool (nat_lt 0 count)) [ inl z ↦ rw (y, z, none_so) (or_false b) | inr z ↦ rw (y, z) (or_false b) ]
    | inr n ↦ rw n (or_false b)
  ]

  zero_given : (left : ℕ) (b : Bool) → (b || (g && nat_lt 0 0 && nat_lt 0 left)) ≡ b
  zero_given left b = elim (cases_Bool g) [ inl y ↦ rw y (or_false b) | inr n ↦ rw n (or_false b) ]

  no_less : (left count : ℕ) → nat_lt 0 left ≡ false → left ≡ 0
  no_less zero count none_so = refl
  no_less (suc left) count none_so = grind (arith, nat_tests)

  idle_slot : (count : ℕ) (s : Slot) → slot_is (has_octets_on f) s ≡ false → (fated_slot g f count s ≡ s) × (count_past f count s ≡ count)
  idle_slot count None none_so = (refl, refl)
  idle_slot count (Some c) none_so = elim (cases_Bool (same_flow c.flow f)) [
    | inr n ↦ (rw n refl, rw n refl)
    | inl y ↦
        let none : nat_lt 0 c.left ≡ false = rw y at none_so in
        let z : c.left ≡ 0 = no_less c.left count none in
        (rw y (ap (λ (d : OpenCall). Some d) (same_call count c (omega arith) (none_given count c.left c.has_given_up none))), rw y (omega arith))
  ]

  zero_slot : (s : Slot) → (fated_slot g f 0 s ≡ s) × (count_past f 0 s ≡ 0)
  zero_slot None = (refl, refl)
  zero_slot (Some c) = elim (cases_Bool (same_flow c.flow f)) [
    | inr n ↦ (rw n refl, rw n refl)
    | inl y ↦ (rw y (ap (λ (d : OpenCall). Some d) (same_call 0 c (omega arith) (zero_given c.left c.has_given_up))), rw y (omega arith))
  ]

  pass_suc : (i count : ℕ) (slots : List Slot) → ((fated_slot g f count (slot slots i) ≡ slot slots i) × (count_past f count (slot slots i) ≡ count)) → fated_from (suc i) count slots ≡ fated_from i count slots
  pass_suc zero count [] same = refl
  pass_suc (suc i) count [] same = refl
  pass_suc zero count (s ∷ slots) same = sym (ap (λ (x : Slot). x ∷ fated g f (count_past f count s) slots) same.0 ∙ ap (λ (n : ℕ). s ∷ fated g f n slots) same.1)
  pass_suc (suc i) count (s ∷ slots) same = ap (λ (xs : List Slot). s ∷ xs) (pass_suc i count slots same)

  pass : (i count : ℕ) (slots : List Slot) → ((fated_slot g f count (slot slots i) ≡ slot slots i) × (count_past f count (slot slots i) ≡ count)) → fated_from (i + 1) count slots ≡ fated_from i count slots
  pass i count slots same = subst (λ (k : ℕ). fated_from k count slots ≡ fated_from i count slots) (sym (add-one i)) (pass_suc i count slots same)

  no_octets : (slots : List Slot) (i : ℕ) → ((c : OpenCall) → slot slots i ≡ Some c → has_octets_on f c ≡ true → ⊥) → slot_is (has_octets_on f) (slot slots i) ≡ false
  no_octets slots i none_so = elim (cases_Bool (slot_is (has_octets_on f) (slot slots i))) [
    | inl y ↦ (let t = slot_true (has_octets_on f) (slot slots i) y in absurd (none_so t.0 t.1 t.2))
    | inr n ↦ n
  ]

  -- before the span, behind it, and once no octets are left
  pub settle_begins : (first last count : ℕ) (slots : List Slot) → Each (λ i call. has_octets_on f call ≡ true → (first ≤ i) × (i ≤ last)) slots → fated_from first count slots ≡ fated g f count slots
  settle_begins first last count slots span =
      ap (λ (k : ℕ). fated_from k count slots) (omega arith)
      ∙ unchanged_over (λ (i : ℕ). fated_from i count slots) first 0
      (λ i a b. pass i count slots (idle_slot count (slot slots i) (no_octets slots i (λ c h o. let r = span i c h o in absurd (omega arith)))))

  pub settle_ends : (i count : ℕ) (slots : List Slot) → ((j : ℕ) (c : OpenCall) → i ≤ j → slot slots j ≡ Some c → has_octets_on f c ≡ true → ⊥) → fated_from i count slots ≡ slots
  settle_ends i count slots none =
      sym (unchanged_over (λ (k : ℕ). fated_from k count slots) (length slots) i
      (λ k a b. pass k count slots (idle_slot count (slot slots k) (no_octets slots k (λ c h o. none k c a h o)))))
      ∙ rest_end (fated g f count) refl (i + length slots) slots (omega arith)

  pub settle_spent : (i : ℕ) (slots : List Slot) → fated_from i 0 slots ≡ slots
  settle_spent i slots =
      sym (unchanged_over (λ (k : ℕ). fated_from k 0 slots) (length slots) i (λ k a b. pass k 0 slots (zero_slot (slot slots k))))
      ∙ rest_end (fated g f 0) refl (i + length slots) slots (omega arith)

  -- WHAT BECOMES OF A CALL
  one_fated : (count : ℕ) (c : OpenCall) → OpenCall
  one_fated count c = if same_flow c.flow f then with_fate g count c else c

  less_left : (left count : ℕ) → nat_lt 0 (left - count) ≡ true → nat_lt 0 left ≡ true
  less_left left count h = grind (arith, nat_tests)

  stems_fate : (count : ℕ) (c : OpenCall) → Stems c (with_fate g count c)
  stems_fate count c = record { number = refl; flow = refl; waits = λ w. w; left = less_left c.left count }

  pub stems_slot : (count : ℕ) (c d : OpenCall) → fated_slot g f count (Some c) ≡ Some d → Stems c d
  stems_slot count c d h = elim (cases_Bool (same_flow c.flow f)) [
    | inl y ↦ (let e : Some (with_fate g count c) ≡ Some d = rw y at h in let same : with_fate g count c ≡ d = cc in subst (λ (x : OpenCall). Stems c x) same (stems_fate count c))
    | inr n ↦ (let e : Some c ≡ Some d = rw n at h in let same : c ≡ d = cc in subst (λ (x : OpenCall). Stems c x) same (stems_self c))
  ]

  pub stem_fated : (count : ℕ) (slots : List Slot) → StemAll slots (fated g f count slots)
  stem_fated count [] i d h = absurd cc
  stem_fated count (None ∷ slots) zero d h = absurd cc
  stem_fated count (Some c ∷ slots) zero d h = (c, refl, stems_slot count c d h)
  stem_fated count (s ∷ slots) (suc i) d h = stem_fated (count_past f count s) slots i d h

  -- one that has octets left took all
  all_taken : (left count : ℕ) → nat_lt 0 (left - count) ≡ true → count - left ≡ 0
  all_taken left count h = grind (arith, nat_tests)

  had_octets : (count : ℕ) (c d : OpenCall) → fated_slot g f count (Some c) ≡ Some d → has_octets_on f d ≡ true → (has_octets_on f c ≡ true) × (count_past f count (Some c) ≡ 0)
  had_octets count c d h o =
      let stems = stems_slot count c d h in
      let parts = and_parts (same_flow d.flow f) (nat_lt 0 d.left) o in
      let on : same_flow c.flow f ≡ true = subst (λ (e : Flow). same_flow e f ≡ true) stems.flow parts.0 in
      let e : Some (with_fate g count c) ≡ Some d = rw on at h in
      let same : d.left ≡ c.left - count = cc in
      let more : nat_lt 0 (c.left - count) ≡ true = subst (λ (n : ℕ). nat_lt 0 n ≡ true) same parts.1 in
      let had : nat_lt 0 c.left ≡ true = less_left c.left count more in
      (rw (on, had) refl, rw on (all_taken c.left count more))

  still_left : (count : ℕ) (s : Slot) (d : OpenCall) → fated_slot g f count s ≡ Some d → has_octets_on f d ≡ true → count_past f count s ≡ 0
  still_left count None d h o = absurd cc
  still_left count (Some c) d h o = (had_octets count c d h o).1

  had_call : (count : ℕ) (s : Slot) (d : OpenCall) → fated_slot g f count s ≡ Some d → has_octets_on f d ≡ true → (c : OpenCall) × (s ≡ Some c) × (has_octets_on f c ≡ true)
  had_call count None d h o = absurd cc
  had_call count (Some c) d h o = (c, refl, (had_octets count c d h o).0)

  -- THE STEP of what is known of the places
  pub span_step : (i count first last : ℕ) (slots : List Slot) (s : Slot) → i < length slots → s ≡ fated_slot g f count (slot slots i) → Each (λ j call. has_octets_on f call ≡ true → (first ≤ j) × (j ≤ last)) slots
      → Each (λ j call. has_octets_on f call ≡ true → (first ≤ j) × (j ≤ last)) (set slots i s)
  span_step i count first last slots s lt is span =
      each_set (λ j call. has_octets_on f call ≡ true → (first ≤ j) × (j ≤ last)) slots i s lt span
      (λ d h o. let l = had_call count (slot slots i) d (sym is ∙ h) o in span i l.0 l.1 l.2)

  pub before_step : (i count rest reached : ℕ) (slots : List Slot) (s : Slot) → i < length slots → 0 < count → s ≡ fated_slot g f count (slot slots i) → rest ≡ count_past f count (slot slots i)
      → Each (λ j call. j < i → has_octets_on f call ≡ true → (count ≡ 0) × (reached ≤ j)) slots
      → Each (λ j call. j < i + 1 → has_octets_on f call ≡ true → (rest ≡ 0) × (i ≤ j)) (set slots i s)
  before_step i count rest reached slots s lt some is rest_is before =
      each_written (λ j call. j < i + 1 → has_octets_on f call ≡ true → (rest ≡ 0) × (i ≤ j)) slots i s lt
      (λ j c apart h below o. let b = before j c h (omega arith) o in absurd (omega arith))
      (λ d h below o. (rest_is ∙ still_left count (slot slots i) d (sym is ∙ h) o, omega arith))

  pub nothing_settled : (count : ℕ) (slots : List Slot) → ((j : ℕ) (c : OpenCall) → slot slots j ≡ Some c → has_octets_on f c ≡ true → ⊥) → fated g f count slots ≡ slots
  nothing_settled count slots none = settle_ends 0 count slots (λ j c le h o. none j c h o)

  pub span_stepped : (i count first last : ℕ) (slots after : List Slot) (s : Slot) → i < length slots → s ≡ fated_slot g f count (slot slots i) → Each (λ j call. has_octets_on f call ≡ true → (first ≤ j) × (j ≤ last)) slots → after ≡ set slots i s
      → Each (λ j call. has_octets_on f call ≡ true → (first ≤ j) × (j ≤ last)) after
  span_stepped i count first last slots after s lt is span e = subst (λ (xs : List Slot). Each (λ j call. has_octets_on f call ≡ true → (first ≤ j) × (j ≤ last)) xs) (sym e) (span_step i count first last slots s lt is span)

  pub before_stepped : (i count rest reached : ℕ) (slots after : List Slot) (s : Slot) → i < length slots → 0 < count → s ≡ fated_slot g f count (slot slots i) → rest ≡ count_past f count (slot slots i)
      → Each (λ j call. j < i → has_octets_on f call ≡ true → (count ≡ 0) × (reached ≤ j)) slots → after ≡ set slots i s
      → Each (λ j call. j < i + 1 → has_octets_on f call ≡ true → (rest ≡ 0) × (i ≤ j)) after
  before_stepped i count rest reached slots after s lt some is rest_is before e = subst (λ (xs : List Slot). Each (λ j call. j < i + 1 → has_octets_on f call ≡ true → (rest ≡ 0) × (i ≤ j)) xs) (sym e) (before_step i count rest reached slots s lt some is rest_is before)
