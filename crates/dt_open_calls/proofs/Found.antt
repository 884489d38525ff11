-- What is noted of calls, where one of them changes, or each.
use Rattle.std.proofs.Common.{ℕ, zero, suc, ◌+◌, ◌-◌, ◌/◌, ◌%◌, ◌≡◌, ◌≢◌, ◌<◌, ◌≤◌, Bool, true, false, List, [], ◌∷◌, ◌++◌, ◌*◌, length, map, set, get_or, drop, add-one, Option, Some, None, refl, ap, sym, subst, ◌∙◌, inl, inr, arith, cond, get_or-set_same, get_or-set_other}
use Rattle.std.specs.Prelude.{◌&&◌, ◌||◌, filter_map, nat_eq, nat_le, nat_lt, not, if◌then◌else◌}
use Rattle.std.specs.Map.{lookup}
use Rattle.std.specs.List.{cons_option}
use Rattle.std.proofs.lemmas.Bool.{cases_Bool, cases_eq, cases_lt}
use Rattle.std.proofs.lemmas.List.{append_assoc, drop_more, drop-set-lt, length-append}
use Rattle.std.proofs.lemmas.Bool.Decides.{nat_tests}
use Rattle.dt_units.specs.declared.endpoints.Flow.{Flow}
use Rattle.dt_units.specs.Moments.{earlier}
use Rattle.dt_world_model.specs.Tables.{earliest, same_flow}
use Rattle.dt_table.specs.Places.{equal_flows, slot}
use Rattle.dt_service_model.specs.declared.calls.OpenCall.{OpenCall}
use Rattle.dt_service_model.specs.declared.names.CallNumber.{CallNumber}
use Rattle.dt_service_model.specs.declared.happenings.Happening.{Happening}
use Rattle.dt_service_model.specs.Ends.{cause_of, is_kept, judged_call}
use Rattle.dt_service_model.specs.Names.{to_u64}
use Rattle.dt_open_calls.specs.declared.spans.Span.{Span}
use Rattle.dt_open_calls.proofs.Lists.{map_past, map_skip, on_rest, unchanged_over}
use Rattle.dt_open_calls.specs.Slots.{AreDue, Each, IsFound, IsInSpan, IsNoLater, Slot, block_of, deadline_slot, due_at, ended_slot, is_urgent, judged_slot, kept_slot, unsure_slot, waiting_slot}

-- A PLACE IS WRITTEN
pub slot_within : (slots : List Slot) (i : ℕ) (c : OpenCall) → slot slots i ≡ Some c → i < length slots
slot_within [] i c h = absurd cc
slot_within (s ∷ slots) zero c h = omega arith
slot_within (s ∷ slots) (suc i) c h = let w = slot_within slots i c h in omega arith

pub each_written : (P : ℕ → OpenCall → Type 0) (slots : List Slot) (i : ℕ) (s : Slot) → i < length slots → ((j : ℕ) (c : OpenCall) → j ≢ i → slot slots j ≡ Some c → P j c) → ((c : OpenCall) → s ≡ Some c → P i c) → Each P (set slots i s)
each_written P slots i s lt others here j c h =
    elim (cases_eq j i) [
      | inl same ↦
          let there : slot (set slots i s) i ≡ s = get_or-set_same slots i s None lt in
          let at : slot (set slots i s) i ≡ Some c = subst (λ (k : ℕ). slot (set slots i s) k ≡ Some c) same h in
          subst (λ (k : ℕ). P k c) (sym same) (here c (sym there ∙ at))
      | inr apart ↦ others j c apart (sym (get_or-set_other slots i j s None apart) ∙ h)
    ]

pub each_set : (P : ℕ → OpenCall → Type 0) (slots : List Slot) (i : ℕ) (s : Slot) → i < length slots → Each P slots → ((c : OpenCall) → s ≡ Some c → P i c) → Each P (set slots i s)
each_set P slots i s lt each here = each_written P slots i s lt (λ j c apart h. each j c h) here

-- NO LATER
pub sooner : (m n : ℕ) (c : OpenCall) → m ≤ n → IsNoLater n c → IsNoLater m c
sooner m n c le d = record {
  urgent = λ u. (let z = d.urgent u in omega arith);
  waits = λ w. (let l = d.waits w in omega arith);
}

pub due_sooner : (old new : List ℕ) (slots : List Slot) → ((b : ℕ) → due_at new b ≤ due_at old b) → AreDue old slots → AreDue new slots
due_sooner old new slots le due i c h = sooner (due_at new (block_of i)) (due_at old (block_of i)) c (le (block_of i)) (due i c h)

pub due_found : (first : ℕ) (dues : List ℕ) (numbers : List (ℕ × Span)) (flows : List (Flow × Span)) (slots : List Slot) → Each (IsFound first dues numbers flows) slots → AreDue dues slots
due_found first dues numbers flows slots found i c h = (found i c h).due

-- WHAT BECOMES OF A CALL: of it another, with less to find it by
pub record Stems (c d : OpenCall) : Type 0 where
  pub number : d.number ≡ c.number
  pub flow : d.flow ≡ c.flow
  pub waits : d.waits ≡ true → c.waits ≡ true
  pub left : nat_lt 0 d.left ≡ true → nat_lt 0 c.left ≡ true

abbrev pub StemAll : List Slot → List Slot → Type 0
StemAll slots after = (i : ℕ) (d : OpenCall) → slot after i ≡ Some d → (c : OpenCall) × (slot slots i ≡ Some c) × Stems c d

pub found_after : (first : ℕ) (dues new : List ℕ) (numbers : List (ℕ × Span)) (flows : List (Flow × Span)) (slots after : List Slot) → Each (IsFound first dues numbers flows) slots → StemAll slots after → AreDue new after → Each (IsFound first new numbers flows) after
found_after first dues new numbers flows slots after found stem due i d h =
    let s = stem i d h in
    let f = found i s.0 s.1 in
    record {
      behind = f.behind;
      due = due i d h;
      numbered = λ w. subst (λ (n : CallNumber). IsInSpan (lookup (nat_eq (to_u64 n)) numbers) i) (sym s.2.number) (f.numbered (s.2.waits w));
      flowing = λ l. subst (λ (g : Flow). IsInSpan (lookup (equal_flows g) flows) i) (sym s.2.flow) (f.flowing (s.2.left l));
    }

pub stems_self : (c : OpenCall) → Stems c c
stems_self c = record { number = refl; flow = refl; waits = λ w. w; left = λ l. l }

-- each place by itself
slot_map : (change : Slot → Slot) → change None ≡ None → (slots : List Slot) (i : ℕ) → slot (map change slots) i ≡ change (slot slots i)
slot_map change none [] i = sym none
slot_map change none (s ∷ slots) zero = refl
slot_map change none (s ∷ slots) (suc i) = slot_map change none slots i

pub stem_map : (change : Slot → Slot) → change None ≡ None → ((c d : OpenCall) → change (Some c) ≡ Some d → Stems c d) → (slots : List Slot) → StemAll slots (map change slots)
stem_map change none each slots i d h = by_slot (slot slots i) refl
  where
    by_slot : (s : Slot) → slot slots i ≡ s → (c : OpenCall) × (slot slots i ≡ Some c) × Stems c d
    by_slot None e = (let n : None ≡ Some d = sym none ∙ ap change (sym e) ∙ sym (slot_map change none slots i) ∙ h in absurd cc)
    by_slot (Some c) e = (c, e, each c d (ap change (sym e) ∙ sym (slot_map change none slots i) ∙ h))

pub due_map : (change : Slot → Slot) → change None ≡ None → ((m : ℕ) (c d : OpenCall) → change (Some c) ≡ Some d → IsNoLater m c → IsNoLater m d) → (dues : List ℕ) (slots : List Slot) → AreDue dues slots → AreDue dues (map change slots)
due_map change none each dues slots due i d h = by_slot (slot slots i) refl
  where
    by_slot : (s : Slot) → slot slots i ≡ s → IsNoLater (due_at dues (block_of i)) d
    by_slot None e = (let n : None ≡ Some d = sym none ∙ ap change (sym e) ∙ sym (slot_map change none slots i) ∙ h in absurd cc)
    by_slot (Some c) e = each (due_at dues (block_of i)) c d (ap change (sym e) ∙ sym (slot_map change none slots i) ∙ h) (due i c e)

kept_is : (c d : OpenCall) → kept_slot c ≡ Some d → (c ≡ d) × (is_kept c ≡ true)
kept_is c d h = elim (cases_Bool (is_kept c)) [
  | inl y ↦ (let e : Some c ≡ Some d = rw y at h in cc, y)
  | inr n ↦ (let e : None ≡ Some d = rw n at h in absurd cc)
]

-- a call that is judged
module _ (now : ℕ) (c : OpenCall) where
  judged_number : (judged_call now c).number ≡ c.number
  judged_number = elim (cases_Bool (c.waits && c.has_given_up)) [ inl a ↦ rw a refl | inr a ↦ elim (cases_Bool (c.waits && nat_le c.deadline now)) [ inl b ↦ rw (a, b) refl | inr b ↦ rw (a, b) refl ] ]

  judged_flow : (judged_call now c).flow ≡ c.flow
  judged_flow = elim (cases_Bool (c.waits && c.has_given_up)) [ inl a ↦ rw a refl | inr a ↦ elim (cases_Bool (c.waits && nat_le c.deadline now)) [ inl b ↦ rw (a, b) refl | inr b ↦ rw (a, b) refl ] ]

  judged_left : (judged_call now c).left ≡ c.left
  judged_left = elim (cases_Bool (c.waits && c.has_given_up)) [ inl a ↦ rw a refl | inr a ↦ elim (cases_Bool (c.waits && nat_le c.deadline now)) [ inl b ↦ rw (a, b) refl | inr b ↦ rw (a, b) refl ] ]

  judged_deadline : (judged_call now c).deadline ≡ c.deadline
  judged_deadline = elim (cases_Bool (c.waits && c.has_given_up)) [ inl a ↦ rw a refl | inr a ↦ elim (cases_Bool (c.waits && nat_le c.deadline now)) [ inl b ↦ rw (a, b) refl | inr b ↦ rw (a, b) refl ] ]

  judged_given : (judged_call now c).has_given_up ≡ false
  judged_given = elim (cases_Bool (c.waits && c.has_given_up)) [ inl a ↦ rw a refl | inr a ↦ elim (cases_Bool (c.waits && nat_le c.deadline now)) [ inl b ↦ rw (a, b) refl | inr b ↦ rw (a, b) refl ] ]

  judged_waits : (judged_call now c).waits ≡ true → c.waits ≡ true
  judged_waits = elim (cases_Bool (c.waits && c.has_given_up)) [ inl a ↦ rw a (λ w. absurd cc) | inr a ↦ elim (cases_Bool (c.waits && nat_le c.deadline now)) [ inl b ↦ rw (a, b) (λ w. absurd cc) | inr b ↦ rw (a, b) (λ w. w) ] ]

judged_stems : (now : ℕ) (c d : OpenCall) → judged_slot now (Some c) ≡ Some d → Stems c d
judged_stems now c d h =
    let e : judged_call now c ≡ d = (kept_is (judged_call now c) d h).0 in
    subst (λ (x : OpenCall). Stems c x) e
    (record { number = judged_number now c; flow = judged_flow now c; waits = judged_waits now c; left = λ l. subst (λ (k : ℕ). nat_lt 0 k ≡ true) (judged_left now c) l })

pub stem_judged : (now : ℕ) (slots : List Slot) → StemAll slots (map (judged_slot now) slots)
stem_judged now slots = stem_map (judged_slot now) refl (judged_stems now) slots

pub due_judged : (now : ℕ) (m : ℕ) (c d : OpenCall) → IsNoLater m c → judged_slot now (Some c) ≡ Some d → IsNoLater m d
due_judged now m c d due h =
    let k = kept_is (judged_call now c) d h in
    subst (λ (x : OpenCall). IsNoLater m x) k.0
    (record {
      urgent = λ u. (let calm : is_urgent (judged_call now c) ≡ false = ap (λ (b : Bool). b || not (is_kept (judged_call now c))) (judged_given now c) ∙ ap not k.1 in absurd cc);
      waits = λ w. subst (λ (t : ℕ). m ≤ t) (sym (judged_deadline now c)) (due.waits (judged_waits now c w));
    })

-- NOTHING IS DUE YET
calm_given : (m : ℕ) (c : OpenCall) → 0 < m → IsNoLater m c → (c.has_given_up ≡ false) × (is_kept c ≡ true)
calm_given m c lt due =
    elim (cases_Bool c.has_given_up) [
      | inl y ↦ (let u : is_urgent c ≡ true = rw y refl in let z = due.urgent u in absurd (omega arith))
      | inr n ↦
          elim (cases_Bool (is_kept c)) [
            | inl k ↦ (n, k)
            | inr k ↦ (let u : is_urgent c ≡ true = rw (n, k) refl in let z = due.urgent u in absurd (omega arith))
          ]
    ]

calm_cause : (now m : ℕ) (c : OpenCall) → now < m → IsNoLater m c → cause_of now c ≡ None
calm_cause now m c lt due =
    let g = (calm_given m c (omega arith) due).0 in
    elim (cases_Bool c.waits) [
      | inl y ↦ (let l = due.waits y in let late : nat_le c.deadline now ≡ false = grind (arith, nat_tests) in rw (y, g, late) refl)
      | inr n ↦ rw n refl
    ]

pub calm_slot : (now m : ℕ) (c : OpenCall) → now < m → IsNoLater m c → (judged_slot now (Some c) ≡ Some c) × (unsure_slot now (Some c) ≡ None)
calm_slot now m c lt due =
    let g = calm_given m c (omega arith) due in
    let none = calm_cause now m c lt due in
    let same : judged_call now c ≡ c = rw none (ap (λ (b : Bool). record c { has_given_up = b }) (sym g.0)) in
    (ap kept_slot same ∙ rw (g.1) refl, rw none refl)

-- THOSE THAT WAIT are kept
waiting_stems : (c d : OpenCall) → waiting_slot (Some c) ≡ Some d → c ≡ d
waiting_stems c d h = elim (cases_Bool c.waits) [
  | inl y ↦ (let e : Some c ≡ Some d = sym (ap (λ (b : Bool). if b then Some c else None) y) ∙ h in cc)
  | inr n ↦ (let e : None ≡ Some d = sym (ap (λ (b : Bool). if b then Some c else None) n) ∙ h in absurd cc)
]

pub due_waiting : (dues : List ℕ) (slots : List Slot) → AreDue dues slots → AreDue dues (map waiting_slot slots)
due_waiting dues slots due = due_map waiting_slot refl (λ m c d h l. subst (λ (x : OpenCall). IsNoLater m x) (waiting_stems c d h) l) dues slots due

pub stem_waiting : (slots : List Slot) → StemAll slots (map waiting_slot slots)
stem_waiting slots = stem_map waiting_slot refl (λ c d h. subst (λ (x : OpenCall). Stems c x) (waiting_stems c d h) (stems_self c)) slots

-- A BLOCK of which nothing is due
pub in_block : (i p : ℕ) → p % 64 ≡ 0 → p ≤ i → i < p + 64 → block_of i ≡ p / 64
in_block i p begins le lt = omega arith

pub slot_at : (slots : List Slot) (i : ℕ) (d : Slot) → i < length slots → get_or slots i d ≡ slot slots i
slot_at [] i d lt = absurd (omega arith)
slot_at (s ∷ slots) zero d lt = refl
slot_at (s ∷ slots) (suc i) d lt = slot_at slots i d (omega arith)

module _ (now : ℕ) (dues : List ℕ) (slots : List Slot) (due : AreDue dues slots) (p : ℕ) (begins : p % 64 ≡ 0) (later : now < due_at dues (p / 64)) where
  calm_at : (i : ℕ) → p ≤ i → i < p + 64 → (judged_slot now (slot slots i) ≡ slot slots i) × (unsure_slot now (slot slots i) ≡ None)
  calm_at i le lt = by_slot (slot slots i) refl
    where
      by_slot : (s : Slot) → slot slots i ≡ s → (judged_slot now s ≡ s) × (unsure_slot now s ≡ None)
      by_slot None e = (refl, refl)
      by_slot (Some c) e =
          let d : IsNoLater (due_at dues (p / 64)) c = subst (λ (b : ℕ). IsNoLater (due_at dues b) c) (in_block i p begins le lt) (due i c e) in
          calm_slot now (due_at dues (p / 64)) c later d

  pub judged_over : on_rest (p + 64) (map (judged_slot now)) slots ≡ on_rest p (map (judged_slot now)) slots
  judged_over = unchanged_over (λ (i : ℕ). on_rest i (map (judged_slot now)) slots) 64 p (λ i a b. map_skip (judged_slot now) i slots None (λ lt. (calm_at i a b).0))

  pub unsure_over : filter_map (unsure_slot now) (drop (p + 64) slots) ≡ filter_map (unsure_slot now) (drop p slots)
  unsure_over = unchanged_over (λ (i : ℕ). filter_map (unsure_slot now) (drop i slots)) 64 p (λ i a b. map_past (unsure_slot now) i slots None (λ lt. (calm_at i a b).1))

-- NONE of a block is before the least that was found
earlier_same : (m n : ℕ) → m ≤ n → earlier (Some m) (Some n) ≡ Some m
earlier_same m n le = ap (λ (k : ℕ). Some k) (omega arith)

late_slot : (m n : ℕ) (s : Slot) → m ≤ n → ((c : OpenCall) → s ≡ Some c → IsNoLater n c) → earlier (Some m) (deadline_slot s) ≡ Some m
late_slot m n None le due = refl
late_slot m n (Some c) le due = elim (cases_Bool c.waits) [
  | inl y ↦ (let l = (due c refl).waits y in rw y (earlier_same m c.deadline (omega arith)))
  | inr idle ↦ rw idle refl
]

pub earlier_in : (a b c : Option ℕ) → earlier (earlier a b) c ≡ earlier a (earlier b c)
earlier_in None b c = refl
earlier_in (Some m) None c = refl
earlier_in (Some m) (Some n) None = refl
earlier_in (Some m) (Some n) (Some o) = ap (λ (k : ℕ). Some k) (omega arith)

pub earlier_none : (a : Option ℕ) → earlier a None ≡ a
earlier_none None = refl
earlier_none (Some m) = refl

least_suc : (i : ℕ) (slots : List Slot) (best : Option ℕ) → i < length slots → earlier (earlier best (deadline_slot (slot slots i))) (earliest deadline_slot (drop (suc i) slots)) ≡ earlier best (earliest deadline_slot (drop i slots))
least_suc i [] best lt = absurd (omega arith)
least_suc zero (s ∷ slots) best lt = earlier_in best (deadline_slot s) (earliest deadline_slot slots)
least_suc (suc i) (s ∷ slots) best lt = least_suc i slots best (omega arith)

pub least_stepped : (i : ℕ) (slots : List Slot) (best after target : Option ℕ) → i < length slots → after ≡ earlier best (deadline_slot (slot slots i))
    → earlier best (earliest deadline_slot (drop i slots)) ≡ target → earlier after (earliest deadline_slot (drop (i + 1) slots)) ≡ target
least_stepped i slots best after target lt is so =
    subst (λ (o : Option ℕ). earlier o (earliest deadline_slot (drop (i + 1) slots)) ≡ target) (sym is)
    (subst (λ (k : ℕ). earlier (earlier best (deadline_slot (slot slots i))) (earliest deadline_slot (drop k slots)) ≡ target) (sym (add-one i)) (least_suc i slots best lt ∙ so))

pub least_end : (i : ℕ) (slots : List Slot) (best : Option ℕ) → length slots ≤ i → earlier best (earliest deadline_slot (drop i slots)) ≡ best
least_end zero [] best le = earlier_none best
least_end (suc i) [] best le = earlier_none best
least_end zero (s ∷ slots) best le = absurd (omega arith)
least_end (suc i) (s ∷ slots) best le = least_end i slots best (omega arith)

module _ (m : ℕ) (dues : List ℕ) (slots : List Slot) (due : AreDue dues slots) (p : ℕ) (begins : p % 64 ≡ 0) (later : m ≤ due_at dues (p / 64)) where
  late_at : (i : ℕ) → p ≤ i → i < p + 64 → earlier (Some m) (earliest deadline_slot (drop (i + 1) slots)) ≡ earlier (Some m) (earliest deadline_slot (drop i slots))
  late_at i le lt = elim (cases_lt i (length slots)) [
    | inl within ↦
        let same : earlier (Some m) (deadline_slot (slot slots i)) ≡ Some m = late_slot m (due_at dues (p / 64)) (slot slots i) later (λ c e. subst (λ (b : ℕ). IsNoLater (due_at dues b) c) (in_block i p begins le lt) (due i c e)) in
        least_stepped i slots (Some m) (Some m) (earlier (Some m) (earliest deadline_slot (drop i slots))) within (sym same) refl
    | inr past ↦ least_end (i + 1) slots (Some m) (omega arith) ∙ sym (least_end i slots (Some m) past)
  ]

  pub least_over : earlier (Some m) (earliest deadline_slot (drop (p + 64) slots)) ≡ earlier (Some m) (earliest deadline_slot (drop p slots))
  least_over = unchanged_over (λ (i : ℕ). earlier (Some m) (earliest deadline_slot (drop i slots))) 64 p late_at

pub least_passed : (m : ℕ) (dues : List ℕ) (slots : List Slot) (p : ℕ) (least target : Option ℕ) → AreDue dues slots → least ≡ Some m → p % 64 ≡ 0 → m ≤ due_at dues (p / 64)
    → earlier least (earliest deadline_slot (drop p slots)) ≡ target → earlier least (earliest deadline_slot (drop (p + 64) slots)) ≡ target
least_passed m dues slots p least target due is begins later so =
    ap (λ (o : Option ℕ). earlier o (earliest deadline_slot (drop (p + 64) slots))) is
    ∙ least_over m dues slots due p begins later
    ∙ sym (ap (λ (o : Option ℕ). earlier o (earliest deadline_slot (drop p slots))) is) ∙ so

-- THE STEP of a judgement
module _ (now i : ℕ) (slots after : List Slot) (y d : Slot) (lt : i < length slots) (after_is : after ≡ set slots i y) where
  rest_is : drop (i + 1) after ≡ drop (i + 1) slots
  rest_is = ap (λ (xs : List Slot). drop (i + 1) xs) after_is ∙ drop-set-lt (i + 1) slots i y (omega arith)

  unsure_more : filter_map (unsure_slot now) (drop i slots) ≡ filter_map (unsure_slot now) (get_or slots i d ∷ []) ++ filter_map (unsure_slot now) (drop (i + 1) after)
  unsure_more = ap (λ (xs : List Slot). filter_map (unsure_slot now) xs) (drop_more slots i d lt) ∙ split (get_or slots i d) (drop (i + 1) slots) ∙ sym (ap (λ (xs : List Slot). filter_map (unsure_slot now) (get_or slots i d ∷ []) ++ filter_map (unsure_slot now) xs) rest_is)
    where
      split : (s : Slot) (xs : List Slot) → filter_map (unsure_slot now) (s ∷ xs) ≡ filter_map (unsure_slot now) (s ∷ []) ++ filter_map (unsure_slot now) xs
      split s xs = by_option (unsure_slot now s)
        where
          by_option : (o : Option Happening) → cons_option o (filter_map (unsure_slot now) xs) ≡ cons_option o [] ++ filter_map (unsure_slot now) xs
          by_option None = refl
          by_option (Some h) = refl

  pub told_stepped : (hs hs' target : List Happening) → hs' ≡ hs ++ filter_map (unsure_slot now) (get_or slots i d ∷ []) → hs ++ filter_map (unsure_slot now) (drop i slots) ≡ target → hs' ++ filter_map (unsure_slot now) (drop (i + 1) after) ≡ target
  told_stepped hs hs' target is so =
      ap (λ (xs : List Happening). xs ++ filter_map (unsure_slot now) (drop (i + 1) after)) is
      ∙ append_assoc hs (filter_map (unsure_slot now) (get_or slots i d ∷ [])) (filter_map (unsure_slot now) (drop (i + 1) after))
      ∙ sym (ap (λ (xs : List Happening). hs ++ xs) unsure_more) ∙ so

  pub room_stepped : (len len' cap cap' : ℕ) → len' ≡ len + length (filter_map (unsure_slot now) (get_or slots i d ∷ [])) → cap ≤ cap' → len + length (filter_map (unsure_slot now) (drop i slots)) ≤ cap → len' + length (filter_map (unsure_slot now) (drop (i + 1) after)) ≤ cap'
  room_stepped len len' cap cap' is more room =
      let e : length (filter_map (unsure_slot now) (drop i slots)) ≡ length (filter_map (unsure_slot now) (get_or slots i d ∷ [])) + length (filter_map (unsure_slot now) (drop (i + 1) after)) = ap (λ (hs : List Happening). length hs) unsure_more ∙ length-append (filter_map (unsure_slot now) (get_or slots i d ∷ [])) (filter_map (unsure_slot now) (drop (i + 1) after)) in
      omega arith

  pub due_stepped : (dues : List ℕ) → AreDue dues slots → y ≡ judged_slot now (get_or slots i d) → AreDue dues after
  due_stepped dues due y_is =
      subst (λ (xs : List Slot). AreDue dues xs) (sym after_is)
      (each_set (λ j c. IsNoLater (due_at dues (block_of j)) c) slots i y lt due here)
    where
      here : (c : OpenCall) → y ≡ Some c → IsNoLater (due_at dues (block_of i)) c
      here c h = by_slot (get_or slots i d) refl
        where
          by_slot : (s : Slot) → get_or slots i d ≡ s → IsNoLater (due_at dues (block_of i)) c
          by_slot None e = (let n : None ≡ Some c = sym (ap (judged_slot now) e) ∙ sym y_is ∙ h in absurd cc)
          by_slot (Some b) e = due_judged now (due_at dues (block_of i)) b c (due i b (sym (slot_at slots i d lt) ∙ e)) (sym (ap (judged_slot now) e) ∙ sym y_is ∙ h)

pub due_all_judged : (now : ℕ) (dues : List ℕ) (slots after : List Slot) → after ≡ map (judged_slot now) slots → AreDue dues slots → AreDue dues after
due_all_judged now dues slots after is due = subst (λ (xs : List Slot). AreDue dues xs) (sym is) (due_map (judged_slot now) refl (λ m c d h l. due_judged now m c d l h) dues slots due)

-- THE LEAST of a block
pub least_stepped_in : (begin i least least' n : ℕ) (slots : List Slot) → least' ≤ least → least' ≤ n → ((c : OpenCall) → slot slots i ≡ Some c → IsNoLater n c)
    → Each (λ j c. begin ≤ j → j < i → IsNoLater least c) slots → Each (λ j c. begin ≤ j → j < i + 1 → IsNoLater least' c) slots
least_stepped_in begin i least least' n slots le len here each j c h from to =
    elim (cases_eq j i) [
      | inl same ↦ sooner least' n c len (here c (subst (λ (k : ℕ). slot slots k ≡ Some c) same h))
      | inr apart ↦ sooner least' least c le (each j c h from (omega arith))
    ]

pub least_of_block : (block begin place least : ℕ) (slots : List Slot) → begin ≡ block * 64 → ((i : ℕ) → i < length slots → i < begin + 64 → i < place) → Each (λ j c. begin ≤ j → j < place → IsNoLater least c) slots → Each (λ j c. block_of j ≡ block → IsNoLater least c) slots
least_of_block block begin place least slots begins all each j c h is =
    let w = slot_within slots j c h in
    let b : j / 64 ≡ block = is in
    each j c h (omega arith) (all j w (omega arith))

pub due_renewed : (block least : ℕ) (dues : List ℕ) (slots : List Slot) → block < length dues → AreDue dues slots → Each (λ j c. block_of j ≡ block → IsNoLater least c) slots → AreDue (set dues block least) slots
due_renewed block least dues slots lt due least_is i c h =
    elim (cases_eq (block_of i) block) [
      | inl same ↦ subst (λ (m : ℕ). IsNoLater m c) (sym (ap (λ (b : ℕ). due_at (set dues block least) b) same ∙ get_or-set_same dues block least 0 lt)) (least_is i c h same)
      | inr apart ↦ subst (λ (m : ℕ). IsNoLater m c) (sym (get_or-set_other dues block (block_of i) least 0 apart)) (due i c h)
    ]

pub due_push : (dues : List ℕ) (b : ℕ) → due_at (dues ++ 0 ∷ []) b ≡ due_at dues b
due_push [] zero = refl
due_push [] (suc b) = refl
due_push (d ∷ dues) zero = refl
due_push (d ∷ dues) (suc b) = due_push dues b

pub found_noted : (first place : ℕ) (dues dues' : List ℕ) (numbers numbers' : List (ℕ × Span)) (flows flows' : List (Flow × Span)) → ((b : ℕ) → due_at dues' b ≤ due_at dues b)
    → ((n i : ℕ) → i ≤ place → IsInSpan (lookup (nat_eq n) numbers) i → IsInSpan (lookup (nat_eq n) numbers') i)
    → ((f : Flow) (i : ℕ) → i ≤ place → IsInSpan (lookup (equal_flows f) flows) i → IsInSpan (lookup (equal_flows f) flows') i)
    → (i : ℕ) (c : OpenCall) → i ≤ place → IsFound first dues numbers flows i c → IsFound first dues' numbers' flows' i c
found_noted first place dues dues' numbers numbers' flows flows' sooner_due more_numbers more_flows i c le f = record {
  behind = f.behind;
  due = sooner (due_at dues' (block_of i)) (due_at dues (block_of i)) c (sooner_due (block_of i)) f.due;
  numbered = λ w. more_numbers (to_u64 c.number) i le (f.numbered w);
  flowing = λ l. more_flows c.flow i le (f.flowing l);
}

pub due_touched : (dues dues' : List ℕ) (slots after : List Slot) (i : ℕ) (s x : Slot) → i < length slots → ((b : ℕ) → due_at dues' b ≤ due_at dues b) → ((c : OpenCall) → get_or after i x ≡ Some c → IsNoLater (due_at dues' (block_of i)) c)
    → AreDue dues slots → after ≡ set slots i s → AreDue dues' after
due_touched dues dues' slots after i s x lt earlier_due here due is =
    subst (λ (xs : List Slot). AreDue dues' xs) (sym is)
    (each_written (λ j c. IsNoLater (due_at dues' (block_of j)) c) slots i s lt
    (λ j c apart h. sooner (due_at dues' (block_of j)) (due_at dues (block_of j)) c (earlier_due (block_of j)) (due j c h))
    (λ c h. here c (ap (λ (xs : List Slot). get_or xs i x) is ∙ get_or-set_same slots i s x lt ∙ h)))
