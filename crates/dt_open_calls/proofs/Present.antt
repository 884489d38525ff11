-- What is done in the places is done to the calls in them.
use Rattle.std.proofs.Common.{ℕ, zero, suc, ◌+◌, ◌-◌, ◌≡◌, ◌<◌, ◌≤◌, Bool, true, false, List, [], ◌∷◌, ◌++◌, length, map, set, get_or, drop, Option, Some, None, refl, ap, sym, subst, ◌∙◌, ◌⊎◌, inl, inr, arith, cond}
use Rattle.std.specs.Prelude.{◌&&◌, ◌||◌, count_by, filter, filter_map, is_some, nat_le, nat_lt, not, option_map, if◌then◌else◌}
use Rattle.std.specs.List.{cons_option, list_any, position, position_or_len, sum_by}
use Rattle.std.proofs.lemmas.Bool.{cases_Bool, cases_lt}
use Rattle.std.proofs.lemmas.Bool.Decides.{nat_tests}
use Rattle.std.proofs.lemmas.List.Sums.{sum_by-cons}
use Rattle.dt_units.specs.declared.endpoints.Flow.{Flow}
use Rattle.dt_units.specs.Moments.{earlier}
use Rattle.dt_world_model.specs.Host.{one_if}
use Rattle.dt_world_model.specs.Tables.{earliest, same_flow, total}
use Rattle.dt_table.specs.Places.{present, slot}
use Rattle.dt_service_model.specs.declared.calls.OpenCall.{OpenCall}
use Rattle.dt_service_model.specs.declared.calls.Cause.{Cause}
use Rattle.dt_service_model.specs.declared.happenings.Happening.{Happening}
use Rattle.dt_service_model.specs.Ends.{cause_of, is_kept, judged_as, judged_call, unsure_of}
use Rattle.dt_service_model.specs.Hearing.{with_fate, with_fates}
use Rattle.dt_service_model.specs.Turns.{deadline_of}
use Rattle.dt_service_model.specs.Whole.{answered_at, ended}
use Rattle.dt_open_calls.specs.Slots.{Slot, count_past, deadline_slot, ended_in, ended_slot, fated, fated_slot, first_of, judged_slot, kept_slot, rest_of, slot_is, unsure_slot, waiting_slot, waits_in}

-- ONE MORE
pub present_push : (slots : List Slot) (call : OpenCall) → present (slots ++ Some call ∷ []) ≡ present slots ++ call ∷ []
present_push [] call = refl
present_push (None ∷ slots) call = present_push slots call
present_push (Some c ∷ slots) call = ap (λ (cs : List OpenCall). c ∷ cs) (present_push slots call)

pub total_push : (slots : List Slot) (call : OpenCall) → total waits_in (slots ++ Some call ∷ []) ≡ total waits_in slots + one_if call.waits
total_push [] call = omega arith
total_push (s ∷ slots) call = let t = total_push slots call in omega arith

one_at_most : (s : Slot) → waits_in s ≤ 1
one_at_most None = omega arith
one_at_most (Some call) = elim (cases_Bool call.waits) [ inl y ↦ rw y (omega arith) | inr n ↦ rw n (omega arith) ]

pub total_within : (slots : List Slot) → total waits_in slots ≤ length slots
total_within [] = omega arith
total_within (s ∷ slots) = let t = total_within slots in let o = one_at_most s in omega arith

pub slot_push_new : (slots : List Slot) (i : ℕ) (s : Slot) → i ≡ length slots → slot (slots ++ s ∷ []) i ≡ s
slot_push_new [] i s e = rw e refl
slot_push_new (x ∷ slots) zero s e = absurd (omega arith)
slot_push_new (x ∷ slots) (suc i) s e = slot_push_new slots i s (omega arith)

pub slot_push_old : (slots : List Slot) (i : ℕ) (s : Slot) → i < length slots → slot (slots ++ s ∷ []) i ≡ slot slots i
slot_push_old [] i s lt = absurd (omega arith)
slot_push_old (x ∷ slots) zero s lt = refl
slot_push_old (x ∷ slots) (suc i) s lt = slot_push_old slots i s (omega arith)

pub slot_push_past : (slots : List Slot) (i : ℕ) (s : Slot) → length slots < i → slot (slots ++ s ∷ []) i ≡ None
slot_push_past [] zero s lt = absurd (omega arith)
slot_push_past [] (suc i) s lt = refl
slot_push_past (x ∷ slots) zero s lt = absurd (omega arith)
slot_push_past (x ∷ slots) (suc i) s lt = slot_push_past slots i s (omega arith)

-- WHAT IS ASKED of all
pub any_present : (test : OpenCall → Bool) (slots : List Slot) → list_any (slot_is test) slots ≡ list_any test (present slots)
any_present test [] = refl
any_present test (None ∷ slots) = any_present test slots
any_present test (Some call ∷ slots) = ap (λ (b : Bool). test call || b) (any_present test slots)

pub earliest_present : (slots : List Slot) → earliest deadline_slot slots ≡ earliest deadline_of (present slots)
earliest_present [] = refl
earliest_present (None ∷ slots) = earliest_present slots
earliest_present (Some call ∷ slots) = ap (λ (o : Option ℕ). earlier (deadline_of call) o) (earliest_present slots)

as_one : (b : Bool) → one_if b ≡ cond b 1 0
as_one true = refl
as_one false = refl

pub counted_present : (slots : List Slot) → total waits_in slots ≡ count_by (λ (call : OpenCall). call.waits) (present slots)
counted_present [] = refl
counted_present (None ∷ slots) = let rest : total waits_in slots ≡ count_by (λ (call : OpenCall). call.waits) (present slots) = counted_present slots in omega arith
counted_present (Some call ∷ slots) =
    let rest = counted_present slots in
    let more = sum_by-cons (λ (c : OpenCall). cond c.waits 1 0) call (present slots) in
    let one = as_one call.waits in
    omega arith

-- EACH IS JUDGED
kept_first : (b : Bool) (call : OpenCall) (xs : List Slot) (ys : List OpenCall) → present xs ≡ ys → present ((if b then Some call else None) ∷ xs) ≡ cond b (call ∷ ys) ys
kept_first true call xs ys e = ap (λ (cs : List OpenCall). call ∷ cs) e
kept_first false call xs ys e = e

pub judged_present : (now : ℕ) (slots : List Slot) → present (map (judged_slot now) slots) ≡ filter is_kept (map (judged_call now) (present slots))
judged_present now [] = refl
judged_present now (None ∷ slots) = judged_present now slots
judged_present now (Some call ∷ slots) =
    kept_first (is_kept (judged_call now call)) (judged_call now call) (map (judged_slot now) slots) (filter is_kept (map (judged_call now) (present slots))) (judged_present now slots)

pub unsure_present : (now : ℕ) (slots : List Slot) → filter_map (unsure_slot now) slots ≡ filter_map (unsure_of now) (present slots)
unsure_present now [] = refl
unsure_present now (None ∷ slots) = unsure_present now slots
unsure_present now (Some call ∷ slots) = ap (λ (hs : List Happening). cons_option (unsure_of now call) hs) (unsure_present now slots)

-- one that is unsure waited and waits no more
one_unsure : (now : ℕ) (s : Slot) → waits_in (judged_slot now s) + length (filter_map (unsure_slot now) (s ∷ [])) ≡ waits_in s
one_unsure now None = omega arith
one_unsure now (Some call) =
    elim (cases_Bool call.waits) [
      | inr n ↦ elim (cases_Bool (nat_lt 0 call.left)) [ inl l ↦ rw (n, l) refl | inr l ↦ rw (n, l) refl ]
      | inl y ↦
          elim (cases_Bool call.has_given_up) [
            | inl g ↦ elim (cases_Bool (nat_lt 0 call.left)) [ inl l ↦ rw (y, g, l) refl | inr l ↦ rw (y, g, l) refl ]
            | inr g ↦
                elim (cases_Bool (nat_le call.deadline now)) [
                  | inl d ↦ elim (cases_Bool (nat_lt 0 call.left)) [ inl l ↦ rw (y, g, d, l) refl | inr l ↦ rw (y, g, d, l) refl ]
                  | inr d ↦ rw (y, g, d) refl
                ]
          ]
    ]

unsure_length : (now : ℕ) (s : Slot) (slots : List Slot) → length (filter_map (unsure_slot now) (s ∷ slots)) ≡ length (filter_map (unsure_slot now) (s ∷ [])) + length (filter_map (unsure_slot now) slots)
unsure_length now s slots = by_option (unsure_slot now s)
  where
    by_option : (o : Option Happening) → length (cons_option o (filter_map (unsure_slot now) slots)) ≡ length (cons_option o []) + length (filter_map (unsure_slot now) slots)
    by_option None = omega arith
    by_option (Some h) = omega arith

pub total_judged : (now : ℕ) (slots : List Slot) → total waits_in (map (judged_slot now) slots) + length (filter_map (unsure_slot now) slots) ≡ total waits_in slots
total_judged now [] = omega arith
total_judged now (s ∷ slots) =
    let rest = total_judged now slots in
    let one = one_unsure now s in
    let long = unsure_length now s slots in
    omega arith

-- OCTETS HAVE THEIR FATE
pub fated_present : (g : Bool) (f : Flow) (count : ℕ) (slots : List Slot) → present (fated g f count slots) ≡ with_fates g f count (present slots)
fated_present g f count [] = refl
fated_present g f count (None ∷ slots) = fated_present g f count slots
fated_present g f count (Some call ∷ slots) =
    elim (cases_Bool (same_flow call.flow f)) [
      | inl y ↦ rw y (ap (λ (cs : List OpenCall). with_fate g count call ∷ cs) (fated_present g f (count - call.left) slots))
      | inr n ↦ rw n (ap (λ (cs : List OpenCall). call ∷ cs) (fated_present g f count slots))
    ]

waits_as_before : (g : Bool) (f : Flow) (count : ℕ) (s : Slot) → waits_in (fated_slot g f count s) ≡ waits_in s
waits_as_before g f count None = refl
waits_as_before g f count (Some call) = elim (cases_Bool (same_flow call.flow f)) [ inl y ↦ rw y refl | inr n ↦ rw n refl ]

pub total_fated : (g : Bool) (f : Flow) (count : ℕ) (slots : List Slot) → total waits_in (fated g f count slots) ≡ total waits_in slots
total_fated g f count [] = refl
total_fated g f count (s ∷ slots) =
    let rest = total_fated g f (count_past f count s) slots in
    let one = waits_as_before g f count s in
    omega arith

-- THOSE THAT WAIT are kept
pub waiting_present : (slots : List Slot) → present (map waiting_slot slots) ≡ filter (λ (call : OpenCall). call.waits) (present slots)
waiting_present [] = refl
waiting_present (None ∷ slots) = waiting_present slots
waiting_present (Some call ∷ slots) = kept_first call.waits call (map waiting_slot slots) (filter (λ (c : OpenCall). c.waits) (present slots)) (waiting_present slots)

kept_waits : (b : Bool) (call : OpenCall) → call.waits ≡ b → waits_in (if b then Some call else None) ≡ one_if call.waits
kept_waits true call e = refl
kept_waits false call e = sym (ap one_if e)

waits_if_kept : (s : Slot) → waits_in (waiting_slot s) ≡ waits_in s
waits_if_kept None = refl
waits_if_kept (Some call) = kept_waits call.waits call refl

pub total_waiting : (slots : List Slot) → total waits_in (map waiting_slot slots) ≡ total waits_in slots
total_waiting [] = refl
total_waiting (s ∷ slots) = let rest = total_waiting slots in let one = waits_if_kept s in omega arith

-- ONE IS FOUND by a test
module _ (test : OpenCall → Bool) where
  before_first : (call : OpenCall) (calls : List OpenCall) → test call ≡ true → position_or_len test (call ∷ calls) ≡ 0
  before_first call calls y = ap (λ (b : Bool). cond (not b) (1 + position_or_len test calls) 0) y

  zero_lt : (k : ℕ) → nat_lt 0 (suc k) ≡ true
  zero_lt k = grind (arith, nat_tests)

  found_first : (call : OpenCall) (calls : List OpenCall) → test call ≡ true → position test (call ∷ calls) ≡ Some 0
  found_first call calls y =
      ap (λ (n : ℕ). cond (nat_lt n (suc (length calls))) (Some n) None) (before_first call calls y)
      ∙ ap (λ (b : Bool). cond b (Some 0) None) (zero_lt (length calls))

  before_later : (call : OpenCall) (calls : List OpenCall) → test call ≡ false → position_or_len test (call ∷ calls) ≡ suc (position_or_len test calls)
  before_later call calls n = ap (λ (b : Bool). cond (not b) (1 + position_or_len test calls) 0) n ∙ omega arith

  shifted : (n k : ℕ) → cond (nat_lt (suc n) (suc k)) (Some (suc n)) None ≡ option_map suc (cond (nat_lt n k) (Some n) None)
  shifted n k =
      elim (cases_lt n k) [
        | inl lt ↦
            let a : nat_lt (suc n) (suc k) ≡ true = grind (arith, nat_tests) in
            let b : nat_lt n k ≡ true = grind (arith, nat_tests) in
            ap (λ (t : Bool). cond t (Some (suc n)) None) a ∙ sym (ap (λ (t : Bool). option_map suc (cond t (Some n) None)) b)
        | inr le ↦
            let a : nat_lt (suc n) (suc k) ≡ false = grind (arith, nat_tests) in
            let b : nat_lt n k ≡ false = grind (arith, nat_tests) in
            ap (λ (t : Bool). cond t (Some (suc n)) None) a ∙ sym (ap (λ (t : Bool). option_map suc (cond t (Some n) None)) b)
      ]

  found_later : (call : OpenCall) (calls : List OpenCall) → test call ≡ false → position test (call ∷ calls) ≡ option_map suc (position test calls)
  found_later call calls n =
      ap (λ (k : ℕ). cond (nat_lt k (suc (length calls))) (Some k) None) (before_later call calls n)
      ∙ shifted (position_or_len test calls) (length calls)

  pub none_found : (slots : List Slot) → ((i : ℕ) → slot_is test (slot slots i) ≡ false) → position test (present slots) ≡ None
  none_found [] none = refl
  none_found (None ∷ slots) none = none_found slots (λ i. none (suc i))
  none_found (Some call ∷ slots) none = found_later call (present slots) (none 0) ∙ ap (λ (o : Option ℕ). option_map suc o) (none_found slots (λ i. none (suc i)))

  ended_later : (call : OpenCall) (o : Option ℕ) (calls : List OpenCall) → ended_in (option_map suc o) (call ∷ calls) ≡ call ∷ ended_in o calls
  ended_later call None calls = refl
  ended_later call (Some place) calls = refl

  pub ended_present : (slots : List Slot) (i : ℕ) → slot_is test (slot slots i) ≡ true → ((j : ℕ) → j < i → slot_is test (slot slots j) ≡ false) → present (set slots i (ended_slot (slot slots i))) ≡ ended_in (position test (present slots)) (present slots)
  ended_present [] i here before = absurd cc
  ended_present (None ∷ slots) zero here before = absurd cc
  ended_present (Some call ∷ slots) zero here before = sym (ap (λ (o : Option ℕ). ended_in o (call ∷ present slots)) (found_first call (present slots) here))
  ended_present (None ∷ slots) (suc i) here before = ended_present slots i here (λ j lt. before (suc j) (omega arith))
  ended_present (Some call ∷ slots) (suc i) here before =
      ap (λ (cs : List OpenCall). call ∷ cs) (ended_present slots i here (λ j lt. before (suc j) (omega arith)))
      ∙ sym (ap (λ (o : Option ℕ). ended_in o (call ∷ present slots)) (found_later call (present slots) (before 0 (omega arith))) ∙ ended_later call (position test (present slots)) (present slots))

  some_later : (o : Option ℕ) → is_some (option_map suc o) ≡ is_some o
  some_later None = refl
  some_later (Some i) = refl

  pub is_found : (slots : List Slot) (i : ℕ) → slot_is test (slot slots i) ≡ true → is_some (position test (present slots)) ≡ true
  is_found [] i here = absurd cc
  is_found (None ∷ slots) zero here = absurd cc
  is_found (Some call ∷ slots) zero here = ap (λ (o : Option ℕ). is_some o) (found_first call (present slots) here)
  is_found (None ∷ slots) (suc i) here = is_found slots i here
  is_found (Some call ∷ slots) (suc i) here =
      elim (cases_Bool (test call)) [
        | inl y ↦ ap (λ (o : Option ℕ). is_some o) (found_first call (present slots) y)
        | inr n ↦ ap (λ (o : Option ℕ). is_some o) (found_later call (present slots) n) ∙ some_later (position test (present slots)) ∙ is_found slots i here
      ]

  pub any_found : (slots : List Slot) (i : ℕ) → slot_is test (slot slots i) ≡ true → list_any (slot_is test) slots ≡ true
  any_found [] i here = absurd cc
  any_found (s ∷ slots) zero here = rw here refl
  any_found (s ∷ slots) (suc i) here = elim (cases_Bool (slot_is test s)) [ inl y ↦ rw y refl | inr n ↦ rw n (any_found slots i here) ]

  pub not_any : (slots : List Slot) → ((i : ℕ) → slot_is test (slot slots i) ≡ false) → list_any (slot_is test) slots ≡ false
  not_any [] none = refl
  not_any (s ∷ slots) none = rw (none 0) (not_any slots (λ i. none (suc i)))

-- it waits no more
pub total_ended : (slots : List Slot) (i : ℕ) → slot_is (λ (call : OpenCall). call.waits) (slot slots i) ≡ true → total waits_in (set slots i (ended_slot (slot slots i))) + 1 ≡ total waits_in slots
total_ended [] i here = absurd cc
total_ended (None ∷ slots) zero here = absurd cc
total_ended (Some call ∷ slots) zero here = rw here (omega arith)
total_ended (s ∷ slots) (suc i) here = let rest = total_ended slots i here in omega arith

-- THE FIRST is taken
pub popped : (slots : List Slot) (i : ℕ) (call : OpenCall) → slot slots i ≡ Some call → ((j : ℕ) → j < i → slot slots j ≡ None) → present slots ≡ call ∷ present (set slots i None)
popped [] i call here before = absurd cc
popped (None ∷ slots) zero call here before = absurd cc
popped (Some c ∷ slots) zero call here before = let same : c ≡ call = cc in ap (λ (d : OpenCall). d ∷ present slots) same
popped (None ∷ slots) (suc i) call here before = popped slots i call here (λ j lt. before (suc j) (omega arith))
popped (Some c ∷ slots) (suc i) call here before = let none : Some c ≡ None = before 0 (omega arith) in absurd cc

pub total_popped : (slots : List Slot) (i : ℕ) (call : OpenCall) → slot slots i ≡ Some call → total waits_in (set slots i None) + one_if call.waits ≡ total waits_in slots
total_popped [] i call here = absurd cc
total_popped (None ∷ slots) zero call here = absurd cc
total_popped (Some c ∷ slots) zero call here = let same : c ≡ call = cc in rw same (omega arith)
total_popped (s ∷ slots) (suc i) call here = let rest = total_popped slots i call here in omega arith

pub nothing_present : (slots : List Slot) → ((i : ℕ) → slot slots i ≡ None) → present slots ≡ []
nothing_present [] none = refl
nothing_present (None ∷ slots) none = nothing_present slots (λ i. none (suc i))
nothing_present (Some call ∷ slots) none = let n : Some call ≡ None = none 0 in absurd cc

pub something_present : (slots : List Slot) (i : ℕ) → (slot slots i ≡ None → ⊥) → (call : OpenCall) × (calls : List OpenCall) × (present slots ≡ call ∷ calls)
something_present [] i some = absurd (some refl)
something_present (Some call ∷ slots) i some = (call, present slots, refl)
something_present (None ∷ slots) zero some = absurd (some refl)
something_present (None ∷ slots) (suc i) some = something_present slots i some
