-- The calls are counted and found, after each change.
use Rattle.std.proofs.Common.{ℕ, zero, suc, ◌+◌, ◌-◌, ◌≡◌, ◌≢◌, ◌<◌, ◌≤◌, ◌==◌, Bool, true, false, List, [], ◌∷◌, ◌++◌, length, map, set, Option, Some, None, is_some, leb, refl, ap, sym, subst, ◌∙◌, inl, inr, arith}
use Rattle.std.specs.Prelude.{◌&&◌, ◌||◌, filter_map, nat_eq, nat_le, nat_lt, not}
use Rattle.std.specs.List.{position}
use Rattle.std.specs.Map.{lookup}
use Rattle.std.proofs.lemmas.Bool.{cases_Bool, cases_eq, cases_lt, and_parts}
use Rattle.std.proofs.lemmas.Bool.Decides.{nat_tests}
use Rattle.std.proofs.lemmas.List.{length-set}
use Rattle.dt_units.specs.declared.endpoints.Flow.{Flow}
use Rattle.dt_world_model.specs.Host.{one_if}
use Rattle.dt_world_model.specs.Tables.{same_flow, total}
use Rattle.dt_world_model.proofs.Tables.{flow_is}
use Rattle.dt_table.specs.Places.{equal_flows, present, slot}
use Rattle.dt_service_model.specs.declared.calls.OpenCall.{OpenCall}
use Rattle.dt_service_model.specs.declared.names.CallNumber.{CallNumber}
use Rattle.dt_service_model.specs.Names.{number_with, same_number, to_u64}
use Rattle.dt_service_model.specs.Whole.{is_waiting_call, waits_anywhere}
use Rattle.dt_open_calls.specs.declared.spans.Span.{Span}
use Rattle.dt_open_calls.specs.Slots.{AreDue, AreKept, count_past, Each, IsFound, IsInSpan, Slot, ended_in, ended_slot, fated, first_of, has_octets_on, judged_slot, rest_of, slot_is, unsure_slot, waiting_slot, waits_in}
use Rattle.dt_open_calls.proofs.Present.{any_found, any_present, none_found, not_any, nothing_present, popped, slot_push_new, slot_push_old, slot_push_past, total_ended, total_fated, total_judged, total_popped, total_push, total_waiting}
use Rattle.dt_open_calls.proofs.Found.{StemAll, Stems, due_found, due_waiting, each_written, found_after, slot_within, stem_judged, stem_waiting}
use Rattle.dt_open_calls.proofs.Settled.{slot_true, stem_fated}

abbrev Spans : Type 0
Spans = List (ℕ × Span)

abbrev FlowSpans : Type 0
FlowSpans = List (Flow × Span)

length_push : (slots : List Slot) (s : Slot) → length (slots ++ s ∷ []) ≡ suc (length slots)
length_push [] s = refl
length_push (x ∷ slots) s = ap suc (length_push slots s)

pub kept_noted : (w first first' : ℕ) (dues dues' : List ℕ) (numbers numbers' : Spans) (flows flows' : FlowSpans) (slots : List Slot) → AreKept w first dues numbers flows slots → first' ≡ first
    → ((i : ℕ) (c : OpenCall) → i ≤ length slots → IsFound first dues numbers flows i c → IsFound first' dues' numbers' flows' i c) → AreKept w first' dues' numbers' flows' slots
kept_noted w first first' dues dues' numbers numbers' flows flows' slots kept same others = record {
  counted = kept.counted;
  within = (let k = kept.within in omega arith);
  found = λ i c h. others i c (let l = slot_within slots i c h in omega arith) (kept.found i c h);
}

pub kept_pushed : (w w' first : ℕ) (dues : List ℕ) (numbers : Spans) (flows : FlowSpans) (slots : List Slot) (call : OpenCall) → AreKept w first dues numbers flows slots → IsFound first dues numbers flows (length slots) call → w' ≡ w + one_if call.waits
    → AreKept w' first dues numbers flows (slots ++ Some call ∷ [])
kept_pushed w w' first dues numbers flows slots call kept here more = record {
  counted = (let t = total_push slots call in let k = kept.counted in omega arith);
  within = (let l = length_push slots (Some call) in let k = kept.within in omega arith);
  found = each;
}
  where
    each : Each (IsFound first dues numbers flows) (slots ++ Some call ∷ [])
    each i c h =
        elim (cases_lt i (length slots)) [
          | inl old ↦ kept.found i c (sym (slot_push_old slots i (Some call) old) ∙ h)
          | inr le ↦
              elim (cases_eq i (length slots)) [
                | inl same ↦
                    let e : Some call ≡ Some c = sym (slot_push_new slots i (Some call) same) ∙ h in
                    let is : call ≡ c = cc in
                    subst (λ (x : OpenCall). IsFound first dues numbers flows i x) is (subst (λ (k : ℕ). IsFound first dues numbers flows k call) (sym same) here)
                | inr apart ↦ (let e : None ≡ Some c = sym (slot_push_past slots i (Some call) (omega arith)) ∙ h in absurd cc)
              ]
        ]

ended_is : (s : Slot) (d : OpenCall) → ended_slot s ≡ Some d → (c : OpenCall) × (s ≡ Some c) × (d.waits ≡ false) × (d.flow ≡ c.flow) × (d.left ≡ c.left)
ended_is None d h = absurd cc
ended_is (Some c) d h = (c, refl, cc, cc, cc)

pub kept_ended : (w first place key : ℕ) (dues dues' : List ℕ) (numbers numbers' : Spans) (flows : FlowSpans) (slots after : List Slot) → AreKept w first dues numbers flows slots → place < length slots
    → slot_is (λ (call : OpenCall). call.waits) (slot slots place) ≡ true → after ≡ set slots place (ended_slot (slot slots place)) → AreDue dues' after
    → ((n i : ℕ) → (n ≡ key → i ≢ place) → IsInSpan (lookup (nat_eq n) numbers) i → IsInSpan (lookup (nat_eq n) numbers') i) → AreKept (w - 1) first dues' numbers' flows after
kept_ended w first place key dues dues' numbers numbers' flows slots after kept lt waits after_is due others = record {
  counted = (let t = total_ended slots place waits in let k = kept.counted in ap (λ (n : ℕ). n - 1) k ∙ (let same : total waits_in after ≡ total waits_in (set slots place (ended_slot (slot slots place))) = ap (λ (xs : List Slot). total waits_in xs) after_is in omega arith));
  within = (let l : length after ≡ length slots = ap (λ (xs : List Slot). length xs) after_is ∙ length-set slots place (ended_slot (slot slots place)) in let k = kept.within in omega arith);
  found = λ i d h. subst (λ (xs : List Slot). (AreDue dues' xs → Each (IsFound first dues' numbers' flows) xs)) (sym after_is) each due i d h;
}
  where
    each : AreDue dues' (set slots place (ended_slot (slot slots place))) → Each (IsFound first dues' numbers' flows) (set slots place (ended_slot (slot slots place)))
    each now_due i d h =
        each_written (λ j c. slot (set slots place (ended_slot (slot slots place))) j ≡ Some c → IsFound first dues' numbers' flows j c) slots place (ended_slot (slot slots place)) lt
        (λ j c apart at there. let f = kept.found j c at in record {
          behind = f.behind;
          due = now_due j c there;
          numbered = λ y. others (to_u64 c.number) j (λ e. apart) (f.numbered y);
          flowing = f.flowing;
        })
        (λ c at there. let e = ended_is (slot slots place) c at in let f = kept.found place e.0 e.1 in record {
          behind = f.behind;
          due = now_due place c there;
          numbered = λ y. (let n : c.waits ≡ false = e.2 in absurd cc);
          flowing = λ l. subst (λ (g : Flow). IsInSpan (lookup (equal_flows g) flows) place) (sym e.3) (f.flowing (subst (λ (n : ℕ). nat_lt 0 n ≡ true) e.4 l));
        })
        i d h h

pub kept_judged : (now w first : ℕ) (dues dues' : List ℕ) (numbers : Spans) (flows : FlowSpans) (slots after : List Slot) → AreKept w first dues numbers flows slots → after ≡ map (judged_slot now) slots → AreDue dues' after
    → AreKept (w - length (filter_map (unsure_slot now) slots)) first dues' numbers flows after
kept_judged now w first dues dues' numbers flows slots after kept after_is due = record {
  counted = (let t = total_judged now slots in let k = kept.counted in let same : total waits_in after ≡ total waits_in (map (judged_slot now) slots) = ap (λ (xs : List Slot). total waits_in xs) after_is in omega arith);
  within = (let l : length after ≡ length slots = ap (λ (xs : List Slot). length xs) after_is ∙ length_map slots in let k = kept.within in omega arith);
  found = found_after first dues dues' numbers flows slots after kept.found (subst (λ (xs : List Slot). StemAll slots xs) (sym after_is) (stem_judged now slots)) due;
}
  where
    length_map : (xs : List Slot) → length (map (judged_slot now) xs) ≡ length xs
    length_map [] = refl
    length_map (x ∷ xs) = ap suc (length_map xs)

length_fated : (g : Bool) (f : Flow) (count : ℕ) (slots : List Slot) → length (fated g f count slots) ≡ length slots
length_fated g f count [] = refl
length_fated g f count (s ∷ slots) = ap suc (length_fated g f (count_past f count s) slots)

pub kept_fated : (g : Bool) (f : Flow) (count w first : ℕ) (dues dues' : List ℕ) (numbers : Spans) (flows flows' : FlowSpans) (slots after : List Slot) → AreKept w first dues numbers flows slots → after ≡ fated g f count slots → AreDue dues' after
    → ((h : Flow) → same_flow h f ≡ false → lookup (equal_flows h) flows' ≡ lookup (equal_flows h) flows)
    → ((i : ℕ) (c : OpenCall) → slot after i ≡ Some c → has_octets_on f c ≡ true → IsInSpan (lookup (equal_flows f) flows) i → IsInSpan (lookup (equal_flows f) flows') i)
    → AreKept w first dues' numbers flows' after
kept_fated g f count w first dues dues' numbers flows flows' slots after kept after_is due others here = record {
  counted = (let t = total_fated g f count slots in let k = kept.counted in let same : total waits_in after ≡ total waits_in (fated g f count slots) = ap (λ (xs : List Slot). total waits_in xs) after_is in omega arith);
  within = (let l : length after ≡ length slots = ap (λ (xs : List Slot). length xs) after_is ∙ length_fated g f count slots in let k = kept.within in omega arith);
  found = λ i c h. let p = found i c h in record {
    behind = p.behind;
    due = p.due;
    numbered = p.numbered;
    flowing = λ l. elim (cases_Bool (same_flow c.flow f)) [
      | inl y ↦
          let is : c.flow ≡ f = flow_is c.flow f y in
          subst (λ (e : Flow). IsInSpan (lookup (equal_flows e) flows') i) (sym is) (here i c h (rw (y, l) refl) (subst (λ (e : Flow). IsInSpan (lookup (equal_flows e) flows) i) is (p.flowing l)))
      | inr n ↦ subst (λ (o : Option Span). IsInSpan o i) (sym (others c.flow n)) (p.flowing l)
    ];
  };
}
  where
    found : Each (IsFound first dues' numbers flows) after
    found = found_after first dues dues' numbers flows slots after kept.found (subst (λ (xs : List Slot). StemAll slots xs) (sym after_is) (stem_fated g f count slots)) due

-- THE FIRST PLACE that may be taken moves on over empty ones
pub kept_behind : (w first first' : ℕ) (dues : List ℕ) (numbers : Spans) (flows : FlowSpans) (slots : List Slot) → AreKept w first dues numbers flows slots → first' ≤ length slots → ((i : ℕ) → first ≤ i → i < first' → is_some (slot slots i) ≡ false) → AreKept w first' dues numbers flows slots
kept_behind w first first' dues numbers flows slots kept within empty = record {
  counted = kept.counted;
  within = within;
  found = λ i c h. let f = kept.found i c h in record {
    behind = elim (cases_lt i first') [ inl lt ↦ (let none = empty i f.behind lt in let some : is_some (slot slots i) ≡ true = ap is_some h in absurd cc) | inr le ↦ le ];
    due = f.due;
    numbered = f.numbered;
    flowing = f.flowing;
  };
}

pub kept_waiting : (w first : ℕ) (dues : List ℕ) (numbers : Spans) (flows : FlowSpans) (slots after : List Slot) → AreKept w first dues numbers flows slots → after ≡ map waiting_slot slots → AreKept w first dues numbers flows after
kept_waiting w first dues numbers flows slots after kept after_is = subst (λ (xs : List Slot). AreKept w first dues numbers flows xs) (sym after_is) (record {
  counted = kept.counted ∙ sym (total_waiting slots);
  within = (let l = length_map slots in let k = kept.within in omega arith);
  found = found_after first dues dues numbers flows slots (map waiting_slot slots) kept.found (stem_waiting slots) (due_waiting dues slots (due_found first dues numbers flows slots kept.found));
})
  where
    length_map : (xs : List Slot) → length (map waiting_slot xs) ≡ length xs
    length_map [] = refl
    length_map (x ∷ xs) = ap suc (length_map xs)

pub kept_popped : (w first place : ℕ) (dues : List ℕ) (numbers : Spans) (flows : FlowSpans) (slots : List Slot) (call : OpenCall) → AreKept w first dues numbers flows slots → slot slots place ≡ Some call → AreKept (w - one_if call.waits) first dues numbers flows (set slots place None)
kept_popped w first place dues numbers flows slots call kept here = record {
  counted = (let t = total_popped slots place call here in let k = kept.counted in omega arith);
  within = (let l = length-set slots place None in let k = kept.within in omega arith);
  found = each_written (IsFound first dues numbers flows) slots place None (slot_within slots place call here) (λ j c apart h. kept.found j c h) (λ c h. absurd cc);
}

-- WHERE A CALL IS, by its number and by its flow
number_is : (m n : CallNumber) → same_number m n ≡ true → m ≡ n
number_is m n h =
    let parts = and_parts (m.life == n.life) (m.count == n.count) h in
    let life : m.life ≡ n.life = (let t = parts.0 in grind (arith, nat_tests)) in
    let count : m.count ≡ n.count = (let t = parts.1 in grind (arith, nat_tests)) in
    ap (λ (k : ℕ). number_with k m.count) life ∙ ap (λ (k : ℕ). number_with n.life k) count

abbrev pub waits_by : CallNumber → OpenCall → Bool
waits_by n call = call.waits && same_number call.number n

within_span : (o : Option Span) (s : Span) (i : ℕ) → o ≡ Some s → IsInSpan o i → (s.first ≤ i) × (i ≤ s.last)
within_span o s i e h = subst (λ (p : Option Span). IsInSpan p i) e h

within_none : (o : Option Span) (i : ℕ) → o ≡ None → IsInSpan o i → ⊥
within_none o i e h = subst (λ (p : Option Span). IsInSpan p i) e h

waiting_is : (f : Flow) (n : CallNumber) (s : Slot) → slot_is (is_waiting_call f n) s ≡ true → slot_is (waits_by n) s ≡ true
waiting_is f n None h = absurd cc
waiting_is f n (Some c) h = (and_parts (c.waits && same_number c.number n) (same_flow c.flow f) h).0

pub waits_there : (f : Flow) (n : CallNumber) (s : Slot) → slot_is (is_waiting_call f n) s ≡ true → slot_is (λ (call : OpenCall). call.waits) s ≡ true
waits_there f n None h = absurd cc
waits_there f n (Some c) h = (and_parts c.waits (same_number c.number n) (waiting_is f n (Some c) h)).0

module _ (w first : ℕ) (dues : List ℕ) (numbers : Spans) (flows : FlowSpans) (slots : List Slot) (kept : AreKept w first dues numbers flows slots) where
  numbered_at : (n : CallNumber) (i : ℕ) → slot_is (waits_by n) (slot slots i) ≡ true → IsInSpan (lookup (nat_eq (to_u64 n)) numbers) i
  numbered_at n i h =
      let t = slot_true (waits_by n) (slot slots i) h in
      let parts = and_parts t.0.waits (same_number t.0.number n) t.2 in
      subst (λ (m : CallNumber). IsInSpan (lookup (nat_eq (to_u64 m)) numbers) i) (number_is t.0.number n parts.1) ((kept.found i t.0 t.1).numbered parts.0)

  pub flowing_at : (f : Flow) (i : ℕ) (c : OpenCall) → slot slots i ≡ Some c → has_octets_on f c ≡ true → IsInSpan (lookup (equal_flows f) flows) i
  flowing_at f i c h o =
      let parts = and_parts (same_flow c.flow f) (nat_lt 0 c.left) o in
      subst (λ (g : Flow). IsInSpan (lookup (equal_flows g) flows) i) (flow_is c.flow f parts.0) ((kept.found i c h).flowing parts.1)

  -- nowhere
  no_number : (n : CallNumber) → lookup (nat_eq (to_u64 n)) numbers ≡ None → (i : ℕ) → slot_is (waits_by n) (slot slots i) ≡ false
  no_number n none i = elim (cases_Bool (slot_is (waits_by n) (slot slots i))) [
    | inl y ↦ absurd (within_none (lookup (nat_eq (to_u64 n)) numbers) i none (numbered_at n i y))
    | inr f ↦ f
  ]

  pub waits_nowhere : (n : CallNumber) → lookup (nat_eq (to_u64 n)) numbers ≡ None → false ≡ waits_anywhere n (present slots)
  waits_nowhere n none = sym (sym (any_present (waits_by n) slots) ∙ not_any (waits_by n) slots (no_number n none))

  pub waits_is : (n : CallNumber) (s : Span) (result : Bool) → lookup (nat_eq (to_u64 n)) numbers ≡ Some s → (result ≡ true → (i : ℕ) × (slot_is (waits_by n) (slot slots i) ≡ true))
      → (result ≡ false → (i : ℕ) → s.first ≤ i → i ≤ s.last → slot_is (waits_by n) (slot slots i) ≡ false) → result ≡ waits_anywhere n (present slots)
  waits_is n s result is there nay = elim (cases_Bool result) [
    | inl y ↦ (let at = there y in y ∙ sym (sym (any_present (waits_by n) slots) ∙ any_found (waits_by n) slots at.0 at.1))
    | inr f ↦ f ∙ sym (sym (any_present (waits_by n) slots) ∙ not_any (waits_by n) slots (λ i. elim (cases_Bool (slot_is (waits_by n) (slot slots i))) [
      | inl y ↦ (let r = within_span (lookup (nat_eq (to_u64 n)) numbers) s i is (numbered_at n i y) in let k = nay f i r.0 r.1 in absurd cc)
      | inr g ↦ g
    ]))
  ]

  -- the call that waits on a flow
  not_waiting : (f : Flow) (n : CallNumber) (i : ℕ) → (IsInSpan (lookup (nat_eq (to_u64 n)) numbers) i → slot_is (is_waiting_call f n) (slot slots i) ≡ false) → slot_is (is_waiting_call f n) (slot slots i) ≡ false
  not_waiting f n i there = elim (cases_Bool (slot_is (is_waiting_call f n) (slot slots i))) [
    | inl y ↦ there (numbered_at n i (waiting_is f n (slot slots i) y))
    | inr g ↦ g
  ]

  pub nowhere_waiting : (f : Flow) (n : CallNumber) → lookup (nat_eq (to_u64 n)) numbers ≡ None → position (is_waiting_call f n) (present slots) ≡ None
  nowhere_waiting f n none = none_found (is_waiting_call f n) slots (λ i. not_waiting f n i (λ r. absurd (within_none (lookup (nat_eq (to_u64 n)) numbers) i none r)))

  pub none_in_span : (f : Flow) (n : CallNumber) (s : Span) → lookup (nat_eq (to_u64 n)) numbers ≡ Some s → ((i : ℕ) → s.first ≤ i → i ≤ s.last → slot_is (is_waiting_call f n) (slot slots i) ≡ false) → position (is_waiting_call f n) (present slots) ≡ None
  none_in_span f n s is none = none_found (is_waiting_call f n) slots (λ i. not_waiting f n i (λ r. let p = within_span (lookup (nat_eq (to_u64 n)) numbers) s i is r in none i p.0 p.1))

  pub none_before : (f : Flow) (n : CallNumber) (s : Span) (place : ℕ) → lookup (nat_eq (to_u64 n)) numbers ≡ Some s → ((i : ℕ) → s.first ≤ i → i < place → slot_is (is_waiting_call f n) (slot slots i) ≡ false) → (j : ℕ) → j < place → slot_is (is_waiting_call f n) (slot slots j) ≡ false
  none_before f n s place is before j lt = not_waiting f n j (λ r. before j (within_span (lookup (nat_eq (to_u64 n)) numbers) s j is r).0 lt)

  pub place_in_span : (f : Flow) (n : CallNumber) (s : Span) (place : ℕ) → lookup (nat_eq (to_u64 n)) numbers ≡ Some s → slot_is (is_waiting_call f n) (slot slots place) ≡ true → (s.first ≤ place) × (place ≤ s.last)
  place_in_span f n s place is here = within_span (lookup (nat_eq (to_u64 n)) numbers) s place is (numbered_at n place (waiting_is f n (slot slots place) here))

  -- octets of a flow
  pub no_flow : (f : Flow) → lookup (equal_flows f) flows ≡ None → (j : ℕ) (c : OpenCall) → slot slots j ≡ Some c → has_octets_on f c ≡ true → ⊥
  no_flow f none j c h o = within_none (lookup (equal_flows f) flows) j none (flowing_at f j c h o)

  pub flow_span : (f : Flow) (s : Span) → lookup (equal_flows f) flows ≡ Some s → Each (λ i call. has_octets_on f call ≡ true → (s.first ≤ i) × (i ≤ s.last)) slots
  flow_span f s is i c h o = within_span (lookup (equal_flows f) flows) s i is (flowing_at f i c h o)

  -- the first place that isn't empty
  pub empty_before : (place : ℕ) → ((i : ℕ) → first ≤ i → i < place → is_some (slot slots i) ≡ false) → (j : ℕ) → j < place → slot slots j ≡ None
  empty_before place empty j lt = by_slot (slot slots j) refl
    where
      by_slot : (s : Slot) → slot slots j ≡ s → slot slots j ≡ None
      by_slot None e = e
      by_slot (Some c) e = (let le = (kept.found j c e).behind in let none = empty j le lt in let some : is_some (slot slots j) ≡ true = ap is_some e in absurd cc)

slot_past : (slots : List Slot) (i : ℕ) → length slots ≤ i → slot slots i ≡ None
slot_past [] i le = refl
slot_past (s ∷ slots) zero le = absurd (omega arith)
slot_past (s ∷ slots) (suc i) le = slot_past slots i (omega arith)

set_past : (slots : List Slot) (i : ℕ) (s : Slot) → length slots ≤ i → set slots i s ≡ slots
set_past [] i s le = refl
set_past (x ∷ slots) zero s le = absurd (omega arith)
set_past (x ∷ slots) (suc i) s le = ap (λ (xs : List Slot). x ∷ xs) (set_past slots i s (omega arith))

pub first_taken : (slots : List Slot) (place : ℕ) → ((j : ℕ) → j < place → slot slots j ≡ None) → (place < length slots → is_some (slot slots place) ≡ true) → (slot slots place ≡ first_of (present slots)) × (present (set slots place None) ≡ rest_of (present slots))
first_taken slots place before taken = by_slot (slot slots place) refl
  where
    by_slot : (s : Slot) → slot slots place ≡ s → (slot slots place ≡ first_of (present slots)) × (present (set slots place None) ≡ rest_of (present slots))
    by_slot (Some call) e = (let p = popped slots place call e before in (e ∙ sym (ap first_of p), sym (ap rest_of p)))
    by_slot None e =
        elim (cases_lt place (length slots)) [
          | inl lt ↦ (let some = taken lt in let none : is_some (slot slots place) ≡ false = ap is_some e in absurd cc)
          | inr le ↦
              let all : present slots ≡ [] = nothing_present slots (λ j. elim (cases_lt j place) [ inl l ↦ before j l | inr m ↦ slot_past slots j (omega arith) ]) in
              (e ∙ sym (ap first_of all), ap present (set_past slots place None le) ∙ all ∙ sym (ap rest_of all))
        ]

pub is_past_all : (slots : List Slot) (place : ℕ) → (place < length slots → is_some (slot slots place) ≡ true) → (length slots ≤ place → is_some (slot slots place) ≡ false) × (is_some (slot slots place) ≡ false → length slots ≤ place)
is_past_all slots place taken = (λ le. ap is_some (slot_past slots place le), λ none. elim (cases_lt place (length slots)) [ inl lt ↦ (let some = taken lt in absurd cc) | inr le ↦ le ])

-- the spans of a flow that is done, or begins later
pub narrowed : (f : Flow) (first last : ℕ) (done : Bool) (flows flows' : FlowSpans) (after : List Slot) → Each (λ i call. has_octets_on f call ≡ true → (first ≤ i) × (i ≤ last)) after
    → (done ≡ true → (last ≤ first) × (slot_is (has_octets_on f) (slot after first) ≡ false))
    → ((i : ℕ) → done ≡ false → first ≤ i → IsInSpan (lookup (equal_flows f) flows) i → IsInSpan (lookup (equal_flows f) flows') i)
    → (i : ℕ) (c : OpenCall) → slot after i ≡ Some c → has_octets_on f c ≡ true → IsInSpan (lookup (equal_flows f) flows) i → IsInSpan (lookup (equal_flows f) flows') i
narrowed f first last done flows flows' after reached is_done here i c h o r =
    let p = reached i c h o in
    elim (cases_Bool done) [
      | inr more ↦ here i more p.0 r
      | inl y ↦
          let d = is_done y in
          let same : i ≡ first = omega arith in
          let some : slot_is (has_octets_on f) (slot after first) ≡ true = subst (λ (k : ℕ). slot_is (has_octets_on f) (slot after k) ≡ true) same (ap (slot_is (has_octets_on f)) h ∙ o) in
          let none = d.1 in
          absurd cc
    ]

pub past_all : (slots : List Slot) (place n : ℕ) → ((j : ℕ) → j < place → slot slots j ≡ None) → (place < length slots → is_some (slot slots place) ≡ true) → n ≡ length slots → leb n place ≡ not (is_some (first_of (present slots)))
past_all slots place n before taken is =
    let t = first_taken slots place before taken in
    elim (cases_lt place (length slots)) [
      | inl lt ↦
          let f : is_some (first_of (present slots)) ≡ true = ap is_some (sym t.0) ∙ taken lt in
          let b : leb n place ≡ false = grind (arith, nat_tests) in
          b ∙ sym (ap not f)
      | inr le ↦
          let f : is_some (first_of (present slots)) ≡ false = ap is_some (sym t.0) ∙ ap is_some (slot_past slots place le) in
          let b : leb n place ≡ true = grind (arith, nat_tests) in
          b ∙ sym (ap not f)
    ]

pub not_found : (test : OpenCall → Bool) (calls now : List OpenCall) → calls ≡ now → position test calls ≡ None → (false ≡ is_some (position test now)) × (now ≡ ended_in (position test now) now)
not_found test calls now e p =
    let q : position test now ≡ None = ap (λ (cs : List OpenCall). position test cs) (sym e) ∙ p in
    (sym (ap is_some q), sym (ap (λ (o : Option ℕ). ended_in o now) q))
