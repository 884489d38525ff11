use Rattle.std.proofs.Common.{ℕ, ◌≡◌, ◌-◌, ◌<◌, ◌≤◌, true, false, is_some, not, length, set, List, Option, Some, None, ap, ◌∙◌, sym, subst, arith}
use Rattle.dt_world_model.specs.Host.{one_if}
use Rattle.dt_table.specs.Places.{present, slot}
use Rattle.dt_service_model.specs.declared.calls.OpenCall.{OpenCall}
use Rattle.dt_open_calls.specs.Slots.{AreKept, Slot, first_of, rest_of}
use Rattle.dt_open_calls.proofs.Kept.{empty_before, first_taken, kept_behind, kept_popped}
use Rattle.dt_open_calls.proofs.open_calls.OpenCalls.pop.Goals as goal

pub returns-in_default-clause-first : goal.returns-in_default-clause-first
returns-in_default-clause-first c =
    let o = c.self.inside in
    let place = c.next_taken-place.result in
    let e = c.deref.ensures.value in
    let before = empty_before o.waiting o.index.first o.index.dues.items o.index.numbers.entries o.index.flows.entries o.slots.items c.self.invariant place (subst (λ (xs : List Slot). (i : ℕ) → o.index.first ≤ i → i < place → is_some (slot xs i) ≡ false) e c.next_taken-place.ensures.empty) in
    let taken = subst (λ (xs : List Slot). place < length xs → is_some (slot xs place) ≡ true) e c.next_taken-place.ensures.taken in
    let t = first_taken o.slots.items place before taken in
    sym c.in_default.is ∙ c.take_at.ensures.call ∙ t.0 ∙ ap first_of c.self.view_is

pub returns-in_default-clause-others : goal.returns-in_default-clause-others
returns-in_default-clause-others c =
    let o = c.self.inside in
    let place = c.next_taken-place.result in
    let e = c.deref.ensures.value in
    let before = empty_before o.waiting o.index.first o.index.dues.items o.index.numbers.entries o.index.flows.entries o.slots.items c.self.invariant place (subst (λ (xs : List Slot). (i : ℕ) → o.index.first ≤ i → i < place → is_some (slot xs i) ≡ false) e c.next_taken-place.ensures.empty) in
    let taken = subst (λ (xs : List Slot). place < length xs → is_some (slot xs place) ≡ true) e c.next_taken-place.ensures.taken in
    let t = first_taken o.slots.items place before taken in
    ap present c.take_at.ensures.slots ∙ t.1 ∙ ap rest_of c.self.view_is

pub invariant_of-self-2 : goal.invariant_of-self-2
invariant_of-self-2 c =
    let o = c.self.inside in
    let first = o.index.first in
    let place = c.next_taken-place.result in
    let call = c.in-Some.call in
    let after = c.take_at.new.slots.items in
    let next = c.next_taken-self-inside.result in
    let e = c.deref-2.ensures.value in
    let here : slot o.slots.items place ≡ Some call = sym c.take_at.ensures.call ∙ c.in-Some.is in
    let popped : AreKept (o.waiting - one_if call.waits) first o.index.dues.items o.index.numbers.entries o.index.flows.entries after =
    subst (λ (xs : List Slot). AreKept (o.waiting - one_if call.waits) first o.index.dues.items o.index.numbers.entries o.index.flows.entries xs) (sym c.take_at.ensures.slots)
    (kept_popped o.waiting first place o.index.dues.items o.index.numbers.entries o.index.flows.entries o.slots.items call c.self.invariant here) in
    let kept : AreKept c.without_one-self-inside.result first o.index.dues.items o.index.numbers.entries o.index.flows.entries after =
    subst (λ (w : ℕ). AreKept w first o.index.dues.items o.index.numbers.entries o.index.flows.entries after) (sym c.without_one-self-inside.ensures) popped in
    kept_behind c.without_one-self-inside.result first next o.index.dues.items o.index.numbers.entries o.index.flows.entries after kept
    (subst (λ (xs : List Slot). next ≤ length xs) e (c.next_taken-self-inside.ensures.within (subst (λ (xs : List Slot). first ≤ length xs) (sym e) kept.within)))
    (subst (λ (xs : List Slot). (i : ℕ) → first ≤ i → i < next → is_some (slot xs i) ≡ false) e c.next_taken-self-inside.ensures.empty)

pub returns-clause-first : goal.returns-clause-first
returns-clause-first c =
    let o = c.self.inside in
    let place = c.next_taken-place.result in
    let e = c.deref.ensures.value in
    let before = empty_before o.waiting o.index.first o.index.dues.items o.index.numbers.entries o.index.flows.entries o.slots.items c.self.invariant place (subst (λ (xs : List Slot). (i : ℕ) → o.index.first ≤ i → i < place → is_some (slot xs i) ≡ false) e c.next_taken-place.ensures.empty) in
    let taken = subst (λ (xs : List Slot). place < length xs → is_some (slot xs place) ≡ true) e c.next_taken-place.ensures.taken in
    let t = first_taken o.slots.items place before taken in
    sym c.in-Some.is ∙ c.take_at.ensures.call ∙ t.0 ∙ ap first_of c.self.view_is

pub returns-clause-others : goal.returns-clause-others
returns-clause-others c =
    let o = c.self.inside in
    let place = c.next_taken-place.result in
    let e = c.deref.ensures.value in
    let before = empty_before o.waiting o.index.first o.index.dues.items o.index.numbers.entries o.index.flows.entries o.slots.items c.self.invariant place (subst (λ (xs : List Slot). (i : ℕ) → o.index.first ≤ i → i < place → is_some (slot xs i) ≡ false) e c.next_taken-place.ensures.empty) in
    let taken = subst (λ (xs : List Slot). place < length xs → is_some (slot xs place) ≡ true) e c.next_taken-place.ensures.taken in
    let t = first_taken o.slots.items place before taken in
    ap present c.take_at.ensures.slots ∙ t.1 ∙ ap rest_of c.self.view_is
