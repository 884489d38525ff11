use Rattle.std.proofs.Common.{ℕ, ◌≡◌, ◌-◌, ◌<◌, ◌≤◌, true, false, is_some, not, length, set, List, Option, Some, None, ap, ◌∙◌, sym, subst, arith}
use Rattle.dt_world_model.specs.Host.{one_if}
use Rattle.dt_table.specs.Places.{present, slot}
use Rattle.dt_service_model.specs.declared.calls.OpenCall.{OpenCall}
use Rattle.dt_open_calls.specs.Slots.{AreKept, Slot, first_of, rest_of}
use Rattle.dt_open_calls.proofs.Kept.{empty_before, past_all}
use Rattle.dt_open_calls.proofs.open_calls.OpenCalls.is_empty.Goals as goal

pub returns : goal.returns
returns c =
    let o = c.self.inside in
    let place = c.next_taken.result in
    let e = c.deref.ensures.value in
    let before = empty_before o.waiting o.index.first o.index.dues.items o.index.numbers.entries o.index.flows.entries o.slots.items c.self.invariant place (subst (λ (xs : List Slot). (i : ℕ) → o.index.first ≤ i → i < place → is_some (slot xs i) ≡ false) e c.next_taken.ensures.empty) in
    let taken = subst (λ (xs : List Slot). place < length xs → is_some (slot xs place) ≡ true) e c.next_taken.ensures.taken in
    let k = o.slots.ok.0 in
    let m = c.len.ensures in
    past_all o.slots.items place c.len.result before taken (omega arith) ∙ ap (λ (calls : List OpenCall). not (is_some (first_of calls))) c.self.view_is
