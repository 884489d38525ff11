use Rattle.std.proofs.Common.{ℕ, ap, ◌∙◌, ◌≡◌, ◌<◌, ◌≤◌, List, length, false, is_some, subst, sym, arith}
use Rattle.std.specs.Prelude.{filter}
use Rattle.dt_table.specs.Places.{present, slot}
use Rattle.dt_service_model.specs.declared.calls.OpenCall.{OpenCall}
use Rattle.dt_open_calls.specs.Slots.{Slot}
use Rattle.dt_open_calls.proofs.Present.{waiting_present}
use Rattle.dt_open_calls.proofs.Kept.{kept_behind, kept_waiting}
use Rattle.dt_open_calls.proofs.open_calls.OpenCalls.keep_waiting.Goals as goal

pub invariant_of-self : goal.invariant_of-self
invariant_of-self c =
    let o = c.self.inside in
    let first = o.index.first in
    let after = c.keep_waiting.new.slots.items in
    let next = c.next_taken-self-inside.result in
    let e = c.deref.ensures.value in
    let kept = kept_waiting o.waiting first o.index.dues.items o.index.numbers.entries o.index.flows.entries o.slots.items after c.self.invariant c.keep_waiting.ensures in
    kept_behind o.waiting first next o.index.dues.items o.index.numbers.entries o.index.flows.entries after kept
    (subst (λ (xs : List Slot). next ≤ length xs) e (c.next_taken-self-inside.ensures.within (subst (λ (xs : List Slot). first ≤ length xs) (sym e) kept.within)))
    (subst (λ (xs : List Slot). (i : ℕ) → first ≤ i → i < next → is_some (slot xs i) ≡ false) e c.next_taken-self-inside.ensures.empty)

pub returns : goal.returns
returns c = ap present c.keep_waiting.ensures ∙ waiting_present c.self.inside.slots.items ∙ ap (λ (calls : List OpenCall). filter (λ (call : OpenCall). call.waits) calls) c.self.view_is
