use Rattle.std.proofs.Common.{ℕ, ◌≡◌, ◌≤◌, ◌++◌, ◌∷◌, [], length, ap, ◌∙◌, List, sym, subst, arith}
use Rattle.dt_table.specs.Places.{present}
use Rattle.dt_service_model.specs.declared.calls.OpenCall.{OpenCall}
use Rattle.dt_open_calls.specs.Slots.{AreKept, IsFound, Slot}
use Rattle.dt_open_calls.proofs.Present.{present_push, total_within}
use Rattle.dt_open_calls.proofs.Kept.{kept_noted, kept_pushed}
use Rattle.dt_open_calls.proofs.open_calls.OpenCalls.add.Goals as goal

pub invariant_of-self : goal.invariant_of-self
invariant_of-self c =
    let o = c.self.inside in
    let n = c.add.new.self in
    let at : c.len-place.result ≡ length o.slots.items = (let k = o.slots.ok.0 in let m = c.len-place.ensures in omega arith) in
    kept_noted o.waiting o.index.first n.first o.index.dues.items n.dues.items o.index.numbers.entries n.numbers.entries o.index.flows.entries n.flows.entries o.slots.items c.self.invariant c.in_err-add.ensures.first (λ i d le f. c.in_err-add.ensures.others i d (omega arith) f)

pub invariant_of-self-in_err-push : goal.invariant_of-self-in_err-push
invariant_of-self-in_err-push c =
    let o = c.self.inside in
    let n = c.add.new.self in
    let at : c.len-place.result ≡ length o.slots.items = (let k = o.slots.ok.0 in let m = c.len-place.ensures in omega arith) in
    subst (λ (xs : List Slot). AreKept o.waiting n.first n.dues.items n.numbers.entries n.flows.entries xs) (sym c.in_err-push.ensures.items)
    (kept_noted o.waiting o.index.first n.first o.index.dues.items n.dues.items o.index.numbers.entries n.numbers.entries o.index.flows.entries n.flows.entries o.slots.items c.self.invariant c.in_ok-add.ensures.first (λ i d le f. c.in_ok-add.ensures.others i d (omega arith) f))

pub with_one-self-inside-requires : goal.with_one-self-inside-requires
with_one-self-inside-requires c = omega (arith, total_within c.self.inside.slots.items, c.self.invariant.counted)

pub invariant_of-self-2 : goal.invariant_of-self-2
invariant_of-self-2 c =
    let o = c.self.inside in
    let n = c.add.new.self in
    let at : c.len-place.result ≡ length o.slots.items = (let k = o.slots.ok.0 in let m = c.len-place.ensures in omega arith) in
    subst (λ (xs : List Slot). AreKept c.with_one-self-inside.result n.first n.dues.items n.numbers.entries n.flows.entries xs) (sym c.in_ok-push.ensures.items)
    (kept_pushed o.waiting c.with_one-self-inside.result n.first n.dues.items n.numbers.entries n.flows.entries o.slots.items c.args.call
    (kept_noted o.waiting o.index.first n.first o.index.dues.items n.dues.items o.index.numbers.entries n.numbers.entries o.index.flows.entries n.flows.entries o.slots.items c.self.invariant c.in_ok-add.ensures.first (λ i d le f. c.in_ok-add.ensures.others i d (omega arith) f))
    (subst (λ (k : ℕ). IsFound n.first n.dues.items n.numbers.entries n.flows.entries k c.args.call) at c.in_ok-add.ensures.here)
    c.with_one-self-inside.ensures)

pub returns-clause-made : goal.returns-clause-made
returns-clause-made c =
    ap present c.in_ok-push.ensures.items ∙ present_push c.self.inside.slots.items c.args.call ∙ ap (λ (calls : List OpenCall). calls ++ c.args.call ∷ []) c.self.view_is
