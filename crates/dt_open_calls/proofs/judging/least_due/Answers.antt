use Rattle.std.proofs.Common.{ℕ, rules, ◌≡◌, ◌<◌, ◌≤◌, ◌+◌, length, arith, sym, ◌∙◌}
use Rattle.dt_open_calls.proofs.Found.{least_of_block, least_stepped_in, slot_at}
use Rattle.dt_open_calls.proofs.judging.least_due.Goals as goal

pub loop-place-preserved : goal.loop-place-preserved
loop-place-preserved c =
    let lt : c.loop-place.place < length c.args.slots.now = omega arith in
    least_stepped_in _ c.loop-place.place c.loop-place.least _ c.due_in_slot.result c.args.slots.now (omega arith) (omega arith)
    (λ call h. c.due_in_slot.ensures call (slot_at c.args.slots.now c.loop-place.place _ lt ∙ h))
    c.loop-place.invariant

pub returns : goal.returns
returns c = least_of_block c.args.block _ c.loop-place.place c.loop-place.least c.args.slots.now (omega arith) (λ i within below. omega arith) c.loop-place.invariant
