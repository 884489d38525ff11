use Rattle.dt_open_calls.proofs.Found.{least_passed}
use Rattle.dt_open_calls.proofs.judging.deadline.Goals as goal

pub loop-place-preserved-then-is_late : goal.loop-place-preserved-then-is_late
loop-place-preserved-then-is_late c =
    let h = c.is_late.ensures c.if-is_late.true in
    least_passed h.0 c.args.dues.now c.args.slots.now c.loop-place.place c.loop-place.least _ c.requires h.1 h.2 h.3 c.loop-place.invariant
