use Rattle.dt_open_calls.specs.Slots.{AreDue}
use Rattle.dt_open_calls.proofs.judging.renew_dues.Given as goal

abbrev pub invariant-loop-block : goal.invariant-loop-block
invariant-loop-block l = AreDue l.dues.items l.slots
