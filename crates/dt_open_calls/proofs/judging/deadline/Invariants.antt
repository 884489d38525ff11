use Rattle.std.proofs.Common.{◌≡◌, ◌-◌, drop, length}
use Rattle.dt_units.specs.Moments.{earlier}
use Rattle.dt_world_model.specs.Tables.{earliest}
use Rattle.dt_open_calls.specs.Slots.{deadline_slot}
use Rattle.dt_open_calls.proofs.judging.deadline.Given as goal

abbrev pub invariant-loop-place : goal.invariant-loop-place
invariant-loop-place l = earlier l.least (earliest deadline_slot (drop l.place l.slots)) ≡ earliest deadline_slot l.fn.slots

abbrev pub decreases-loop-place : goal.decreases-loop-place
decreases-loop-place l = length l.slots - l.place
