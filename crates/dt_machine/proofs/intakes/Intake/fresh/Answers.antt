use Rattle.std.proofs.Common.{◌∙◌, Some, ap}
use Rattle.dt_machine.proofs.Dropping.{drops-one-more}
use Rattle.dt_machine.proofs.intakes.Intake.fresh.Goals as goal

-- refused here: a_late_datagram_is_handed_over_before_one_that_is_in_time
pub loop-preserved : goal.loop-preserved
loop-preserved c = record {
  passed = drops-one-more _ _ _ _ c.loop.invariant.passed (c.first.ensures.late (c.in_ok-found.was ∙ ap Some c.in_default.is));
  room = c.first.ensures.same_room ∙ c.loop.invariant.room;
  empty = c.first.ensures.same.0 ∙ c.loop.invariant.empty;
  haste = c.first.ensures.same.1 ∙ c.loop.invariant.haste;
}
