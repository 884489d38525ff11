use Rattle.std.proofs.Common.{◌≤◌}
use Rattle.dt_flow_model.specs.Keeping.{taken_by}
use Rattle.dt_flow_tests.proofs.senders.goes.Given as goal

abbrev pub invariant-loop-now : goal.invariant-loop-now
invariant-loop-now g l = taken_by l.sender.state ≤ l.taken
