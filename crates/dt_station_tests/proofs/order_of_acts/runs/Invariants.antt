use Rattle.std.proofs.Common.{◌≤◌}
use Rattle.dt_station_tests.proofs.order_of_acts.runs.Given as goal

-- no event is before one that was
abbrev pub invariant-loop-now : goal.invariant-loop-now
invariant-loop-now g l = l.host.latest ≤ l.latest
