use Rattle.std.proofs.Common.{◌≡◌}
use Rattle.dt_station_tests.proofs.memory.is_spent_behind.Given as goal

abbrev pub invariant-loop-number : goal.invariant-loop-number
invariant-loop-number g l = l.station.latest ≡ 0
