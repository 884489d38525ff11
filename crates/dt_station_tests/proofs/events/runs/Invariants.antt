use Rattle.std.proofs.Common.{◌≡◌, ◌≤◌, false}
use Rattle.dt_station_tests.proofs.events.runs.Given as goal

-- it isn't spent, and no event is before one that was
abbrev pub invariant-loop-now : goal.invariant-loop-now
invariant-loop-now g l = (l.station.spent ≡ false) × (l.station.latest ≤ l.latest)
