use Rattle.std.proofs.Common.{rules}
use Rattle.dt_edges.proofs.mem_clocks.MemClockClock.now.Goals as goal

-- refused here: clock_skips_a_reading
pub returns-clause-planned : goal.returns-clause-planned
returns-clause-planned c = search rules
