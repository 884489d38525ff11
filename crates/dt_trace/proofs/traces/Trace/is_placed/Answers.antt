use Rattle.std.proofs.Common.{rules}
use Rattle.dt_trace.proofs.traces.Trace.is_placed.Goals as goal

-- refused here: give_may_come_again
pub returns-in-Failure : goal.returns-in-Failure
returns-in-Failure c = search rules
