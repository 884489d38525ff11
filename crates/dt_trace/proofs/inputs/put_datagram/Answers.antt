use Rattle.std.proofs.Common.{rules}
use Rattle.dt_trace.proofs.inputs.put_datagram.Goals as goal

-- refused here: empty_datagram_is_nothing
pub returns-then-is_empty : goal.returns-then-is_empty
returns-then-is_empty g c = search rules
