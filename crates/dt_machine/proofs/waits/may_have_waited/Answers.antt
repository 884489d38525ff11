use Rattle.std.proofs.Common.{rules}
use Rattle.dt_machine.proofs.waits.may_have_waited.Goals as goal

-- refused here: a_datagram_at_the_limit_is_dropped
pub returns : goal.returns
returns c = search rules
