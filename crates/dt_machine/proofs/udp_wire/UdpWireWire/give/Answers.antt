use Rattle.std.proofs.Common.{rules}
use Rattle.dt_machine.proofs.udp_wire.UdpWireWire.give.Goals as goal

-- refused here: a_give_is_not_counted
pub returns-then-sent-clause-given : goal.returns-then-sent-clause-given
returns-then-sent-clause-given g c = search rules
