use Rattle.std.proofs.Common.{rules}
use Rattle.dt_machine.proofs.udp_wire.UdpWireWire.open.Goals as goal

-- refused here: the_local_address_is_forgotten
pub returns-clause-opened : goal.returns-clause-opened
returns-clause-opened g c = search rules
