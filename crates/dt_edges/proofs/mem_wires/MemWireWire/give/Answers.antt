use Rattle.std.proofs.Common.{rules}
use Rattle.dt_edges.proofs.mem_wires.MemWireWire.give.Goals as goal

-- refused here: give_ignores_its_room
pub returns-clause-planned : goal.returns-clause-planned
returns-clause-planned c = search rules
