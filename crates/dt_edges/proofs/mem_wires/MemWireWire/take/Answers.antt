use Rattle.std.proofs.Common.{rules}
use Rattle.dt_edges.proofs.mem_wires.MemWireWire.take.Goals as goal

-- refused here: take_finds_nothing
pub returns-clause-found : goal.returns-clause-found
returns-clause-found c = search rules
