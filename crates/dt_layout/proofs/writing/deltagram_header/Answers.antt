use Rattle.std.proofs.Common.{rules}
use Rattle.dt_layout.proofs.writing.deltagram_header.Goals as goal

-- refused here: nodes_are_swapped
pub returns : goal.returns
returns c = search rules
