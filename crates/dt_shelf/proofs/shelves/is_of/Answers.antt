use Rattle.std.proofs.Common.{rules}
use Rattle.dt_shelf.proofs.shelves.is_of.Goals as goal

-- refused here: other_flow_is_taken
pub returns-then-eq : goal.returns-then-eq
returns-then-eq c = search rules
