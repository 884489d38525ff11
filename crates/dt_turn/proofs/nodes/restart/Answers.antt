use Rattle.std.proofs.Common.{rules}
use Rattle.dt_turn.proofs.nodes.restart.Goals as goal

-- refused here: node_that_begins_again_is_not_silent
pub returns-then-again : goal.returns-then-again
returns-then-again c = search rules
