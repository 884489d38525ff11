use Rattle.std.proofs.Common.{rules}
use Rattle.dt_log.proofs.line_forms.put_told.Goals as goal

-- refused here: node_of_the_world
pub returns-in-None : goal.returns-in-None
returns-in-None g c = search rules
