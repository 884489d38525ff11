use Rattle.std.proofs.Common.{rules}
use Rattle.dt_c.proofs.calls.opens.Goals as goal

-- refused here: node_is_opened_over_another
pub returns-in-Err : goal.returns-in-Err
returns-in-Err c = search rules
