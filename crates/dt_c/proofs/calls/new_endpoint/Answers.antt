use Rattle.std.proofs.Common.{rules}
use Rattle.dt_c.proofs.calls.new_endpoint.Goals as goal

-- refused here: restart_is_forgotten
pub returns : goal.returns
returns c = search rules
