use Rattle.std.proofs.Common.{rules}
use Rattle.dt_endpoint.proofs.guards.Guard.judge_flow.Goals as goal

-- refused here: one_flow_too_many_is_admitted
pub returns : goal.returns
returns c = search rules
