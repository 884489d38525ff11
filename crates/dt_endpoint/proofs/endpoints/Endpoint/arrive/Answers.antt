use Rattle.std.proofs.Common.{rules}
use Rattle.dt_endpoint.proofs.endpoints.Endpoint.arrive.Goals as goal

-- refused here: wait_is_not_charged
pub returns-in-Ok : goal.returns-in-Ok
returns-in-Ok c = search rules
