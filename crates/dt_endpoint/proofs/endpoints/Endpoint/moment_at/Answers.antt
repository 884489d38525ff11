use Rattle.std.proofs.Common.{rules}
use Rattle.dt_endpoint.proofs.endpoints.Endpoint.moment_at.Goals as goal

-- refused here: clock_that_goes_back_is_followed
pub returns-clause-moment : goal.returns-clause-moment
returns-clause-moment c = search rules
