use Rattle.std.proofs.Common.{rules}
use Rattle.dt_service.proofs.services.Service.wake.Goals as goal

-- refused here: deadline_wakes_nobody
pub returns : goal.returns
returns c = search rules
