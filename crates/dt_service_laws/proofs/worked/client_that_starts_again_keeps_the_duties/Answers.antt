use Rattle.dt_service_laws.proofs.Restarted.{all_kept}
use Rattle.dt_service_laws.proofs.worked.client_that_starts_again_keeps_the_duties.Goals as goal

-- src/worked.rt
pub returns : goal.returns
returns c = all_kept
