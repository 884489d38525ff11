use Rattle.dt_service_laws.proofs.Unlisted.{all_kept}
use Rattle.dt_service_laws.proofs.worked.unlisted_client_is_answered.Goals as goal

-- src/worked.rt
pub returns-clause-duties : goal.returns-clause-duties
returns-clause-duties c = all_kept
