use Rattle.dt_service_laws.proofs.Restarted.{first_kept}
use Rattle.dt_service_laws.proofs.worked.call_that_is_handed_out_keeps_the_duties.Goals as goal

-- src/worked.rt
pub returns-clause-duties : goal.returns-clause-duties
returns-clause-duties c = first_kept
