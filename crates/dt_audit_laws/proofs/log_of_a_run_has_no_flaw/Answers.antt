use Rattle.dt_audit_laws.proofs.Running.{run_has_no_flaw}
use Rattle.dt_audit_laws.proofs.log_of_a_run_has_no_flaw.Goals as goal

pub returns : goal.returns
returns c setup events can happen short small = run_has_no_flaw setup events can happen short small
