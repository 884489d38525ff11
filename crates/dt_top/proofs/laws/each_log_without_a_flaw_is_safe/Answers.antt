use Rattle.dt_audit.proofs.Agreement.{log_is_safe}
use Rattle.dt_top.proofs.laws.each_log_without_a_flaw_is_safe.Goals as goal

pub returns : goal.returns
returns c = record { audited = log_is_safe }
