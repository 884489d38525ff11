use Rattle.std.proofs.Common.{rules}
use Rattle.dt_audit.proofs.Agreement.{log_is_safe}
use Rattle.dt_audit.proofs.auditing.audit.Goals as goal

pub returns-in-Err-clause-safe : goal.returns-in-Err-clause-safe
returns-in-Err-clause-safe g c = log_is_safe c.args.bytes.now

pub returns-in_default-Err-clause-safe : goal.returns-in_default-Err-clause-safe
returns-in_default-Err-clause-safe g c = log_is_safe c.args.bytes.now

pub returns-in-None-Ok-clause-safe : goal.returns-in-None-Ok-clause-safe
returns-in-None-Ok-clause-safe g c = log_is_safe c.args.bytes.now

-- refused here: flaw_is_answered_with_yes
pub returns-in-Some-Ok-clause-ends : goal.returns-in-Some-Ok-clause-ends
returns-in-Some-Ok-clause-ends g c = search rules
