use Rattle.std.proofs.Common.{arith}
use Rattle.dt_audit_laws.proofs.Running.{begun_logged, step_passes}
use Rattle.dt_audit_laws.proofs.log_of_each_step_passes.Goals as goal

pub returns-clause-begun : goal.returns-clause-begun
returns-clause-begun c setup can = begun_logged setup can

pub returns-clause-step : goal.returns-clause-step
returns-clause-step c count w book e lines after small can short h is = step_passes count w book e lines after (omega arith) can short h is
