use Rattle.dt_audit_laws.proofs.SmallSteps.{begun_follows, step_followed}
use Rattle.dt_audit_laws.proofs.log_follows_each_small_step.Goals as goal

pub returns-clause-step : goal.returns-clause-step
returns-clause-step c p s after ins made step log h fit g f = step_followed p s after ins made step log h fit g f

pub returns-clause-begun : goal.returns-clause-begun
returns-clause-begun c p sender_zero receiver_zero = begun_follows p sender_zero receiver_zero
