use Rattle.dt_service_model.proofs.Making.{call_keeps}
use Rattle.dt_service_model.proofs.Turning.{end_keeps, turn_keeps}
use Rattle.dt_service_model.proofs.laws.call_waits_or_ends_once.Goals as goal

pub returns-clause-turn : goal.returns-clause-turn
returns-clause-turn c = λ n now event x. turn_keeps n now event x

pub returns-clause-end : goal.returns-clause-end
returns-clause-end c = λ n now x. end_keeps n now x

pub returns-clause-call : goal.returns-clause-call
returns-clause-call c = λ n now f payload patience x. call_keeps n now f payload patience x
