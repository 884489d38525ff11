use Rattle.dt_calls_laws.proofs.Stepping.{step_answers, step_facts, step_made}
use Rattle.dt_calls_laws.proofs.promise.step_keeps_the_facts_of_calls.Goals as goal

pub returns-clause-facts : goal.returns-clause-facts
returns-clause-facts c = step_facts

pub returns-clause-made : goal.returns-clause-made
returns-clause-made c = step_made

pub returns-clause-answers : goal.returns-clause-answers
returns-clause-answers c = step_answers
