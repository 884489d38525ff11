use Rattle.dt_calls_laws.proofs.Stepping.{run_answers, run_served_once}
use Rattle.dt_calls_laws.proofs.promise.each_call_is_served_at_most_once.Goals as goal

pub returns-clause-once : goal.returns-clause-once
returns-clause-once c = run_served_once

pub returns-clause-answers : goal.returns-clause-answers
returns-clause-answers c = run_answers
