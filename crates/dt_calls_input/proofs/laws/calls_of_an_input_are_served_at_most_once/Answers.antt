use Rattle.dt_calls_input.proofs.CallFolds.{made_by_lines, own_answers, served_once}
use Rattle.dt_calls_input.proofs.laws.calls_of_an_input_are_served_at_most_once.Goals as goal

pub returns-clause-once : goal.returns-clause-once
returns-clause-once c = served_once

pub returns-clause-calls : goal.returns-clause-calls
returns-clause-calls c = made_by_lines

pub returns-clause-answers : goal.returns-clause-answers
returns-clause-answers c = own_answers
