use Rattle.dt_calls_input.proofs.CallFolds.{made_by_lines, own_answers, served_once}
use Rattle.dt_top.proofs.laws.each_call_is_served_once.Goals as goal

pub returns-clause-called_once : goal.returns-clause-called_once
returns-clause-called_once c octets short = λ count. served_once count octets short

pub returns-clause-called_lines : goal.returns-clause-called_lines
returns-clause-called_lines c octets short = λ count. made_by_lines count octets short

pub returns-clause-called_answers : goal.returns-clause-called_answers
returns-clause-called_answers c octets short = own_answers octets short
