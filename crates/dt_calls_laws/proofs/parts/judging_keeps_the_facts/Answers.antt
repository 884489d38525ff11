use Rattle.dt_calls_laws.proofs.Stepping.{judged_on}
use Rattle.dt_calls_laws.proofs.parts.judging_keeps_the_facts.Goals as goal

pub returns : goal.returns
returns c = judged_on
