use Rattle.dt_calls_laws.proofs.Stepping.{made_on}
use Rattle.dt_calls_laws.proofs.parts.made_call_keeps_the_facts.Goals as goal

pub returns : goal.returns
returns c = made_on
