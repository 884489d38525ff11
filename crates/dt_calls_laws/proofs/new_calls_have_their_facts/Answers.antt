use Rattle.dt_calls_laws.proofs.Starting.{new_calls_facts}
use Rattle.dt_calls_laws.proofs.new_calls_have_their_facts.Goals as goal

pub returns : goal.returns
returns c = new_calls_facts
