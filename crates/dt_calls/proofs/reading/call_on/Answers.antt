use Rattle.std.proofs.lemmas.Grind.{common_steps}
use Rattle.std.proofs.Common.{arith}
use Rattle.dt_calls.proofs.reading.call_on.Goals as goal

-- refused here: reply_to_the_call_of_another_flow_is_taken
pub returns : goal.returns
returns c = grind (arith, common_steps)
