use Rattle.std.proofs.lemmas.Grind.{common_steps}
use Rattle.std.proofs.Common.{arith}
use Rattle.dt_timers.proofs.deadlines.Deadlines.at.Goals as goal

-- refused here: a_place_has_the_moment_of_the_first
pub returns-in_err-at : goal.returns-in_err-at
returns-in_err-at c = grind (arith, common_steps)
