use Rattle.std.proofs.lemmas.Grind.{common_steps}
use Rattle.std.proofs.Common.{arith}
use Rattle.dt_machine.proofs.backlogs.Backlog.next.Goals as goal

-- refused here: a_datagram_is_handed_over_twice
pub returns-clause-first : goal.returns-clause-first
returns-clause-first c = grind (arith, common_steps)
