use Rattle.std.proofs.Common.{rules}
use Rattle.dt_timers.proofs.deadline_nodes.DeadlineNode.goes_before.Goals as goal

-- refused here: ties_go_to_the_later_place
pub returns-then-self-other-2 : goal.returns-then-self-other-2
returns-then-self-other-2 c = search rules
