use Rattle.dt_node.proofs.Waited.{short_wait}
use Rattle.dt_node.proofs.laws.take_waits_to_what_is_due_first.Goals as goal

pub returns : goal.returns
returns c = short_wait
