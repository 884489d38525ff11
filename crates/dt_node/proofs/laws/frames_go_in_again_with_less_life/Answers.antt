use Rattle.dt_node.proofs.Again.{again_is_old}
use Rattle.dt_node.proofs.laws.frames_go_in_again_with_less_life.Goals as goal

pub returns : goal.returns
returns c = again_is_old
