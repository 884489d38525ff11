use Rattle.dt_watch.proofs.Standing.{rests_on}
use Rattle.dt_watch.proofs.laws.sure_rests_on_its_stamp.Goals as goal

pub returns : goal.returns
returns c = rests_on
