use Rattle.dt_early.proofs.Delaying.{framed, joined}
use Rattle.dt_early.proofs.laws.delays_go_on.Goals as goal

pub returns : goal.returns
returns c first then before came between more after one two = joined (framed more one) two
