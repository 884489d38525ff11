use Rattle.dt_watch.proofs.Rates.{keep_together}
use Rattle.dt_watch.proofs.laws.clocks_that_keep_their_rates_go_together.Goals as goal

pub returns : goal.returns
returns c = keep_together
