use Rattle.dt_orders_world_laws.proofs.Ends.{settled}
use Rattle.dt_orders_world_laws.proofs.laws.never_and_unknown_stay_over_set_backs.Goals as goal

pub returns : goal.returns
returns c = settled
