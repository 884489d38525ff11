use Rattle.dt_orders_world_laws.proofs.Ends.{one_fate}
use Rattle.dt_orders_world_laws.proofs.laws.one_fate.Goals as goal

pub returns : goal.returns
returns c = one_fate
