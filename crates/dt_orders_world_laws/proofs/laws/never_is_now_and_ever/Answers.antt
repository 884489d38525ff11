use Rattle.dt_orders_world_laws.proofs.Ends.{never_now}
use Rattle.dt_orders_world_laws.proofs.laws.never_is_now_and_ever.Goals as goal

pub returns : goal.returns
returns c = never_now
