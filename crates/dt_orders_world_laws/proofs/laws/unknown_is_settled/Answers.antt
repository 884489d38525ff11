use Rattle.dt_orders_world_laws.proofs.Ends.{unknown_now}
use Rattle.dt_orders_world_laws.proofs.laws.unknown_is_settled.Goals as goal

pub returns : goal.returns
returns c = unknown_now
