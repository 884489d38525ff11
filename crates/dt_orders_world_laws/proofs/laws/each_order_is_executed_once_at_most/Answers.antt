use Rattle.dt_orders_world_laws.proofs.Ends.{once_at_most}
use Rattle.dt_orders_world_laws.proofs.laws.each_order_is_executed_once_at_most.Goals as goal

pub returns : goal.returns
returns c = once_at_most
