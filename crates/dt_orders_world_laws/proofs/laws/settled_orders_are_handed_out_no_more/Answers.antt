use Rattle.dt_orders_world_laws.proofs.Ends.{settled_in_their_order}
use Rattle.dt_orders_world_laws.proofs.laws.settled_orders_are_handed_out_no_more.Goals as goal

pub returns : goal.returns
returns c = settled_in_their_order
