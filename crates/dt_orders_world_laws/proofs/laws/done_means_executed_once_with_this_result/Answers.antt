use Rattle.dt_orders_world_laws.proofs.Ends.{done_named, done_now}
use Rattle.dt_orders_world_laws.proofs.laws.done_means_executed_once_with_this_result.Goals as goal

pub returns : goal.returns
returns c = record { named = done_named; now = done_now }
