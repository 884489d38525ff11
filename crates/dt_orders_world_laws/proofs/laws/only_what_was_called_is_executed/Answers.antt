use Rattle.dt_orders_world_laws.proofs.Ends.{uncalled}
use Rattle.dt_orders_world_laws.proofs.laws.only_what_was_called_is_executed.Goals as goal

pub returns : goal.returns
returns c = uncalled
