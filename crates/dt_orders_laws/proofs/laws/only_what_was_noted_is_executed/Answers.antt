use Rattle.dt_orders_laws.proofs.Ends.{unnoted}
use Rattle.dt_orders_laws.proofs.laws.only_what_was_noted_is_executed.Goals as goal

pub returns : goal.returns
returns c = unnoted
