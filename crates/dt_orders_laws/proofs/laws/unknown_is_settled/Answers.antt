use Rattle.dt_orders_laws.proofs.Settling.{touched_settled, unknown_settled}
use Rattle.dt_orders_laws.proofs.laws.unknown_is_settled.Goals as goal

pub returns : goal.returns
returns c = record { answered = unknown_settled; touched = touched_settled }
