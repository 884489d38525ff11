use Rattle.dt_orders_laws.proofs.Ends.{closed_stays}
use Rattle.dt_orders_laws.proofs.laws.closed_number_stays_closed.Goals as goal

pub returns : goal.returns
returns c = closed_stays
