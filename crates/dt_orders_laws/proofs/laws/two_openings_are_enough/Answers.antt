use Rattle.dt_orders_laws.proofs.Openings.{by_two}
use Rattle.dt_orders_laws.proofs.laws.two_openings_are_enough.Goals as goal

pub returns : goal.returns
returns c = by_two
