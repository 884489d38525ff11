use Rattle.dt_orders_laws.proofs.Ends.{done_on_path, never_on_path}
use Rattle.dt_orders_laws.proofs.laws.who_is_served_has_lost_nothing.Goals as goal

pub returns : goal.returns
returns c = record { executed = done_on_path; withdrawn = never_on_path }
