use Rattle.dt_orders_laws.proofs.Ends.{never_answered, never_written}
use Rattle.dt_orders_laws.proofs.laws.never_is_now_and_ever.Goals as goal

pub returns : goal.returns
returns c = record { answered = never_answered; written = never_written }
