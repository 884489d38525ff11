use Rattle.dt_watch.proofs.Aging.{charge_and_wait, in_millis, no_older}
use Rattle.dt_watch.proofs.laws.datagram_is_no_older_than_charge_and_wait.Goals as goal

pub returns : goal.returns
returns c = record { age = no_older; micros = charge_and_wait; millis = in_millis }
