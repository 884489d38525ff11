use Rattle.dt_watch.proofs.Standing.{sender_stood}
use Rattle.dt_watch.proofs.laws.width_bounds_stops_of_the_sender.Goals as goal

pub returns : goal.returns
returns c = sender_stood
