use Rattle.dt_watch.proofs.Standing.{receiver_stood}
use Rattle.dt_watch.proofs.laws.width_bounds_stops_of_the_receiver.Goals as goal

pub returns : goal.returns
returns c = receiver_stood
