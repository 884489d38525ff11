use Rattle.std.proofs.Common.{rules}
use Rattle.dt_station.proofs.stations.Station.wake.Goals as goal

-- refused here: wake_forgets_the_relay
pub returns : goal.returns
returns g c = search rules
