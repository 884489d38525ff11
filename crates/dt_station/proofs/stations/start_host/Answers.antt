use Rattle.std.proofs.Common.{rules}
use Rattle.dt_station.proofs.stations.start_host.Goals as goal

-- refused here: restarted_station_is_not_silent
pub returns : goal.returns
returns c = search rules
