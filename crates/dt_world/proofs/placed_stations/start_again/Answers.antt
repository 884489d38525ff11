use Rattle.std.proofs.Common.{rules}
use Rattle.dt_world.proofs.placed_stations.start_again.Goals as goal

-- refused here: restarted_station_reads_the_worlds_moment
pub returns-clause-station : goal.returns-clause-station
returns-clause-station c = search rules
