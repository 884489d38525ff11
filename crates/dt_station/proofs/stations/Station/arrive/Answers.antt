use Rattle.std.proofs.Common.{rules}
use Rattle.dt_station.proofs.stations.Station.arrive.Goals as goal

-- refused here: want_of_memory_is_forgotten
pub returns-clause-spent : goal.returns-clause-spent
returns-clause-spent g c = search rules
