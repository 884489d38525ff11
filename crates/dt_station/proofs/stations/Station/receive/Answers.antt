use Rattle.std.proofs.Common.{rules}
use Rattle.dt_station.proofs.stations.Station.receive.Goals as goal

-- refused here: in_link_charge_is_left_out
pub returns-clause-ends : goal.returns-clause-ends
returns-clause-ends g c = search rules
