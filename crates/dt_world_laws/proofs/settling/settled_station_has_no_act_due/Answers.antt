use Rattle.dt_world_laws.proofs.Settles.{settle_ends}
use Rattle.dt_world_laws.proofs.settling.settled_station_has_no_act_due.Goals as goal

-- src/settling.rt
pub returns : goal.returns
returns c s = λ p now station limits host. settle_ends p now limits station host
