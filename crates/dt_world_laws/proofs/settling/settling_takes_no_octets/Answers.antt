use Rattle.dt_world_laws.proofs.Sending.{settle_bounded}
use Rattle.dt_world_laws.proofs.settling.settling_takes_no_octets.Goals as goal

-- src/settling.rt
pub returns : goal.returns
returns c s = λ p now station f more bound limits host few. settle_bounded p now f limits more bound station host few
