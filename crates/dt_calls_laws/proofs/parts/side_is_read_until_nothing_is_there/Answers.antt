use Rattle.dt_calls_laws.proofs.SideReads.{side_leads}
use Rattle.dt_calls_laws.proofs.parts.side_is_read_until_nothing_is_there.Goals as goal

pub returns : goal.returns
returns c = λ answer side d f on key. side_leads answer side f d on key
