use Rattle.dt_calls_laws.proofs.SideReads.{nothing_leads}
use Rattle.dt_calls_laws.proofs.parts.read_of_nothing_leads_on.Goals as goal

pub returns : goal.returns
returns c = λ answer side d f b on there none. nothing_leads answer side f d on b there none
