use Rattle.dt_network.proofs.Going.{network_tells}
use Rattle.dt_network.proofs.reports_tell_a_safe_ledger.Goals as goal

-- src/lib.rt
pub returns : goal.returns
returns c = network_tells
