use Rattle.dt_network.proofs.Settled.{settled_accepted}
use Rattle.dt_network.proofs.what_was_settled_was_accepted.Goals as goal

-- src/lib.rt
pub returns : goal.returns
returns c = settled_accepted
