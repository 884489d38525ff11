use Rattle.dt_network.proofs.Going.{network_goes}
use Rattle.dt_network.proofs.network_is_a_world.Goals as goal

-- src/lib.rt
pub returns : goal.returns
returns c = network_goes
