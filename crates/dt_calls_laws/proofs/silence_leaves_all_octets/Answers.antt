use Rattle.dt_calls_laws.proofs.Octets.{silent_leaves}
use Rattle.dt_calls_laws.proofs.silence_leaves_all_octets.Goals as goal

pub returns : goal.returns
returns g c = silent_leaves
