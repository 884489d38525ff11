use Rattle.dt_calls_laws.proofs.Kept.{read_keeps_octets}
use Rattle.dt_calls_laws.proofs.read_keeps_all_octets.Goals as goal

pub returns : goal.returns
returns c = read_keeps_octets
