use Rattle.dt_calls_laws.proofs.Sendings.{send_leaves}
use Rattle.dt_calls_laws.proofs.send_takes_its_octets_or_is_refused.Goals as goal

pub returns : goal.returns
returns c = send_leaves
