use Rattle.std.proofs.Common.{rules}
use Rattle.dt_make.proofs.draws.Draw.length.Goals as goal

-- refused here: message_without_octets
pub returns : goal.returns
returns c = search rules
