use Rattle.std.proofs.Common.{rules}
use Rattle.dt_audit.proofs.reading.sent.Goals as goal

-- refused here: letters_are_not_read
pub returns : goal.returns
returns c = search rules
