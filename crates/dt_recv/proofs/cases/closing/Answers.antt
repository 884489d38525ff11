use Rattle.std.proofs.Common.{rules}
use Rattle.dt_recv.proofs.cases.closing.Goals as goal

-- refused here: closing_is_told_at_any_number
pub returns : goal.returns
returns c = search rules
