use Rattle.std.proofs.Common.{rules}
use Rattle.dt_units.proofs.numbers.later.Goals as goal

-- refused here: later_stays
pub returns : goal.returns
returns c = search rules
