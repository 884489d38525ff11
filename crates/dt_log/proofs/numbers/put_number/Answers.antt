use Rattle.std.proofs.Common.{rules}
use Rattle.dt_log.proofs.numbers.put_number.Goals as goal

-- refused here: zero_in_front
pub returns : goal.returns
returns g c = search rules
