use Rattle.std.proofs.Common.{rules}
use Rattle.dt_cases.proofs.rows.is_met.Goals as goal

-- refused here: row_ignores_bits_that_must_be_off
pub returns : goal.returns
returns c = search rules
