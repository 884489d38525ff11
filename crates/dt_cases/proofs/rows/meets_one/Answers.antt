use Rattle.std.proofs.Common.{rules}
use Rattle.dt_cases.proofs.rows.meets_one.Goals as goal

-- refused here: covers_takes_two_rows_for_one
pub returns : goal.returns
returns c = search rules
