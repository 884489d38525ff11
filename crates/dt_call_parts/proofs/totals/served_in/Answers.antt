use Rattle.std.proofs.Common.{rules}
use Rattle.dt_call_parts.proofs.totals.served_in.Goals as goal

-- refused here: declined_calls_count_as_served
pub returns : goal.returns
returns c = search rules
