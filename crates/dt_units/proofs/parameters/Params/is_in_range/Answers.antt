use Rattle.std.proofs.Common.{rules}
use Rattle.dt_units.proofs.parameters.Params.is_in_range.Goals as goal

-- refused here: probe_at_send_time
pub returns-then-contains : goal.returns-then-contains
returns-then-contains c = search rules
