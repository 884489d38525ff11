use Rattle.std.proofs.Common.{rules}
use Rattle.dt_log.proofs.line_forms.put_totals.Goals as goal

-- refused here: read_for_given
pub returns : goal.returns
returns g c = search rules
