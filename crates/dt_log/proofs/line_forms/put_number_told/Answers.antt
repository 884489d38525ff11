use Rattle.std.proofs.Common.{rules}
use Rattle.dt_log.proofs.line_forms.put_number_told.Goals as goal

-- refused here: nothing_is_told
pub returns : goal.returns
returns g c = search rules
