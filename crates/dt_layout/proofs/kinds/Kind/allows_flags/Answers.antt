use Rattle.std.proofs.Common.{rules}
use Rattle.dt_layout.proofs.kinds.Kind.allows_flags.Goals as goal

-- refused here: spare_flags_pass
pub returns-in-Data : goal.returns-in-Data
returns-in-Data c = search rules
