use Rattle.std.proofs.Common.{rules}
use Rattle.dt_layout.proofs.versions.allows_length.Goals as goal

-- refused here: trailing_octets_pass
pub returns-then-told-there : goal.returns-then-told-there
returns-then-told-there c = search rules
