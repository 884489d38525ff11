use Rattle.std.proofs.Common.{rules}
use Rattle.dt_units.proofs.moments.earlier.Goals as goal

-- refused here: later_moment_counts
pub returns-in-Some-Some : goal.returns-in-Some-Some
returns-in-Some-Some c = search rules
