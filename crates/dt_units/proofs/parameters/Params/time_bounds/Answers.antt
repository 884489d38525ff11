use Rattle.std.proofs.Common.{rules}
use Rattle.dt_units.proofs.parameters.Params.time_bounds.Goals as goal

-- refused here: spacing_without_one_r
pub returns : goal.returns
returns c = search rules
