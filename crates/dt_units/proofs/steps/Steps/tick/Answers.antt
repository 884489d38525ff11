use Rattle.std.proofs.Common.{rules}
use Rattle.dt_units.proofs.steps.Steps.tick.Goals as goal

-- refused here: look_is_not_counted
pub returns : goal.returns
returns g c = search rules
