use Rattle.std.proofs.Common.{rules}
use Rattle.dt_units.proofs.parameters.Params.check.Goals as goal

-- refused here: refuses_everything
pub returns-in-Some-clause-first : goal.returns-in-Some-clause-first
returns-in-Some-clause-first c = search rules
