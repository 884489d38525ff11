use Rattle.std.proofs.Common.{rules}
use Rattle.dt_units.proofs.parameters.Rules.quantum.Goals as goal

-- refused here: quantum_has_no_bound
pub returns-clause-value : goal.returns-clause-value
returns-clause-value c = search rules
