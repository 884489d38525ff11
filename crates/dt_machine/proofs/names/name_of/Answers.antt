use Rattle.std.proofs.Common.{rules}
use Rattle.dt_machine.proofs.names.name_of.Goals as goal

-- refused here: a_port_is_turned_round
pub returns-clause-value : goal.returns-clause-value
returns-clause-value c = search rules
