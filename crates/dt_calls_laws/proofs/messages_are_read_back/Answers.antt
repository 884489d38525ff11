use Rattle.dt_calls_laws.proofs.SideBySide.{carried_back, number_back}
use Rattle.dt_calls_laws.proofs.messages_are_read_back.Goals as goal

pub returns-clause-number : goal.returns-clause-number
returns-clause-number c = number_back

pub returns-clause-carried : goal.returns-clause-carried
returns-clause-carried c = carried_back
