use Rattle.std.proofs.Common.{rules}
use Rattle.dt_machine.proofs.intakes.Intake.first.Goals as goal

-- refused here: a_backlog_hands_over_what_is_late
pub returns-clause-fresh : goal.returns-clause-fresh
returns-clause-fresh c = search rules
