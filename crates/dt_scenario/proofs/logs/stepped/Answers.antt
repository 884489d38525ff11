use Rattle.std.proofs.Common.{rules}
use Rattle.dt_scenario.proofs.logs.stepped.Goals as goal

-- refused here: refused_event_is_passed_over
pub returns-in-Err : goal.returns-in-Err
returns-in-Err c = search rules

-- refused here: write_fault_is_forgotten
pub returns-in-Ok : goal.returns-in-Ok
returns-in-Ok c = search rules
