use Rattle.std.proofs.Common.{rules}
use Rattle.dt_reports.proofs.faults.StepFaultFromNoMemory.from.Goals as goal

-- refused here: memory_as_bad_flow
pub returns : goal.returns
returns c = search rules
