use Rattle.std.proofs.Common.{rules}
use Rattle.dt_reports.proofs.faults.SetupFaultFromNoMemory.from.Goals as goal

-- refused here: memory_as_fault
pub returns : goal.returns
returns c = search rules
