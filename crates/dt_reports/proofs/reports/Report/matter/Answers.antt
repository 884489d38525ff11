use Rattle.std.proofs.Common.{rules}
use Rattle.dt_reports.proofs.reports.Report.matter.Goals as goal

-- refused here: octets_that_are_given_up_are_told_as_taken
pub returns-in-Uncertain : goal.returns-in-Uncertain
returns-in-Uncertain c = search rules
