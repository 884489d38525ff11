use Rattle.std.proofs.Common.{rules}
use Rattle.dt_reports.proofs.flow_totals.Totals.report.Goals as goal

-- refused here: acknowledged_is_told_as_given
pub returns : goal.returns
returns c = search rules
