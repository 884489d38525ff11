use Rattle.std.proofs.Common.{rules}
use Rattle.dt_reports.proofs.reports.Report.station_report.Goals as goal

-- refused here: piece_that_is_read_is_no_report_of_a_station
pub returns-in-Read : goal.returns-in-Read
returns-in-Read c = search rules
