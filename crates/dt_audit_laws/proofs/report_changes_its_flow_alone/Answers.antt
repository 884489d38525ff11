use Rattle.dt_audit_laws.proofs.Booking.{report_goes_on}
use Rattle.dt_audit_laws.proofs.report_changes_its_flow_alone.Goals as goal

pub returns : goal.returns
returns c p views after book f fact all others sender receiver at h = report_goes_on p views after book f all others sender receiver fact at h
