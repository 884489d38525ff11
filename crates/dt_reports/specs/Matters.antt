-- What a report says of octets, packets and lives, and whether a station itself makes it: the tables over all reports.
-- Whatever follows reports (a world, an audit, calls, a shelf, an endpoint, a caller in C) is told by what is said here.
use Rattle.std.specs.Prelude.{ℕ, Bool, List, Option, Some, None}
use Rattle.dt_units.specs.declared.endpoints.Flow.{Flow}
use Rattle.dt_reports.specs.declared.faults.Refusal.{Refusal}
use Rattle.dt_reports.specs.declared.matters.Matter as code
use Rattle.dt_reports.specs.declared.matters.Matter.TheVariants as seen
use Rattle.dt_reports.specs.declared.reports.Report.TheVariants as report
use Rattle.dt_reports.specs.declared.station_reports.StationReport.{StationReport}
use Rattle.dt_reports.specs.declared.station_reports.StationReport.TheVariants as station
use Rattle.dt_reports.specs.Told.{Told}

pub data Matter : Type 0 where
  -- so many octets of a send were taken
  Taken : (flow : Flow) (count : ℕ) → Matter
  -- a send was refused
  Refused : (flow : Flow) (fault : Refusal) → Matter
  -- a segment went out for the first time
  Transmitted : (flow : Flow) (number count : ℕ) → Matter
  -- a segment or a rendezvous went out again
  Retransmitted : (flow : Flow) → Matter
  -- so many octets were given up
  GivenUp : (flow : Flow) (count : ℕ) → Matter
  -- so many octets were acknowledged
  Acknowledged : (flow : Flow) (count window : ℕ) → Matter
  -- octets were accepted, as a new run or not
  Accepted : (flow : Flow) (number count : ℕ) (run : Bool) → Matter
  -- a reply went out at once
  Replied : (flow : Flow) (number : ℕ) → Matter
  -- a packet was dropped
  Dropped : (flow : Flow) → Matter
  -- a piece was read
  ReadOut : (flow : Flow) (run begin end : Bool) (octets : List ℕ) → Matter
  -- a read found nothing
  NothingRead : (flow : Flow) → Matter
  -- a packet left on a link
  Left : (link life : ℕ) → Matter
  -- a station began a life
  Begun : (life : ℕ) → Matter
  -- none of these
  Neither : Matter

abbrev pub matter_of : Told → Matter
matter_of (report.Took f count) = Taken f count
matter_of (report.Refused f fault) = Refused f fault
matter_of (report.Sent f number count drf begin end) = Transmitted f number count
matter_of (report.Resent f number count drf begin end) = Retransmitted f
matter_of (report.Met f number) = Retransmitted f
matter_of (report.Uncertain f count) = GivenUp f count
matter_of (report.Released f sending) = Neither
matter_of (report.Renewed f) = Neither
matter_of (report.Acked f number window) = Neither
matter_of (report.Replied f number window) = Replied f number
matter_of (report.Accepted f number count run) = Accepted f number count run
matter_of (report.Dropped f number) = Dropped f
matter_of (report.Closing f number) = Neither
matter_of (report.Settled f count window) = Acknowledged f count window
matter_of (report.Ignored f number window) = Neither
matter_of (report.Quiet until) = Neither
matter_of (report.Read f run begin end octets) = ReadOut f run begin end octets.now
matter_of (report.Nothing f) = NothingRead f
matter_of (report.Put link life) = Left link life
matter_of (report.PutAs link life copy) = Neither
matter_of (report.ExpiredIn link) = Neither
matter_of (report.ExpiredOut link) = Neither
matter_of (report.NoRoute to) = Neither
matter_of (report.Full link) = Neither
matter_of (report.Bad fault) = Neither
matter_of (report.Unsent link) = Neither
matter_of (report.Shelved f number) = Neither
matter_of (report.NoShelf f number) = Neither
matter_of (report.Again f number) = Neither
matter_of (report.Stale f number) = Neither
matter_of (report.Restarted life) = Begun life
matter_of (report.Lost copy) = Neither
matter_of (report.FlowTotals f taken acked uncertain unsettled given read) = Neither
matter_of report.End = Neither
matter_of (report.Fault line fault) = Neither

-- What a station itself makes, whoever drives it. The others are of a world, a node or a run.
abbrev pub station_report_of : Told → Option StationReport
station_report_of (report.Took f count) = Some (station.Took f count)
station_report_of (report.Refused f fault) = Some (station.Refused f fault)
station_report_of (report.Sent f number count drf begin end) = Some (station.Sent f number count drf begin end)
station_report_of (report.Resent f number count drf begin end) = Some (station.Resent f number count drf begin end)
station_report_of (report.Met f number) = Some (station.Met f number)
station_report_of (report.Uncertain f count) = Some (station.Uncertain f count)
station_report_of (report.Released f sending) = Some (station.Released f sending)
station_report_of (report.Renewed f) = Some (station.Renewed f)
station_report_of (report.Acked f number window) = Some (station.Acked f number window)
station_report_of (report.Replied f number window) = Some (station.Replied f number window)
station_report_of (report.Accepted f number count run) = Some (station.Accepted f number count run)
station_report_of (report.Dropped f number) = Some (station.Dropped f number)
station_report_of (report.Closing f number) = Some (station.Closing f number)
station_report_of (report.Settled f count window) = Some (station.Settled f count window)
station_report_of (report.Ignored f number window) = Some (station.Ignored f number window)
station_report_of (report.Quiet until) = Some (station.Quiet until)
station_report_of (report.Read f run begin end octets) = Some (station.Read f run begin end)
station_report_of (report.Nothing f) = Some (station.Nothing f)
station_report_of (report.Put link life) = Some (station.Put link life)
station_report_of (report.PutAs link life copy) = None
station_report_of (report.ExpiredIn link) = Some (station.ExpiredIn link)
station_report_of (report.ExpiredOut link) = Some (station.ExpiredOut link)
station_report_of (report.NoRoute to) = Some (station.NoRoute to)
station_report_of (report.Full link) = Some (station.Full link)
station_report_of (report.Bad fault) = Some (station.Bad fault)
station_report_of (report.Unsent link) = None
station_report_of (report.Shelved f number) = None
station_report_of (report.NoShelf f number) = None
station_report_of (report.Again f number) = None
station_report_of (report.Stale f number) = None
station_report_of (report.Restarted life) = None
station_report_of (report.Lost copy) = None
station_report_of (report.FlowTotals f taken acked uncertain unsettled given read) = None
station_report_of report.End = None
station_report_of (report.Fault line fault) = None

-- the code's, which lends the octets
abbrev pub matter_seen : code.Matter → Matter
matter_seen (seen.Taken flow count) = Taken flow count
matter_seen (seen.Refused flow fault) = Refused flow fault
matter_seen (seen.Transmitted flow number count) = Transmitted flow number count
matter_seen (seen.Retransmitted flow) = Retransmitted flow
matter_seen (seen.GivenUp flow count) = GivenUp flow count
matter_seen (seen.Acknowledged flow count window) = Acknowledged flow count window
matter_seen (seen.Accepted flow number count run) = Accepted flow number count run
matter_seen (seen.Replied flow number) = Replied flow number
matter_seen (seen.Dropped flow) = Dropped flow
matter_seen (seen.ReadOut flow run begin end octets) = ReadOut flow run begin end octets.now
matter_seen (seen.NothingRead flow) = NothingRead flow
matter_seen (seen.Left link life) = Left link life
matter_seen (seen.Begun life) = Begun life
matter_seen seen.Neither = Neither
