-- What arguments mean, and what each answer is in C.
use Rattle.std.specs.Prelude.{ℕ, ◌-◌, min, Bool, true, false, not, ◌&&◌, ◌||◌, ◌==◌, find, is_none, List, length, map, if◌then◌else◌, Option, Some, None}
use Rattle.dt_units.specs.declared.endpoints.Flow.{Flow}
use Rattle.dt_units.specs.declared.parameters.Field.{Field}
use Rattle.dt_units.specs.declared.parameters.Field.TheVariants.{Mpl, R, A, Rto, Probe, Seg, Cap, Rcap, Window, RunLimit}
use Rattle.dt_units.specs.declared.parameters.Params.{Params}
use Rattle.dt_layout.specs.declared.faults.LayoutFault.{LayoutFault}
use Rattle.dt_layout.specs.declared.faults.LayoutFault.TheVariants as layout
use Rattle.dt_reports.specs.declared.faults.Refusal.{Refusal}
use Rattle.dt_reports.specs.declared.faults.Refusal.TheVariants as refusal
use Rattle.dt_reports.specs.declared.station_reports.StationReport.{StationReport}
use Rattle.dt_reports.specs.declared.station_reports.StationReport.TheVariants as reports
use Rattle.dt_reports.specs.Matters.{station_report_of}
use Rattle.dt_reports.specs.Told.{Told}
use Rattle.dt_flow_model.specs.Frames.{node}
use Rattle.dt_world_model.specs.declared.links.InLink.{InLink}
use Rattle.dt_world_model.specs.declared.links.OutLink.{OutLink}
use Rattle.dt_world_model.specs.declared.links.Route.{Route}
use Rattle.dt_endpoint.specs.declared.answers.Ticked.{Ticked}
use Rattle.dt_endpoint.specs.declared.answers.Ticked.TheVariants as ticked
use Rattle.dt_endpoint.specs.declared.answers.Received.{Received}
use Rattle.dt_endpoint.specs.declared.answers.Received.TheVariants as arrived
use Rattle.dt_endpoint.specs.declared.answers.Routed.{Routed}
use Rattle.dt_endpoint.specs.declared.answers.Routed.TheVariants as routed
use Rattle.dt_endpoint.specs.declared.counts.Counts.{Counts}
use Rattle.dt_endpoint.specs.declared.counts.Octets.{Octets}
use Rattle.dt_endpoint.specs.declared.answers.Sent.{Sent}
use Rattle.dt_endpoint.specs.declared.answers.Sent.TheVariants as sent
use Rattle.dt_endpoint.specs.declared.answers.Delivered.{Delivered}
use Rattle.dt_endpoint.specs.declared.answers.Delivered.TheVariants as piece
use Rattle.dt_endpoint.specs.Acts.{OutFrameValue}
use Rattle.dt_endpoint.specs.Endpoints.{EndpointValue, opened}
use Rattle.dt_endpoint.specs.Guards.{GuardValue}
use Rattle.dt_c.specs.declared.c_structs.ReceiveResult.{ReceiveResult}
use Rattle.dt_c.specs.declared.c_structs.NodeCounts.{NodeCounts}
use Rattle.dt_c.specs.declared.c_structs.CFlow.{CFlow}
use Rattle.dt_c.specs.declared.c_structs.BlockedCounts.{BlockedCounts}
use Rattle.dt_c.specs.declared.c_structs.CLink.{CLink}
use Rattle.dt_inbox.specs.declared.mailboxes.Handed.{Handed}
use Rattle.dt_inbox.specs.declared.mailboxes.Handed.TheVariants as handed
use Rattle.dt_c.specs.declared.c_structs.Message.{Message}
use Rattle.dt_c.specs.declared.c_structs.Opened.{Opened}
use Rattle.dt_c.specs.declared.c_structs.Opened.TheVariants as opens
use Rattle.dt_c.specs.declared.c_structs.OpenResult.{OpenResult}
use Rattle.dt_c.specs.declared.c_structs.Datagram.{Datagram}
use Rattle.dt_c.specs.declared.c_structs.CParams.{CParams}
use Rattle.dt_c.specs.declared.c_structs.ReadResult.{ReadResult}
use Rattle.dt_c.specs.declared.c_structs.CReport.{CReport}
use Rattle.dt_c.specs.declared.c_structs.CRoute.{CRoute}
use Rattle.dt_c.specs.declared.c_structs.SendResult.{SendResult}
use Rattle.dt_c.specs.declared.c_structs.FlowCounts.{FlowCounts}
use Rattle.dt_c.specs.declared.c_structs.NodeOptions.{NodeOptions}

-- THE STATUSES
abbrev pub ok : ℕ
ok = 0

abbrev pub no_memory : ℕ
no_memory = 1

abbrev pub not_open : ℕ
not_open = 2

abbrev pub invalid : ℕ
invalid = 3

abbrev pub exists : ℕ
exists = 4

abbrev pub none : ℕ
none = 5

abbrev pub buffer_too_small : ℕ
buffer_too_small = 6

abbrev pub full : ℕ
full = 7

abbrev pub quiet : ℕ
quiet = 8

abbrev pub stopped : ℕ
stopped = 9

abbrev pub malformed : ℕ
malformed = 11

abbrev pub expired : ℕ
expired = 12

abbrev pub blocked : ℕ
blocked = 13

abbrev pub more : ℕ
more = 14

abbrev pub lost : ℕ
lost = 15

-- HOW MANY OCTETS a struct has that says its own size
abbrev pub params_size : ℕ
params_size = 48

abbrev pub node_options_size : ℕ
node_options_size = 56

abbrev pub message_size : ℕ
message_size = 40

abbrev pub datagram_size : ℕ
datagram_size = 24

abbrev pub report_size : ℕ
report_size = 48

abbrev pub node_counts_size : ℕ
node_counts_size = 72

abbrev pub flow_counts_size : ℕ
flow_counts_size = 48

-- ARGUMENTS
abbrev pub params_of : CParams → Params
params_of p = record { mpl = p.mpl; r = p.r; a = p.a; rto = p.rto; probe = p.probe; seg = p.seg; cap = p.cap; rcap = p.rcap; window = p.window; run_limit = p.run_limit; start = p.start }

abbrev pub flow_of : CFlow → Flow
flow_of f = record { from = node f.source; from_port = f.source_port; to = node f.target; to_port = f.target_port }

-- a link is both: one on which packets leave, at its pace, and one on which they come, at its charge
abbrev pub out_link : CLink → OutLink
out_link l = record { link = l.number; pace = l.pace }

abbrev pub in_link : CLink → InLink
in_link l = record { link = l.number; charge = l.charge }

abbrev pub route : CRoute → Route
route r = record { to = r.to; link = r.link }

-- how a node starts: for the first time, or again, silent at first
abbrev pub start_first : ℕ
start_first = 1

abbrev pub start_again : ℕ
start_again = 2

-- the time at which a node starts again
abbrev pub again_of : NodeOptions → Option ℕ
again_of o = if o.start_as == start_again then Some o.at else None

-- what is reserved of each link is 0
abbrev pub is_unfit : CLink → Bool
is_unfit l = not (l.reserved == 0)

abbrev pub has_fit_links : List CLink → Bool
has_fit_links links = is_none (find is_unfit links)

-- the options, and the size of the parameters beside them, are those that are known here
abbrev pub is_fit : CParams → NodeOptions → Bool
is_fit p o = (p.size == params_size) && ((o.size == node_options_size) && (((o.start_as == start_first) || (o.start_as == start_again)) && has_fit_links o.links.now))

-- the endpoint that an opening makes
abbrev pub started : Params → NodeOptions → EndpointValue
started p o = opened p o.node (again_of o) (map out_link o.links.now) (map in_link o.links.now) (map route o.routes.now)

-- ANSWERS
abbrev pub ticked_status : Ticked → ℕ
ticked_status ticked.Done = ok
ticked_status ticked.NoMemory = no_memory
ticked_status ticked.Spent = stopped

abbrev pub routed_status : Routed → ℕ
routed_status routed.Done = ok
routed_status routed.NoMemory = no_memory
routed_status routed.Spent = stopped
routed_status routed.NoLink = invalid
routed_status routed.Known = exists

-- a result for a datagram with nothing but a status, and one that tells the first test that failed
abbrev pub received_as : ℕ → ReceiveResult
received_as status = record { value = 0; status = status; fault = 0 }

abbrev pub faulty : (fault value : ℕ) → ReceiveResult
faulty fault value = record { value = value; status = malformed; fault = fault }

-- a count as it fits in 32 bits
abbrev pub capped : ℕ → ℕ
capped count = min count 4294967295

abbrev pub fault_result : LayoutFault → ReceiveResult
fault_result (layout.Short len) = faulty 1 (capped len)
fault_result (layout.Version octet) = faulty 2 octet
fault_result (layout.Length told there) = faulty 3 (capped told)
fault_result layout.Dead = faulty 4 0
fault_result (layout.Protocol octet) = faulty 5 octet
fault_result (layout.Kind octet) = faulty 6 octet
fault_result (layout.Flags octet) = faulty 7 octet
fault_result (layout.Window value) = faulty 8 value
fault_result (layout.Size len) = faulty 9 (capped len)

abbrev pub receive_result : Received → ReceiveResult
receive_result arrived.Done = received_as ok
receive_result arrived.NoMemory = received_as no_memory
receive_result arrived.Spent = received_as stopped
receive_result arrived.NoLink = received_as invalid
receive_result (arrived.Bad fault) = fault_result fault
receive_result arrived.Stale = received_as expired

abbrev pub sent_with : (until free status : ℕ) → SendResult
sent_with until free status = record { quiet_until = until; free = free; status = status }

-- a result of a send with nothing but a status
abbrev pub sent_as : ℕ → SendResult
sent_as status = sent_with 0 0 status

abbrev pub send_result : Sent → SendResult
send_result sent.Done = sent_as ok
send_result (sent.Quiet until) = sent_with until 0 quiet
send_result (sent.Full free) = sent_with 0 free full
send_result sent.NoMemory = sent_as no_memory
send_result sent.Spent = sent_as stopped
send_result sent.BadFlow = sent_as invalid
send_result sent.Empty = sent_as invalid
send_result sent.TooMany = sent_as invalid

-- a result of a read with no octets
abbrev pub no_piece : ℕ → ReadResult
no_piece status = record { len = 0; status = status; begin = false; end = false; gap = false }

abbrev pub read_result : Delivered → ReadResult
read_result (piece.Read len run begin end) = record { len = len; status = ok; begin = begin; end = end; gap = run }
read_result piece.Nothing = no_piece none
read_result piece.NoMemory = no_piece no_memory
read_result piece.Spent = no_piece stopped
read_result piece.BadFlow = no_piece invalid
read_result piece.NoRoom = no_piece buffer_too_small

-- what the caller's struct has of a datagram that is handed out, or that waits for room
abbrev pub datagram : OutFrameValue → Datagram → Datagram
datagram frame out = record out { to = frame.to; len = length frame.octets; link = frame.link }

-- the time of the next tick, or the one that no moment is
abbrev pub never : ℕ
never = 18446744073709551615

abbrev pub wake_time : Option ℕ → ℕ
wake_time (Some at) = min at (never - 1)
wake_time None = never

-- the place of a parameter, where the first is 1
abbrev pub field_number : Field → ℕ
field_number Mpl = 1
field_number R = 2
field_number A = 3
field_number Rto = 4
field_number Probe = 5
field_number Seg = 6
field_number Cap = 7
field_number Rcap = 8
field_number Window = 9
field_number RunLimit = 10

abbrev pub opened_with : (value status field : ℕ) → OpenResult
opened_with value status field = record { value = value; status = status; field = field }

abbrev pub open_result : Opened → OpenResult
open_result opens.Done = opened_with 0 ok 0
open_result opens.NoMemory = opened_with 0 no_memory 0
open_result opens.Held = opened_with 0 exists 0
open_result opens.Unfit = opened_with 0 invalid 0
open_result (opens.Refused fault) = opened_with fault.value invalid (field_number fault.field)

-- REPORTS, without the size of their struct
abbrev pub c_flow : Flow → CFlow
c_flow f = record { source = f.from.0; target = f.to.0; source_port = f.from_port; target_port = f.to_port }

abbrev pub about : ℕ → CFlow → CReport
about kind flow = record { size = 0; flow = flow; time = 0; number = 0; count = 0; window = 0; kind = kind; begin = false; end = false; run = false; sending = false }

abbrev pub no_flow : CFlow
no_flow = record { source = 0; target = 0; source_port = 0; target_port = 0 }

abbrev pub about_none : ℕ → CReport
about_none kind = about kind no_flow

abbrev pub numbered : ℕ → Flow → (number count window : ℕ) → CReport
numbered kind flow number count window = record (about kind (c_flow flow)) { number = number; count = count; window = window }

-- of a link, a node or a fault
abbrev pub elsewhere : (kind number count : ℕ) → CReport
elsewhere kind number count = record (about_none kind) { number = number; count = count }

abbrev pub marked : CReport → (begin end run : Bool) → CReport
marked report begin end run = record report { begin = begin; end = end; run = run }

abbrev pub until_time : CReport → ℕ → CReport
until_time report time = record report { time = time }

abbrev pub released : Flow → Bool → CReport
released flow sending = record (about 8 (c_flow flow)) { sending = sending }

abbrev pub refused_report : Flow → Refusal → CReport
refused_report flow (refusal.Quiet until) = until_time (numbered 2 flow 0 0 0) until
refused_report flow (refusal.Full free) = numbered 3 flow 0 free 0

abbrev pub bad_report : LayoutFault → CReport
bad_report fault = elsewhere 25 (fault_result fault).fault (fault_result fault).value

-- what a station reports
abbrev pub station_report : StationReport → CReport
station_report (reports.Took flow count) = numbered 1 flow 0 count 0
station_report (reports.Refused flow fault) = refused_report flow fault
station_report (reports.Sent flow number len drf begin end) = marked (numbered 4 flow number len 0) begin end drf
station_report (reports.Resent flow number len drf begin end) = marked (numbered 5 flow number len 0) begin end drf
station_report (reports.Met flow number) = numbered 6 flow number 0 0
station_report (reports.Uncertain flow count) = numbered 7 flow 0 count 0
station_report (reports.Released flow sending) = released flow sending
station_report (reports.Renewed flow) = numbered 9 flow 0 0 0
station_report (reports.Acked flow number window) = numbered 10 flow number 0 window
station_report (reports.Replied flow number window) = numbered 11 flow number 0 window
station_report (reports.Accepted flow number len run) = marked (numbered 12 flow number len 0) false false run
station_report (reports.Dropped flow number) = numbered 13 flow number 0 0
station_report (reports.Closing flow number) = numbered 14 flow number 0 0
station_report (reports.Settled flow count window) = numbered 15 flow 0 count window
station_report (reports.Ignored flow number window) = numbered 16 flow number 0 window
station_report (reports.Quiet until) = until_time (about_none 17) until
station_report (reports.Read flow run begin end) = marked (numbered 18 flow 0 0 0) begin end run
station_report (reports.Nothing flow) = numbered 19 flow 0 0 0
station_report (reports.Put link life) = elsewhere 20 link life
station_report (reports.ExpiredIn link) = elsewhere 21 link 0
station_report (reports.ExpiredOut link) = elsewhere 22 link 0
station_report (reports.NoRoute to) = elsewhere 23 to 0
station_report (reports.Full link) = elsewhere 24 link 0
station_report (reports.Bad fault) = bad_report fault

-- what no station reports is of kind 0
abbrev pub report_of : Option StationReport → CReport
report_of (Some report) = station_report report
report_of None = about_none 0

abbrev pub c_report : Told → CReport
c_report told = report_of (station_report_of told)

-- what the caller's struct has of a report
abbrev pub report_in : Told → CReport → CReport
report_in told out = record (c_report told) { size = out.size }

-- WHAT A GUARD BLOCKED
abbrev pub blocked_counts : GuardValue → BlockedCounts
blocked_counts g = record { closed_port = g.closed; too_many_flows = g.crowded }

-- A MESSAGE, without the size of its struct, when so many were too long so far
abbrev pub message_status : Handed → ℕ
message_status (handed.Done flow len gap) = ok
message_status (handed.NoRoom flow len gap) = buffer_too_small
message_status (handed.Lost flow) = lost
message_status handed.Nothing = none
message_status handed.More = more
message_status handed.NoMemory = no_memory
message_status handed.Spent = stopped

abbrev pub message_with : CFlow → (len : ℕ) → (gap : Bool) → (dropped : ℕ) → Message
message_with flow len gap dropped = record { size = 0; flow = flow; len = len; dropped_too_long = dropped; gap = gap }

abbrev pub message_of : Handed → (dropped : ℕ) → Message
message_of (handed.Done flow len gap) dropped = message_with (c_flow flow) len gap dropped
message_of (handed.NoRoom flow len gap) dropped = message_with (c_flow flow) len gap dropped
message_of (handed.Lost flow) dropped = message_with (c_flow flow) 0 false dropped
message_of handed.Nothing dropped = message_with no_flow 0 false dropped
message_of handed.More dropped = message_with no_flow 0 false dropped
message_of handed.NoMemory dropped = message_with no_flow 0 false dropped
message_of handed.Spent dropped = message_with no_flow 0 false dropped

-- what the caller's struct has of a message
abbrev pub message_in : Handed → (dropped : ℕ) → Message → Message
message_in answer dropped out = record (message_of answer dropped) { size = out.size }

-- WHAT WAS TOLD OF THE OCTETS of a flow
abbrev pub flow_counts : Octets → FlowCounts → FlowCounts
flow_counts o out = record out { octets_queued = o.taken; octets_acknowledged = o.settled; octets_uncertain = o.uncertain; octets_accepted = o.accepted; octets_read = o.read }

-- WHAT A NODE COUNTED
abbrev pub node_counts : Counts → NodeCounts → NodeCounts
node_counts c out = record out { datagrams_in = c.came; datagrams_refused = c.refused; datagrams_out = c.left; octets_queued = c.octets.taken; octets_acknowledged = c.octets.settled; octets_uncertain = c.octets.uncertain; octets_accepted = c.octets.accepted; octets_read = c.octets.read }
