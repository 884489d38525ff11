-- A NODE: an endpoint, and what it has beside it. A turn is an event of the endpoint and then its end: the node hears, reads and judges.
use Rattle.std.specs.Prelude.{ℕ, zero, suc, ◌-◌, length, ◌==◌, ◌&&◌, ◌||◌, Bool, not, filter, fold, List, [], Option, Some, None, if◌then◌else◌}
use Rattle.dt_items.specs.declared.piece.Piece.{Piece as ItemPiece}
use Rattle.dt_items.specs.Unread.{octets_of, piece_told}
use Rattle.dt_units.specs.declared.endpoints.Flow.{Flow}
use Rattle.dt_units.specs.Moments.{earlier}
use Rattle.dt_world_model.specs.Host.{Host}
use Rattle.dt_world_model.specs.Station.{Event, Read}
use Rattle.dt_world_model.specs.Tables.{earliest, has_key, same_flow}
use Rattle.dt_calls_model.specs.Messages.{Piece}
use Rattle.dt_endpoint.specs.Calls.{read_answer}
use Rattle.dt_endpoint.specs.Endpoints.{EndpointValue, after_event, endpoint_wake, moment_of}
use Rattle.dt_service_model.specs.declared.calls.OpenCall.{OpenCall}
use Rattle.dt_service_model.specs.CallBook.{CallBook, counted_by, may_read}
use Rattle.dt_service_model.specs.Hearing.{hear_all}
use Rattle.dt_service_model.specs.Whole.{take_piece}
use Rattle.dt_service_model.specs.Ends.{judge}

pub record Node : Type 0 where
  pub endpoint : EndpointValue
  pub book : CallBook

abbrev pub with_book : (CallBook → CallBook) → Node → Node
with_book change n = record n { book = change n.book }

-- IT HEARS what its endpoint has told, and that waits no more
abbrev pub hears : Node → Node
hears n = record { endpoint = record (n.endpoint) { reports = [] }; book = hear_all n.endpoint.reports n.book }

-- an event of its endpoint, of which it hears at once
abbrev pub happens : (now : ℕ) → Event (Unit {0}) → Node → Node
happens now event n = hears (record n { endpoint = after_event now event n.endpoint })

-- whether a flow comes to this node from another
abbrev pub comes_in : Node → Flow → Bool
comes_in n f = not (not (f.to.0 == n.endpoint.state.host.me) || (f.from.0 == n.endpoint.state.host.me))

-- IT READS a flow while it may, until nothing is there. What one read takes
abbrev pub most_read : ℕ
most_read = 65536

abbrev pub piece_with : List ℕ → Option ItemPiece → Option Piece
piece_with octets None = None
piece_with octets (Some p) = Some (record { run = p.run; begin = p.begin; end = p.end; octets = octets })

abbrev pub piece_at : (now : ℕ) → Flow → EndpointValue → Option Piece
piece_at now f e = let items = read_answer now f most_read e in piece_with (octets_of items) (piece_told items)

-- the flow is to be read no more
abbrev pub done_with : Flow → CallBook → CallBook
done_with f h = record h { unread = filter (λ g. not (same_flow g f)) h.unread }

abbrev pub take_read : (Node → Node) → Flow → Option Piece → Node → Node
take_read again f None n = with_book (done_with f) n
take_read again f (Some piece) n = again (with_book (take_piece f piece) n)

abbrev pub read_if : (Node → Node) → (now : ℕ) → Flow → Node → Node
read_if again now f n = if comes_in n f && may_read f n.book then take_read again f (piece_at now f n.endpoint) (happens now (Read f most_read) n) else n

abbrev pub read_times : (most : ℕ) → (now : ℕ) → Flow → Node → Node
read_times zero now f n = n
read_times (suc most) now f n = read_if (read_times most now f) now f n

-- No receiver has more unread octets than this, and each read takes one at least: so one read more finds nothing.
abbrev pub most_reads : ℕ
most_reads = 65537

abbrev pub read_flow : (now : ℕ) → Node → Flow → Node
read_flow now n f = read_times most_reads now f n

abbrev pub reads : (now : ℕ) → Node → Node
reads now n = fold (read_flow now) n n.book.unread

-- WHAT WAS BEGUN of a flow without a receiver goes: its next octet has a run mark. Each is counted as cut
abbrev pub has_receiver : Host → Flow × List ℕ → Bool
has_receiver host e = has_key same_flow e.0 host.receivers

abbrev pub sweep : Host → CallBook → CallBook
sweep host h =
    let kept = filter (has_receiver host) h.begun in
    record h { begun = kept; counts = record (h.counts) { cut = counted_by (length h.begun - length kept) h.counts.cut } }

-- THE END OF A TURN, after an event of which the node has heard: what is unread is read first, and then calls are judged
abbrev pub turn_end : (now : ℕ) → Node → Node
turn_end now n =
    let read = reads now n in
    record { endpoint = read.endpoint; book = judge (moment_of now read.endpoint) (sweep read.endpoint.state.host read.book) }

abbrev pub turn : (now : ℕ) → Event (Unit {0}) → Node → Node
turn now event n = turn_end now (happens now event n)

-- THE WAKE: the least moment at which a tick does something
abbrev pub deadline_of : OpenCall → Option ℕ
deadline_of call = if call.waits then Some call.deadline else None

abbrev pub wake : Node → Option ℕ
wake n = if n.book.closed then None else earlier (endpoint_wake n.endpoint) (earliest deadline_of n.book.calls)
