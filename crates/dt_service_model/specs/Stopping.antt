-- A turn that found no memory: where it stopped, and what its node is then. What was done before that stays done, and the node is closed.
use Rattle.std.specs.Prelude.{◌≡◌, ℕ, ◌+◌, ◌&&◌, Bool, true, false, drop, fold, if◌then◌else◌, length, take, List, ◌∷◌, ◌++◌, None}
use Rattle.dt_units.specs.declared.endpoints.Flow.{Flow}
use Rattle.dt_world_model.specs.Host.{one_if}
use Rattle.dt_world_model.specs.Station.{Event, Read, Tick}
use Rattle.dt_world_model.specs.WorldStep.{first_refusal}
use Rattle.dt_calls_model.specs.Messages.{message_of, reversed}
use Rattle.dt_endpoint.specs.Acts.{OutFrameValue}
use Rattle.dt_endpoint.specs.Calls.{arrive_event, arrive_refusal, send_answer}
use Rattle.dt_endpoint.specs.Endpoints.{Breaks, EndpointValue, after_event, moment_of}
use Rattle.dt_service_model.specs.declared.call_counts.CallCounts.{CallCounts}
use Rattle.dt_service_model.specs.declared.happenings.Happening.{Happening}
use Rattle.dt_service_model.specs.declared.names.CallNumber.{CallNumber}
use Rattle.dt_service_model.specs.declared.names.Token.{Token}
use Rattle.dt_service_model.specs.Accounts.{account}
use Rattle.dt_service_model.specs.Asked.{call_refusals, forget_refusals, forgotten, forgotten_unless, is_closed, message_event, next_number, reply_refusals, with_call_unless}
use Rattle.dt_service_model.specs.Ends.{close}
use Rattle.dt_service_model.specs.CallBook.{CallBook, may_read}
use Rattle.dt_service_model.specs.Hearing.{hear_all}
use Rattle.dt_service_model.specs.Names.{to_u64, same_number}
use Rattle.dt_service_model.specs.Turns.{Node, comes_in, happens, most_read, read_flow, read_times, reads, sweep, with_book}

-- so many reports of its endpoint are heard, and wait no more
abbrev pub heard_to : (count : ℕ) → Node → Node
heard_to count n = record { endpoint = record (n.endpoint) { reports = drop count n.endpoint.reports }; book = hear_all (take count n.endpoint.reports) n.book }

-- and the next one waits no more, but isn't heard
abbrev pub heard_in_part : (count : ℕ) → Node → Node
heard_in_part count n = let m = heard_to count n in record m { endpoint = record (m.endpoint) { reports = drop 1 m.endpoint.reports } }

-- AN EVENT of the endpoint stops: it broke off there, and the node hears nothing of it; or it was done, and the node hears a first part of what it told
pub data EventStops (now : ℕ) (event : Event (Unit {0})) (n m : Node) : Type 0 where
  breaks_off : (e : EndpointValue) → Breaks now event n.endpoint e → m ≡ record n { endpoint = e } → EventStops now event n m
  hears_part : (count : ℕ) → m ≡ heard_in_part count (record n { endpoint = after_event now event n.endpoint }) → EventStops now event n m

-- A READ of a flow stops: before it, in its event, or where what it found was to be taken. Then nothing is said of what was begun and counted
pub data ReadStops (now : ℕ) (f : Flow) (n m : Node) : Type 0 where
  not_read : m ≡ n → ReadStops now f n m
  in_read : (comes_in n f && may_read f n.book) ≡ true → EventStops now (Read f most_read) n m → ReadStops now f n m
  at_piece : (comes_in n f && may_read f n.book) ≡ true → (begun : List (Flow × List ℕ)) (counts : CallCounts) → m ≡ with_book (λ h. record h { begun = begun; counts = counts }) (happens now (Read f most_read) n) → ReadStops now f n m

-- THE END OF A TURN stops: before it; at a flow, when those before it were read to their end and it was read so often; or where calls were to be judged
pub data EndStops (now : ℕ) (n m : Node) : Type 0 where
  not_begun : m ≡ n → EndStops now n m
  at_flow : (done left : List Flow) (f : Flow) (times : ℕ) → n.book.unread ≡ done ++ f ∷ left → ReadStops now f (read_times times now f (fold (read_flow now) n done)) m → EndStops now n m
  at_judging : m ≡ (let read = reads now n in with_book (sweep read.endpoint.state.host) read) → EndStops now n m

-- A TURN stops: before its event, in it, after it, or in its end. Beside the endpoint something is changed before the end
pub data TurnStops (now : ℕ) (event : Event (Unit {0})) (change : CallBook → CallBook) (n m : Node) : Type 0 where
  not_done : m ≡ n → TurnStops now event change n m
  in_event : EventStops now event n m → TurnStops now event change n m
  behind_event : m ≡ happens now event n → TurnStops now event change n m
  in_end : EndStops now (with_book change (happens now event n)) m → TurnStops now event change n m

-- EACH THING THAT IS ASKED and isn't refused stops as its turn
abbrev pub message_of_call : List ℕ → CallBook → List ℕ
message_of_call payload h = message_of (to_u64 (next_number h)) payload

abbrev pub call_kept : (now : ℕ) → Flow → List ℕ → (patience : ℕ) → Node → CallBook → CallBook
call_kept now f message patience n = with_call_unless (send_answer now f message true true n.endpoint) f (length message) (moment_of now n.endpoint + patience)

pub record CallStops (now : ℕ) (f : Flow) (payload : List ℕ) (patience : ℕ) (n m : Node) : Type 0 where
  pub clear : first_refusal (call_refusals n f payload patience) ≡ None
  pub turn : let message = message_of_call payload n.book in TurnStops now (message_event f message) (call_kept now f message patience n) n m

abbrev pub token_dropped : (now : ℕ) → Token → List ℕ → Node → CallBook → CallBook
token_dropped now token message n = forgotten_unless (send_answer now (reversed token.flow) message true true n.endpoint) token

pub record ReplyStops (now : ℕ) (token : Token) (payload : List ℕ) (n m : Node) : Type 0 where
  pub clear : first_refusal (reply_refusals n token payload) ≡ None
  pub turn : let message = message_of (to_u64 token.number) payload in TurnStops now (message_event (reversed token.flow) message) (token_dropped now token message n) n m

pub record ForgetStops (now : ℕ) (token : Token) (n m : Node) : Type 0 where
  pub clear : first_refusal (forget_refusals n token) ≡ None
  pub turn : EndStops now (with_book (forgotten token) n) m

pub record TickStops (now : ℕ) (n m : Node) : Type 0 where
  pub clear : is_closed n ≡ false
  pub turn : TurnStops now Tick (λ h. h) n m

pub record ArriveStops (now link : ℕ) (octets : List ℕ) (waited : ℕ) (n m : Node) : Type 0 where
  pub clear : is_closed n ≡ false
  pub unrefused : arrive_refusal link octets waited n.endpoint ≡ None
  pub turn : TurnStops now (arrive_event link octets waited) (λ h. h) n m

-- THERE WAS NO MEMORY: where the turn stopped the node closed
pub record Closed (Stops : Node → Type 0) (m : Node) : Type 0 where
  pub stopped : Node
  pub stops : Stops stopped
  pub closed : m ≡ with_book close stopped

-- A FIRST PART OF A TURN: frames that left and happenings that were reported stay, and others may stand after them. Each number has its account: where a call was made in it, one more
pub record EndpointGoesOn (e f : EndpointValue) : Type 0 where
  pub rules : f.rules ≡ e.rules
  pub more : List OutFrameValue
  pub frames : f.frames ≡ e.frames ++ more

abbrev pub one_more : (made : Bool) → CallBook → CallNumber → ℕ
one_more made h x = if made then one_if (same_number (next_number h) x) else 0

pub record BookGoesOn (made : Bool) (h k : CallBook) : Type 0 where
  pub more : List Happening
  pub told : k.happenings ≡ h.happenings ++ more
  pub accounts : (x : CallNumber) → account x k ≡ account x h + one_more made h x

pub record GoesOn (made : Bool) (n m : Node) : Type 0 where
  pub endpoint : EndpointGoesOn n.endpoint m.endpoint
  pub book : BookGoesOn made n.book m.book
