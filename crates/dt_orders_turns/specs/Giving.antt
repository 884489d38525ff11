-- What a client's call makes of the octets that it has of its server, of a lane and of a request.
use Rattle.std.specs.Prelude.{ℕ, ◌==◌, nat_lt, Bool, true, false, if◌then◌else◌, List, length, Option, Some, None}
use Rattle.dt_orders_model.specs.declared.knowledge.Known.{Known}
use Rattle.dt_orders_model.specs.declared.lanes.Answer.{Answer}
use Rattle.dt_orders_model.specs.declared.lanes.Attempt.{Attempt}
use Rattle.dt_orders_model.specs.declared.lanes.Called.{Called}
use Rattle.dt_orders_model.specs.declared.lanes.Client.{Client}
use Rattle.dt_orders_model.specs.declared.lanes.Fate.{Fate}
use Rattle.dt_orders_model.specs.declared.lanes.Hearing.{Hearing}
use Rattle.dt_orders_model.specs.declared.lanes.Hearing.TheVariants as hearing
use Rattle.dt_orders_model.specs.declared.lanes.Lane.{Lane}
use Rattle.dt_orders_model.specs.declared.lanes.Left.{Left}
use Rattle.dt_orders_model.specs.declared.lanes.Order.{Order}
use Rattle.dt_orders_model.specs.declared.lanes.Sending.{Sending}
use Rattle.dt_orders_model.specs.declared.lanes.Sending.TheVariants as sending
use Rattle.dt_orders_model.specs.declared.requests.Kind.TheVariants as kind
use Rattle.dt_orders_model.specs.Lanes.{adopted_by, call_of, cancelled_by, given_of, hearing_of, known_after, lane_made, lane_opened, lane_unsure, left_of}
use Rattle.dt_orders_octets.specs.declared.requests.NumberedLane.{NumberedLane}
use Rattle.dt_orders_octets.specs.declared.requests.Request.{Request}
use Rattle.dt_orders_octets.specs.Reading.{answer_in, client_in, is_answer, is_client, is_lane, is_request, lane_in, read_if, request_in}
use Rattle.dt_orders_octets.specs.Spelling.{client_octets, lane_octets, request_octets}
use Rattle.dt_orders_turns.specs.declared.giving.OrdersLane.{OrdersLane}
use Rattle.dt_orders_turns.specs.declared.giving.Held.{Held}
use Rattle.dt_orders_turns.specs.Answers.{alarm, fate_as, invalid, none, ok, said_as, strange, unsure, waits}

-- WHAT IS HELD: the client's state, and a lane
abbrev pub most_number : ℕ
most_number = 9223372036854775807

abbrev pub held_by : Option Client → Option NumberedLane → Option Held
held_by None l = None
held_by (Some c) None = None
held_by (Some c) (Some l) = if nat_lt l.lane.last most_number then Some (record { client = c; number = l.number; lane = l.lane }) else None

abbrev pub held_in : OrdersLane → Option Held
held_in t = held_by (read_if (is_client t.client) (client_in t.client)) (read_if (is_lane t.lane) (lane_in t.lane))

abbrev pub with_lane : OrdersLane → ℕ → Lane → OrdersLane
with_lane t number l = record t { lane = lane_octets (record { number = number; lane = l }) }

abbrev pub with_request : OrdersLane → ℕ → Called → OrdersLane
with_request t number c = record t { request = request_octets (record { lane = number; called = c }) }

abbrev pub with_client : OrdersLane → Client → OrdersLane
with_client t c = record t { client = client_octets c }

-- A NEW OPENING of the client's store, of what the client knows and of a lane
abbrev pub started_client : Client → ℕ → Bool → Client
started_client c nonce once = record { nonce = nonce; known = c.known; stopped = None; is_once = once }

abbrev pub started_by : Option Held → (nonce number : ℕ) → Bool → OrdersLane → ℕ × OrdersLane
started_by None nonce number once t = (invalid, t)
started_by (Some h) nonce number once t = (ok, with_lane (with_client t (started_client h.client nonce once)) number (lane_opened h.lane))

abbrev pub started : (nonce number : ℕ) → Bool → OrdersLane → ℕ × OrdersLane
started nonce number once t = started_by (held_in t) nonce number once t

-- AN ORDER IS NOTED
abbrev pub gave_as : Option Lane → ℕ → OrdersLane → ℕ × OrdersLane
gave_as None number t = (none, t)
gave_as (Some l) number t = (ok, with_lane t number l)

abbrev pub gave_by : Option Held → (uid at : ℕ) → OrdersLane → ℕ × OrdersLane
gave_by None uid at t = (invalid, t)
gave_by (Some h) uid at t = gave_as (given_of h.client h.lane uid at) h.number t

abbrev pub gave : (uid at : ℕ) → OrdersLane → ℕ × OrdersLane
gave uid at t = gave_by (held_in t) uid at t

-- IT IS CALLED
abbrev pub attempt_of : Client → ℕ → Attempt
attempt_of c count = record { nonce = c.nonce; count = count }

abbrev pub calls_as : Option Called → ℕ → OrdersLane → ℕ × OrdersLane
calls_as None number t = (none, t)
calls_as (Some c) number t = (ok, with_request t number c)

abbrev pub calls_by : Option Held → (stored count : ℕ) → OrdersLane → ℕ × OrdersLane
calls_by None stored count t = (invalid, t)
calls_by (Some h) stored count t = calls_as (call_of h.client h.lane stored (attempt_of h.client count)) h.number t

abbrev pub calls : (stored count : ℕ) → OrdersLane → ℕ × OrdersLane
calls stored count t = calls_by (held_in t) stored count t

-- A QUESTION: of what is known, or of the commit that an answer named
abbrev pub nothing_known : Known
nothing_known = record { opening = 0; nonce = 0; clock = 0 }

abbrev pub since_of : Option Known → Known
since_of None = nothing_known
since_of (Some k) = k

abbrev pub question : Client → Option Known → ℕ → Called
question c knows count = record { kind = kind.Ask; number = 0; tag = 0; since = since_of knows; attempt = attempt_of c count; knows = knows; is_only = false }

abbrev pub heard_in : Option Answer → Option Known
heard_in None = None
heard_in (Some a) = Some a.heard

abbrev pub asks_as : Bool → Option Answer → Held → ℕ → OrdersLane → ℕ × OrdersLane
asks_as true a h count t = (ok, with_request t h.number (question h.client h.client.known count))
asks_as false None h count t = (invalid, t)
asks_as false (Some a) h count t = (ok, with_request t h.number (question h.client (Some a.heard) count))

abbrev pub answers : List ℕ → Option Answer
answers octets = read_if (is_answer octets) (answer_in octets)

abbrev pub asks_by : Option Held → List ℕ → ℕ → OrdersLane → ℕ × OrdersLane
asks_by None answer count t = (invalid, t)
asks_by (Some h) answer count t = asks_as (length answer == 0) (answers answer) h count t

abbrev pub asks : List ℕ → ℕ → OrdersLane → ℕ × OrdersLane
asks answer count t = asks_by (held_in t) answer count t

-- A CALL was sent, or wasn't, or ended unsure
abbrev pub sending_of : Bool → Sending
sending_of true = sending.Sent
sending_of false = sending.Declined

abbrev pub made_by : Option Held → Bool → OrdersLane → ℕ × OrdersLane
made_by None sent t = (invalid, t)
made_by (Some h) sent t = (ok, with_lane t h.number (lane_made (sending_of sent) h.lane))

abbrev pub made_in : Bool → OrdersLane → ℕ × OrdersLane
made_in sent t = made_by (held_in t) sent t

abbrev pub unsure_by : Option Held → OrdersLane → ℕ × OrdersLane
unsure_by None t = (invalid, t)
unsure_by (Some h) t = (ok, with_lane t h.number (lane_unsure h.lane))

abbrev pub unsure_in : OrdersLane → ℕ × OrdersLane
unsure_in t = unsure_by (held_in t) t

-- A CANCEL
abbrev pub fate_or : ℕ → Option Fate → ℕ
fate_or other None = other
fate_or other (Some f) = fate_as f

abbrev pub left_as : ℕ → Left → ℕ → OrdersLane → ℕ × OrdersLane
left_as other l number t = (fate_or other l.fate, with_lane t number l.lane)

abbrev pub cancels_as : Option Order → Held → OrdersLane → ℕ × OrdersLane
cancels_as None h t = (none, t)
cancels_as (Some o) h t = left_as ok (cancelled_by h.lane.order h.lane) h.number t

abbrev pub cancels_by : Option Held → OrdersLane → ℕ × OrdersLane
cancels_by None t = (invalid, t)
cancels_by (Some h) t = cancels_as h.lane.order h t

abbrev pub cancels : OrdersLane → ℕ × OrdersLane
cancels t = cancels_by (held_in t) t

-- AN ANSWER to the call of the request
abbrev pub heard_as : Hearing → Held → Called → Answer → ℕ → OrdersLane → ℕ × OrdersLane
heard_as hearing.Strange h c a at t = (strange, with_lane t h.number (lane_unsure h.lane))
heard_as hearing.Unsure h c a at t = (unsure, with_lane t h.number (lane_unsure h.lane))
heard_as hearing.Alarm h c a at t = (alarm, with_lane t h.number (lane_unsure h.lane))
heard_as hearing.Used h c a at t = left_as waits (left_of h.client h.lane c a at) h.number t

abbrev pub heard_held : Held → Called → Answer → ℕ → OrdersLane → ℕ × OrdersLane
heard_held h c a at t = heard_as (hearing_of h.client.known c a) h c a at (with_client t (known_after h.client (hearing_of h.client.known c a) a))

-- only of an answer whose value is below 2^63 - 1
abbrev pub heard_if : Bool → Held → Called → Answer → ℕ → OrdersLane → ℕ × OrdersLane
heard_if true h c a at t = heard_held h c a at t
heard_if false h c a at t = (invalid, t)

abbrev pub heard_fit : Held → Called → Answer → ℕ → OrdersLane → ℕ × OrdersLane
heard_fit h c a at t = heard_if (nat_lt a.value most_number) h c a at t

abbrev pub hears_by : Option Held → Option Request → Option Answer → ℕ → OrdersLane → ℕ × OrdersLane
hears_by None q a at t = (invalid, t)
hears_by (Some h) None a at t = (invalid, t)
hears_by (Some h) (Some q) None at t = (invalid, t)
hears_by (Some h) (Some q) (Some a) at t = heard_fit h q.called a at t

abbrev pub hears : List ℕ → ℕ → OrdersLane → ℕ × OrdersLane
hears answer at t = hears_by (held_in t) (read_if (is_request t.request) (request_in t.request)) (answers answer) at t

abbrev pub word_said : Option Answer → ℕ
word_said None = invalid
word_said (Some a) = said_as a.word

-- AN ALARM IS ADOPTED
abbrev pub adopts_by : Option Client → OrdersLane → ℕ × OrdersLane
adopts_by None t = (invalid, t)
adopts_by (Some c) t = (ok, with_client t (adopted_by c.stopped c))

abbrev pub adopts : OrdersLane → ℕ × OrdersLane
adopts t = adopts_by (read_if (is_client t.client) (client_in t.client)) t
