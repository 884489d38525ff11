-- What is asked of a node. The first refusal that holds answers, and then nothing changes; else it is a turn.
use Rattle.std.specs.Prelude.{ℕ, ◌+◌, ◌^◌, ◌==◌, ◌&&◌, ◌||◌, Bool, true, false, not, nat_le, nat_lt, min, List, [], ◌∷◌, ◌++◌, length, Option, Some, None, if◌then◌else◌}
use Rattle.std.specs.List.{list_any}
use Rattle.dt_units.specs.declared.endpoints.Flow.{Flow}
use Rattle.dt_reports.specs.declared.faults.Refusal.{Refusal}
use Rattle.dt_reports.specs.declared.faults.Refusal.TheVariants as refusal
use Rattle.dt_flow_model.specs.Keeping.{octets_below}
use Rattle.dt_world_model.specs.Station.{Event, Send, Tick}
use Rattle.dt_world_model.specs.WorldStep.{first_refusal}
use Rattle.dt_calls_model.specs.Messages.{message_of, reversed}
use Rattle.dt_endpoint.specs.declared.answers.Received.{Received}
use Rattle.dt_endpoint.specs.declared.answers.Received.TheVariants as arrived
use Rattle.dt_endpoint.specs.declared.answers.Ticked.{Ticked}
use Rattle.dt_endpoint.specs.declared.answers.Ticked.TheVariants as ticked
use Rattle.dt_endpoint.specs.Calls.{arrive_event, arrive_refusal, send_answer}
use Rattle.dt_endpoint.specs.Endpoints.{moment_of, with_refused}
use Rattle.dt_service_model.specs.declared.answers.Declined.TheVariants as declined
use Rattle.dt_service_model.specs.declared.answers.Forgot.{Forgot}
use Rattle.dt_service_model.specs.declared.answers.Forgot.TheVariants as forgot
use Rattle.dt_service_model.specs.declared.answers.Made.{Made}
use Rattle.dt_service_model.specs.declared.answers.Made.TheVariants as made
use Rattle.dt_service_model.specs.declared.answers.Replied.{Replied}
use Rattle.dt_service_model.specs.declared.answers.Replied.TheVariants as replied
use Rattle.dt_service_model.specs.declared.answers.Unfit.TheVariants as unfit
use Rattle.dt_service_model.specs.declared.calls.OpenCall.{OpenCall}
use Rattle.dt_service_model.specs.declared.names.CallNumber.{CallNumber}
use Rattle.dt_service_model.specs.declared.names.Token.{Token}
use Rattle.dt_service_model.specs.declared.ports.PortKind.{PortKind}
use Rattle.dt_service_model.specs.Names.{to_u64, number_with}
use Rattle.dt_service_model.specs.CallBook.{CallBook, calls_held, is_caller, kind_in, longest_message}
use Rattle.dt_service_model.specs.Whole.{is_open, without_token}
use Rattle.dt_service_model.specs.Turns.{Node, happens, turn, turn_end, with_book}

-- what is asked and isn't refused is a turn; else nothing changes
abbrev pub unless : {A : Type 0} → Option A → Node → A × Node → A × Node
unless (Some refusal) n done = (refusal, n)
unless None n done = done

abbrev pub is_closed : Node → Bool
is_closed n = n.endpoint.spent || n.book.closed

-- a message with so much in it is longer than any that is sent
abbrev pub is_too_long : Node → List ℕ → Bool
is_too_long n carried = nat_lt (min longest_message n.endpoint.rules.cap) (8 + length carried)

abbrev pub is_one_too_many : Node → List ℕ → Bool
is_one_too_many n carried = nat_le octets_below (n.endpoint.asked + (8 + length carried))

-- whether a flow goes from this node to another
abbrev pub goes_out : Node → Flow → Bool
goes_out n f = not (not (f.from.0 == n.endpoint.state.host.me) || (f.to.0 == n.endpoint.state.host.me))

-- A CALL
abbrev pub call_refusals : Node → Flow → List ℕ → (patience : ℕ) → List (Bool × Made)
call_refusals n f payload patience =
    (is_closed n, made.Refused unfit.Closed)
    ∷ (not (goes_out n f), made.Refused unfit.BadFlow)
    ∷ (not (is_caller (kind_in f.from_port n.book.ports)), made.Refused unfit.NotACaller)
    ∷ (is_too_long n payload, made.Refused unfit.TooLong)
    ∷ (patience == 0, made.Refused unfit.NoPatience)
    ∷ (is_one_too_many n payload, made.Refused unfit.TooMany)
    ∷ (nat_le (2 ^ 32) n.book.count, made.Declined declined.Numbers)
    ∷ (nat_le n.book.most.calls (calls_held n.book), made.Declined declined.Many)
    ∷ []

abbrev pub next_number : CallBook → CallNumber
next_number h = number_with h.life h.count

abbrev pub new_call : Flow → (count deadline : ℕ) → CallBook → OpenCall
new_call f count deadline h = record { number = next_number h; flow = f; deadline = deadline; left = count; waits = true; has_given_up = false }

abbrev pub with_call : Flow → (count deadline : ℕ) → CallBook → CallBook
with_call f count deadline h = record h { count = h.count + 1; calls = h.calls ++ new_call f count deadline h ∷ [] }

-- it waits from its sending on, or its request wasn't taken
abbrev pub made_of : Option Refusal → CallBook → Made
made_of None h = made.Call (next_number h)
made_of (Some (refusal.Quiet until)) h = made.Declined (declined.Quiet until)
made_of (Some (refusal.Full free)) h = made.Declined (declined.Full free)

abbrev pub with_call_unless : Option Refusal → Flow → (count deadline : ℕ) → CallBook → CallBook
with_call_unless None f count deadline h = with_call f count deadline h
with_call_unless (Some refusal) f count deadline h = h

abbrev pub message_event : Flow → List ℕ → Event (Unit {0})
message_event f message = Send f message true true

abbrev pub made_by : (now : ℕ) → Flow → List ℕ → (patience : ℕ) → Node → Made × Node
made_by now f message patience n =
    let refused = send_answer now f message true true n.endpoint in
    let deadline = moment_of now n.endpoint + patience in
    (made_of refused n.book, turn_end now (with_book (with_call_unless refused f (length message) deadline) (happens now (message_event f message) n)))

abbrev pub call : (now : ℕ) → Flow → List ℕ → (patience : ℕ) → Node → Made × Node
call now f payload patience n =
    unless (first_refusal (call_refusals n f payload patience)) n (made_by now f (message_of (to_u64 (next_number n.book)) payload) patience n)

-- A REPLY
abbrev pub reply_refusals : Node → Token → List ℕ → List (Bool × Replied)
reply_refusals n token payload =
    (is_closed n, replied.Refused unfit.Closed)
    ∷ (is_too_long n payload, replied.Refused unfit.TooLong)
    ∷ (not (is_open token n.book), replied.Gone)
    ∷ (not (goes_out n (reversed token.flow)), replied.Refused unfit.BadFlow)
    ∷ (is_one_too_many n payload, replied.Refused unfit.TooMany)
    ∷ []

-- the token is open no more
abbrev pub forgotten : Token → CallBook → CallBook
forgotten token h = record h { tokens = without_token token h.tokens }

-- Nothing is handed out while the station is quiet, so no token is open then.
abbrev pub replied_of : Option Refusal → Replied
replied_of None = replied.Done
replied_of (Some (refusal.Quiet until)) = replied.Full 0
replied_of (Some (refusal.Full free)) = replied.Full free

abbrev pub forgotten_unless : Option Refusal → Token → CallBook → CallBook
forgotten_unless None token h = forgotten token h
forgotten_unless (Some refusal) token h = h

abbrev pub replied_by : (now : ℕ) → Token → List ℕ → Node → Replied × Node
replied_by now token message n =
    let f = reversed token.flow in
    let refused = send_answer now f message true true n.endpoint in
    (replied_of refused, turn_end now (with_book (forgotten_unless refused token) (happens now (message_event f message) n)))

abbrev pub reply : (now : ℕ) → Token → List ℕ → Node → Replied × Node
reply now token payload n =
    unless (first_refusal (reply_refusals n token payload)) n (replied_by now token (message_of (to_u64 token.number) payload) n)

-- A TOKEN IS FORGOTTEN. A turn without an event: there may be room now
abbrev pub forget_refusals : Node → Token → List (Bool × Forgot)
forget_refusals n token = (is_closed n || not (is_open token n.book), forgot.Gone) ∷ []

abbrev pub forget : (now : ℕ) → Token → Node → Forgot × Node
forget now token n = unless (first_refusal (forget_refusals n token)) n (forgot.Done, turn_end now (with_book (forgotten token) n))

-- A TICK, and a datagram that comes, are those of the endpoint
abbrev pub tick : (now : ℕ) → Node → Ticked × Node
tick now n = if is_closed n then (ticked.Spent, n) else (ticked.Done, turn now Tick n)

-- One that the endpoint refuses is counted there, and is no turn
abbrev pub or_counted : Option Received → Node → Received × Node → Received × Node
or_counted None n done = done
or_counted (Some refusal) n done = (refusal, record n { endpoint = with_refused n.endpoint })

abbrev pub arrive : (now link : ℕ) → List ℕ → (waited : ℕ) → Node → Received × Node
arrive now link octets waited n =
    if is_closed n then (arrived.Spent, n)
    else or_counted (arrive_refusal link octets waited n.endpoint) n (arrived.Done, turn now (arrive_event link octets waited) n)

-- A LIFE IS RAISED, unless it is that of the node, or of a call that waits
abbrev pub is_life_in_use : ℕ → CallBook → Bool
is_life_in_use life h = (life == h.life) || list_any (λ (call : OpenCall). call.waits && (call.number.life == life)) h.calls

abbrev pub raised : ℕ → CallBook → CallBook
raised life h = if is_life_in_use life h then h else record h { life = life; count = 0 }

-- A PORT GETS ITS KIND, unless it has one
abbrev pub with_port : ℕ → Option PortKind → PortKind → CallBook → CallBook
with_port port (Some has) kind h = h
with_port port None kind h = record h { ports = h.ports ++ (record { port = port; kind = kind }) ∷ [] }

abbrev pub with_kind : ℕ → PortKind → CallBook → CallBook
with_kind port kind h = with_port port (kind_in port h.ports) kind h
