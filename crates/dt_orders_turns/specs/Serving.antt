-- What a server's call makes of the octets that its transaction read.
use Rattle.std.specs.Prelude.{ℕ, ◌+◌, ◌==◌, ◌&&◌, nat_lt, nat_le, Bool, true, false, if◌then◌else◌, List, ◌++◌, drop, ◌-◌, Option, Some, None}
use Rattle.dt_orders_model.specs.declared.knowledge.Known.{Known}
use Rattle.dt_orders_model.specs.declared.knowledge.Opening.{Opening}
use Rattle.dt_orders_model.specs.declared.lanes.Answer.{Answer}
use Rattle.dt_orders_model.specs.declared.lanes.Called.{Called}
use Rattle.dt_orders_model.specs.declared.lanes.Word.{Word}
use Rattle.dt_orders_model.specs.declared.lanes.Word.TheVariants as word
use Rattle.dt_orders_model.specs.declared.registers.Meta.{Meta}
use Rattle.dt_orders_model.specs.declared.registers.Row.{Row}
use Rattle.dt_orders_model.specs.declared.registers.RowState.{RowState}
use Rattle.dt_orders_model.specs.declared.registers.RowState.TheVariants as state
use Rattle.dt_orders_model.specs.declared.requests.Asked.{Asked}
use Rattle.dt_orders_model.specs.declared.requests.Places.{Places}
use Rattle.dt_orders_model.specs.declared.requests.Verdict.{Verdict}
use Rattle.dt_orders_model.specs.declared.requests.Verdict.TheVariants as verdict
use Rattle.dt_orders_model.specs.Chains.{place_by}
use Rattle.dt_orders_model.specs.Judging.{verdict_of}
use Rattle.dt_orders_model.specs.Writing.{horizon_after, row_after, row_finished, row_touched}
use Rattle.dt_orders_octets.specs.declared.requests.Request.{Request}
use Rattle.dt_orders_octets.specs.Codes.{code_of_kind, word_of_code}
use Rattle.dt_orders_octets.specs.Reading.{is_meta, is_request, is_row, meta_in, opening_at, read_if, request_in, row_in}
use Rattle.dt_orders_octets.specs.Spelling.{answer_octets, meta_octets, opening_octets, row_octets}
use Rattle.dt_orders_turns.specs.declared.serving.OrdersServer.{OrdersServer}
use Rattle.dt_orders_turns.specs.declared.serving.OrdersLook.{OrdersLook}
use Rattle.dt_orders_turns.specs.declared.serving.Seen.{Seen}
use Rattle.dt_orders_turns.specs.Answers.{at_work, done, execute, forked, hello, invalid, never, none, ok, old, read, stale}

-- WHAT WAS READ: the store's numbers, the lane's row, and the openings that a request's commits name
abbrev pub most_clock : ℕ
most_clock = 9223372036854775807

abbrev pub most_opening : ℕ
most_opening = 4294967295

abbrev pub has_room : Meta → Bool
has_room m = nat_lt m.clock most_clock && nat_lt m.opening most_opening

abbrev pub seen_of : OrdersServer → Meta → Option Row → Seen
seen_of t m row = record { meta = m; row = row; since = opening_at 0 t.openings; after_since = opening_at 2 t.openings; knows = opening_at 4 t.openings; after_knows = opening_at 6 t.openings }

abbrev pub seen_by : Option Meta → Option (Option Row) → OrdersServer → Option Seen
seen_by None row t = None
seen_by (Some m) None t = None
seen_by (Some m) (Some row) t = if has_room m then Some (seen_of t m row) else None

abbrev pub seen_in : OrdersServer → Option Seen
seen_in t = seen_by (read_if (is_meta t.numbers) (meta_in t.numbers)) (read_if (is_row t.row) (row_in t.row)) t

-- the request of the octets before a body
abbrev pub asks : List ℕ → Option Request
asks octets = read_if (is_request octets) (request_in octets)

abbrev pub asked_by : Called → Asked
asked_by c = record { kind = c.kind; number = c.number; tag = c.tag; since = c.since; knows = c.knows }

abbrev pub known_or : Known → Option Known → Known
known_or q None = q
known_or q (Some other) = other

abbrev pub places_of : Seen → Asked → Places
places_of s a = record { since = place_by s.meta.clock a.since s.since s.after_since; knows = place_by s.meta.clock (known_or a.since a.knows) s.knows s.after_knows }

abbrev pub verdict_seen : Seen → Asked → Bool → Verdict
verdict_seen s a strict = verdict_of s.meta s.row a (places_of s a) strict

-- WHAT IS WRITTEN
abbrev pub ticked : Meta → Meta
ticked m = record m { clock = m.clock + 1 }

abbrev pub written : OrdersServer → Meta → Option Row → OrdersServer
written t m row = record t { numbers = meta_octets m; row = row_octets row }

abbrev pub row_of : Seen → Asked → RowState → Row
row_of s a how = row_after (s.meta.clock + 1) s.meta.horizon s.row a.number a.tag how

-- THE JUDGEMENT, with what needs no handler written
abbrev pub touched_by : Option Row → Seen → OrdersServer → ℕ × OrdersServer
touched_by None s t = (stale, t)
touched_by (Some r) s t = (stale, written t (ticked s.meta) (Some (row_touched (s.meta.clock + 1) r)))

abbrev pub acted : Verdict → Seen → Asked → OrdersServer → ℕ × OrdersServer
acted verdict.Execute s a t = (execute, t)
acted verdict.Cancel s a t = (never, written t (ticked s.meta) (Some (row_of s a state.Cancelled)))
acted verdict.Touch s a t = touched_by s.row s t
acted verdict.Done s a t = (done, t)
acted verdict.Never s a t = (never, t)
acted verdict.AtWork s a t = (at_work, t)
acted verdict.Stale s a t = (stale, t)
acted verdict.Old s a t = (old, t)
acted verdict.Forked s a t = (forked, t)
acted verdict.Hello s a t = (hello, t)
acted verdict.Read s a t = (read, t)

abbrev pub judged_by : Option Seen → Option Request → Bool → OrdersServer → ℕ × OrdersServer
judged_by None q strict t = (invalid, t)
judged_by (Some s) None strict t = (invalid, t)
judged_by (Some s) (Some q) strict t = acted (verdict_seen s (asked_by q.called) strict) s (asked_by q.called) t

abbrev pub judged : List ℕ → Bool → OrdersServer → ℕ × OrdersServer
judged request strict t = judged_by (seen_in t) (asks request) strict t

-- AN EXECUTED ORDER is written, done or at work: only where the judgement is that it is executed
abbrev pub state_as : Bool → RowState
state_as true = state.Done
state_as false = state.AtWork

abbrev pub is_execute : Verdict → Bool
is_execute verdict.Execute = true
is_execute _ = false

abbrev pub executed_if : Bool → Seen → Asked → Bool → OrdersServer → ℕ × OrdersServer
executed_if true s a is_done t = (ok, written t (ticked s.meta) (Some (row_of s a (state_as is_done))))
executed_if false s a is_done t = (none, t)

abbrev pub executed_by : Option Seen → Option Request → (strict is_done : Bool) → OrdersServer → ℕ × OrdersServer
executed_by None q strict is_done t = (invalid, t)
executed_by (Some s) None strict is_done t = (invalid, t)
executed_by (Some s) (Some q) strict is_done t = executed_if (is_execute (verdict_seen s (asked_by q.called) strict)) s (asked_by q.called) is_done t

abbrev pub executed : List ℕ → (strict is_done : Bool) → OrdersServer → ℕ × OrdersServer
executed request strict is_done t = executed_by (seen_in t) (asks request) strict is_done t

-- AN ORDER THAT WAS AT WORK has its result
abbrev pub is_at_work : RowState → Bool
is_at_work state.AtWork = true
is_at_work state.Cancelled = false
is_at_work state.Done = false

abbrev pub finished_row : Option Row → Seen → OrdersServer → ℕ × OrdersServer
finished_row None s t = (none, t)
finished_row (Some r) s t = if is_at_work r.state then (ok, written t (ticked s.meta) (Some (row_finished (s.meta.clock + 1) r))) else (none, t)

abbrev pub finished_by : Option Seen → OrdersServer → ℕ × OrdersServer
finished_by None t = (invalid, t)
finished_by (Some s) t = finished_row s.row s t

abbrev pub finished : OrdersServer → ℕ × OrdersServer
finished t = finished_by (seen_in t) t

-- A ROW IS FORGOTTEN: not while its order is at work
abbrev pub forgotten_row : Option Row → Seen → OrdersServer → ℕ × OrdersServer
forgotten_row None s t = (none, t)
forgotten_row (Some r) s t = if is_at_work r.state then (none, t) else (ok, written t (record s.meta { clock = s.meta.clock + 1; horizon = horizon_after s.meta.horizon r }) None)

abbrev pub forgotten_by : Option Seen → OrdersServer → ℕ × OrdersServer
forgotten_by None t = (invalid, t)
forgotten_by (Some s) t = forgotten_row s.row s t

abbrev pub forgotten : OrdersServer → ℕ × OrdersServer
forgotten t = forgotten_by (seen_in t) t

-- A STORE IS OPENED: its numbers, and its new opening; a store whose clock is 0 was never opened
abbrev pub opened_meta : Meta → ℕ → Meta
opened_meta m nonce = record { clock = m.clock + 1; horizon = m.horizon; opening = if m.clock == 0 then 0 else m.opening + 1; nonce = nonce }

abbrev pub opened_if : Bool → Meta → ℕ → OrdersServer → ℕ × OrdersServer
opened_if false m nonce t = (invalid, t)
opened_if true m nonce t = (ok, record t { numbers = meta_octets (opened_meta m nonce); openings = opening_octets (Some (record { nonce = nonce; first = m.clock + 1 })) ++ drop 16 t.openings })

abbrev pub opened_by : Option Meta → ℕ → OrdersServer → ℕ × OrdersServer
opened_by None nonce t = (invalid, t)
opened_by (Some m) nonce t = opened_if (has_room m) m nonce t

abbrev pub opened : OrdersServer → ℕ → ℕ × OrdersServer
opened t nonce = opened_by (read_if (is_meta t.numbers) (meta_in t.numbers)) nonce t

-- THE ANSWER: what it names is the store's last commit
abbrev pub heard_of : Meta → Known
heard_of m = record { opening = m.opening; nonce = m.nonce; clock = m.clock }

abbrev pub number_of : Option Row → ℕ
number_of None = 0
number_of (Some r) = r.number

abbrev pub value_of : Word → Option Row → ℕ
value_of word.Stale row = number_of row
value_of _ row = 0

abbrev pub answer_of : Seen → Request → Word → Answer
answer_of s q w = record { word = w; value = value_of w s.row; heard = heard_of s.meta; attempt = q.called.attempt }

abbrev pub is_word : ℕ → Bool
is_word said = nat_le 65 said && nat_le said 73

abbrev pub answered_by : Option Seen → Option Request → ℕ → OrdersServer → ℕ × OrdersServer
answered_by None q said t = (invalid, t)
answered_by (Some s) None said t = (invalid, t)
answered_by (Some s) (Some q) said t = (ok, record t { answer = answer_octets (answer_of s q (word_of_code (said - 64))) })

abbrev pub answered : List ℕ → ℕ → OrdersServer → ℕ × OrdersServer
answered request said t = if is_word said then answered_by (seen_in t) (asks request) said t else (invalid, t)

-- WHAT IS LOOKED UP for a request
abbrev pub look_of : Called → ℕ → OrdersLook
look_of c lane = record { kind = code_of_kind c.kind; lane = lane; since = c.since.opening; knows = (known_or c.since c.knows).opening }

abbrev pub looked_by : Option Request → OrdersLook → ℕ × OrdersLook
looked_by None l = (invalid, l)
looked_by (Some q) l = (ok, look_of q.called q.lane)

abbrev pub looked : List ℕ → OrdersLook → ℕ × OrdersLook
looked request l = looked_by (asks request) l
