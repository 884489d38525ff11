-- How messages are handed in and read while a step goes on.
use Rattle.std.specs.Prelude.{ℕ, zero, suc, ◌+◌, Bool, true, ◌&&◌, if◌then◌else◌, List, [], ◌∷◌, ◌++◌, fold, length, map, Option, Some, None}
use Rattle.dt_units.specs.declared.endpoints.Flow.{Flow}
use Rattle.dt_reports.specs.Entries.{Entry}
use Rattle.dt_world_model.specs.Ledgers.{ledger_of}
use Rattle.dt_world_model.specs.World.{World, view}
use Rattle.dt_world_model.specs.WorldStep.{Reads, Sends, WorldEvent, run}
use Rattle.dt_calls_model.specs.declared.calls.CallState.{CallState}
use Rattle.dt_calls_model.specs.declared.calls.CallState.TheVariants as state
use Rattle.dt_calls_model.specs.Messages.{Piece, begun_with, carried_in, has_number, message_of, number_in, reversed, whole_with}
use Rattle.dt_calls_model.specs.Heard.{piece_in, tells_refusal}
use Rattle.dt_calls_model.specs.declared.calls.Posted.{Posted}
use Rattle.dt_calls_model.specs.declared.calls.Posted.TheVariants.{Refused, Taken}
use Rattle.dt_calls_model.specs.Calls.{Calls, Client, Server, Side, begun_at, begun_of, call_at, flow_read, is_call, with_begun, with_call, with_sides}
use Rattle.dt_calls_model.specs.CallTold as told
use Rattle.dt_calls_model.specs.CallTold.{CallEntry, CallTold}

-- A STEP WHILE IT GOES ON: what was told since it began, and the calls
pub record Course : Type 0 where
  pub told : List CallEntry
  pub calls : Calls

abbrev pub say : CallTold → Course → Course
say line c = record c { told = c.told ++ (record { moment = c.calls.world.now; told = line }) ∷ [] }

-- an event of the world within it, and its lines
abbrev pub happens : WorldEvent → World → List Entry × World
happens e w = run (e ∷ []) w

-- A MESSAGE IS HANDED IN, with begin and end. Its octets stand after all that the flow took before.
abbrev pub posted_in : ℕ → ℕ → List Entry → Posted
posted_in place count lines = if tells_refusal lines then Refused else Taken place count

abbrev pub post : Flow → List ℕ → World → Posted × World
post f octets w =
    let r = happens (Sends f octets true true) w in
    (posted_in (length (ledger_of w.ledgers f).taken) (length octets) r.0, r.1)

-- the most octets of a read
abbrev pub most_read : ℕ
most_read = 65536

abbrev pub in_world : World → Calls → Calls
in_world w c = record c { world = w }

-- A REQUEST IS SERVED: its answer goes back with its number.
abbrev pub served_with : ℕ → Posted × World → Course → Course
served_with n reply c =
    record c { calls = with_call n (record (call_at c.calls n) { served = (call_at c.calls n).served + 1; reply = Some reply.0 }) (in_world reply.1 c.calls) }

-- A REPLY OF A CALL THAT WAITS answers it. One of a call that doesn't wait any more changes nothing.
abbrev pub answered_if : CallState → ℕ → List ℕ → Course → Course
answered_if state.Waiting n octets c =
    let said = say (told.Answered n octets) c in
    record said { calls = with_call n (record (call_at c.calls n) { state = state.Answered }) c.calls }
answered_if state.Answered n octets c = c
answered_if state.Unsure n octets c = c
answered_if state.Declined n octets c = c

module _ (answer : List ℕ → List ℕ) where
  abbrev pub serve_call : Flow → ℕ → List ℕ → Course → Course
  serve_call f n payload c = served_with n (post (reversed f) (message_of n (answer payload)) c.calls.world) (say (told.Served n) c)

  abbrev pub take_message : Side → Flow → List ℕ → Course → Course
  take_message Server f message c = serve_call f (number_in message) (carried_in message) c
  take_message Client f message c = let n = number_in message in answered_if (call_at c.calls n).state n (carried_in message) c

  -- a whole message of a call of the flow is taken
  abbrev pub take_whole : Side → Flow → Option (List ℕ) → Course → Course
  take_whole side f None c = c
  take_whole side f (Some message) c = if has_number message && is_call c.calls f (number_in message) then take_message side f message c else c

  -- A SIDE IS READ: the piece goes on what it has begun, and the message that it makes whole is taken.
  abbrev pub take_piece : Side → Flow → Piece → Course → Course
  take_piece side f piece c =
      let b = begun_of c.calls f in
      take_whole side f (whole_with (begun_at side b) piece) (record c { calls = with_sides f (with_begun side (begun_with (begun_at side b) piece) b) c.calls })

  -- until nothing is there
  abbrev pub take_read : (Course → Course) → Side → Flow → Option Piece → Course → Course
  take_read again side f None c = c
  take_read again side f (Some piece) c = again (take_piece side f piece c)

  abbrev pub read_times : ℕ → Side → Flow → Course → Course
  read_times zero side f c = c
  read_times (suc most) side f c =
      let r = happens (Reads (flow_read side f) most_read) c.calls.world in
      take_read (read_times most side f) side f (piece_in r.0) (record c { calls = in_world r.1 c.calls })

  -- Each read takes an octet at least, so one read more than octets are unread finds nothing.
  abbrev pub read_side : Side → Course → Flow → Course
  read_side side c f = read_times (suc (length (view c.calls.world (flow_read side f)).unread)) side f c

  -- ALL FLOWS WITH A CALL ARE READ, in the order of first calls: the server's sides, and then the clients'.
  abbrev pub read_sides : Side → Course → Course
  read_sides side c = fold (read_side side) c (map (λ e. e.0) c.calls.flows)

  abbrev pub read_all : Course → Course
  read_all c = read_sides Client (read_sides Server c)
