-- THE CALL RULE: what an event does to the calls of a world, and what is told.
use Rattle.std.specs.Prelude.{ℕ, suc, ◌==◌, Bool, true, false, ◌&&◌, ◌||◌, if◌then◌else◌, nat_lt, List, [], ◌∷◌, ◌++◌, drop, length, map, take, Option, Some, None}
use Rattle.std.specs.List.{list_any}
use Rattle.dt_units.specs.declared.endpoints.Flow.{Flow}
use Rattle.dt_reports.specs.declared.faults.StepFault.{StepFault}
use Rattle.dt_reports.specs.declared.faults.StepFault.TheVariants as fault
use Rattle.dt_flow_model.specs.declared.rows.Fate.{Fate}
use Rattle.dt_flow_model.specs.declared.rows.Fate.TheVariants as fate
use Rattle.dt_flow_model.specs.declared.rows.Taken as rows
use Rattle.dt_world_model.specs.Ledgers.{ledger_of}
use Rattle.dt_world_model.specs.Tables.{same_flow}
use Rattle.dt_world_model.specs.World.{World, placed}
use Rattle.dt_world_model.specs.WorldStep as world
use Rattle.dt_world_model.specs.WorldStep.{WorldEvent, first_refusal, is_own, lacks_station, world_step}
use Rattle.dt_calls_model.specs.declared.calls.CallState.{CallState}
use Rattle.dt_calls_model.specs.declared.calls.CallState.TheVariants as state
use Rattle.dt_calls_model.specs.declared.calls.Call.{Call}
use Rattle.dt_calls_model.specs.declared.calls.Posted.{Posted}
use Rattle.dt_calls_model.specs.declared.calls.Posted.TheVariants.{Refused, Taken}
use Rattle.dt_calls_model.specs.Messages.{message_of, reversed}
use Rattle.dt_calls_model.specs.Calls.{Begun, Calls, with_flow}
use Rattle.dt_calls_model.specs.CallTold as told
use Rattle.dt_calls_model.specs.CallTold.{CallEntry, CallTold}
use Rattle.dt_calls_model.specs.Reads.{Course, post, read_all, say}

-- AT THE END OF A STEP a call that waits becomes unsure where its answer may never come: an octet of its request or of its reply is uncertain or of an earlier life of its sender, or its reply was refused.
abbrev pub is_uncertain : Fate → Bool
is_uncertain fate.Open = false
is_uncertain fate.Acked = false
is_uncertain fate.Uncertain = true

abbrev pub is_in_vain : ℕ → rows.Taken → Bool
is_in_vain life row = is_uncertain row.fate || nat_lt row.life life

abbrev pub is_posted_in_vain : World → Flow → Posted → Bool
is_posted_in_vain w f (Taken place count) = list_any (is_in_vain (placed w f.from.0).life) (take count (drop place (ledger_of w.ledgers f).taken))
is_posted_in_vain w f Refused = true

abbrev pub is_replied_in_vain : World → Flow → Option Posted → Bool
is_replied_in_vain w f None = false
is_replied_in_vain w f (Some reply) = is_posted_in_vain w f reply

abbrev pub is_waiting : CallState → Bool
is_waiting state.Waiting = true
is_waiting state.Answered = false
is_waiting state.Unsure = false
is_waiting state.Declined = false

abbrev pub becomes_unsure : World → Call → Bool
becomes_unsure w call = is_waiting call.state && (is_posted_in_vain w call.flow call.request || is_replied_in_vain w (reversed call.flow) call.reply)

abbrev pub judged : World → Call → Call
judged w call = if becomes_unsure w call then record call { state = state.Unsure } else call

-- the calls from a number on that become unsure, in their order
abbrev pub verdicts_from : World → ℕ → List Call → List CallEntry
verdicts_from w n [] = []
verdicts_from w n (call ∷ calls) = (if becomes_unsure w call then record { moment = w.now; told = told.Unsure n } ∷ [] else []) ++ verdicts_from w (suc n) calls

abbrev pub judge_all : Course → Course
judge_all c =
    let w = c.calls.world in
    record { told = c.told ++ verdicts_from w 0 c.calls.calls; calls = record (c.calls) { calls = map (judged w) c.calls.calls } }

-- A RESTART of a station drops what was begun at the sides that read there: at the server's side of a flow that ends there, at the client's side of one that begins there.
abbrev pub kept_unless : Bool → Option (List ℕ) → Option (List ℕ)
kept_unless true begun = None
kept_unless false begun = begun

abbrev pub without_reader : ℕ → Flow × Begun → Flow × Begun
without_reader n e = (e.0, record { request = kept_unless (e.0.to.0 == n) e.1.request; reply = kept_unless (e.0.from.0 == n) e.1.reply })

abbrev pub flows_after : WorldEvent → List (Flow × Begun) → List (Flow × Begun)
flows_after (world.Passes by) flows = flows
flows_after (world.Sends f octets begin end) flows = flows
flows_after (world.Reads f most) flows = flows
flows_after (world.Ticks n) flows = flows
flows_after (world.Arrives copy) flows = flows
flows_after (world.Loses copy) flows = flows
flows_after (world.Restarts n) flows = map (without_reader n) flows

-- WHAT HAPPENS: a call is made, or an event of the world comes that is no send and no read
pub data CallEvent : Type 0 where
  Makes : (flow : Flow) → (payload : List ℕ) → CallEvent
  Happens : (event : WorldEvent) → CallEvent

-- a call is refused by the first of these tests that holds: replies travel on the reversed flow, so no call may
abbrev pub is_way_of_replies : Calls → Flow → Bool × StepFault
is_way_of_replies c f = (list_any (λ (call : Call). same_flow call.flow (reversed f)) c.calls, fault.BadFlow)

abbrev pub call_refusals : Calls → Flow → List (Bool × StepFault)
call_refusals c f = is_own f ∷ is_way_of_replies c f ∷ lacks_station c.world f.from.0 ∷ lacks_station c.world f.to.0 ∷ []

-- A CALL IS MADE: its request is handed in. Where the host refuses it, the call is declined.
abbrev pub state_of : Posted → CallState
state_of (Taken place count) = state.Waiting
state_of Refused = state.Declined

abbrev pub say_posted : Posted → ℕ → Course → Course
say_posted (Taken place count) n c = c
say_posted Refused n c = say (told.Declined n) c

abbrev pub make_with : Flow → ℕ → Posted × World → Calls → Course
make_with f count request c =
    let n = length c.calls in
    let call : Call = record { flow = f; state = state_of request.0; served = 0; request = request.0; reply = None } in
    say_posted request.0 n (say (told.Made n f count) (record { told = []; calls = record { world = request.1; calls = c.calls ++ call ∷ []; flows = with_flow f c.flows } }))

abbrev pub make : Flow → List ℕ → Calls → Course
make f payload c = make_with f (length payload) (post f (message_of (length c.calls) payload) c.world) c

-- THE STEP: what happens, and then all sides are read, and the calls that wait are judged.
pub data Outcome : Type 0 where
  Faulty : (fault : StepFault) → Outcome
  Stepped : (lines : List CallEntry) → (after : Calls) → Outcome

module _ (answer : List ℕ → List ℕ) where
  abbrev pub finish : Course → Course
  finish c = judge_all (read_all answer c)

  abbrev pub to_outcome : Course → Outcome
  to_outcome c = Stepped c.told c.calls

  abbrev pub make_unless : Option StepFault → Flow → List ℕ → Calls → Outcome
  make_unless None f payload c = to_outcome (finish (make f payload c))
  make_unless (Some fault) f payload c = Faulty fault

  abbrev pub go_on : WorldEvent → Calls → world.Outcome → Outcome
  go_on e c (world.Refused fault) = Faulty fault
  go_on e c (world.Stepped lines after) = to_outcome (finish (record { told = []; calls = record { world = after; calls = c.calls; flows = flows_after e c.flows } }))

  abbrev pub call_step : Calls → CallEvent → Outcome
  call_step c (Makes f payload) = make_unless (first_refusal (call_refusals c f)) f payload c
  call_step c (Happens e) = go_on e c (world_step c.world e)
