-- THE FACTS OF CALLS. Some hold at every point of a step (`CourseFacts`), and more between two steps (`CallFacts`). With them each call is served at most once.
use Rattle.std.specs.Prelude.{ℕ, suc, ◌+◌, ◌-◌, ◌<◌, ◌≤◌, ◌≡◌, ◌≢◌, ◌==◌, true, false, if◌then◌else◌, List, [], ◌∷◌, ◌++◌, All, Contains, drop, length, map, slice_index_or, take, Option, Some, None}
use Rattle.dt_items.specs.Unread.{marked}
use Rattle.dt_units.specs.declared.endpoints.Flow.{Flow}
use Rattle.dt_units.specs.Flows.{IsFlow}
use Rattle.dt_units.specs.Limits.{IsWithinLimits}
use Rattle.dt_flow_model.specs.declared.rows.Given.{Given}
use Rattle.dt_flow_model.specs.declared.rows.Taken as rows
use Rattle.dt_flow_model.specs.Ledger.{given_at, is_given, item_of}
use Rattle.dt_world_model.specs.Ledgers.{ledger_of}
use Rattle.dt_world_model.specs.Tables.{AllEntries, Distinct, has_key, same_flow}
use Rattle.dt_world_model.specs.World.{World, placed, view}
use Rattle.dt_world_model.specs.WorldFacts.{WorldFacts}
use Rattle.dt_calls_model.specs.declared.calls.Call.{Call}
use Rattle.dt_calls_model.specs.declared.calls.CallState.TheVariants as state
use Rattle.dt_calls_model.specs.declared.calls.Posted.{Posted}
use Rattle.dt_calls_model.specs.declared.calls.Posted.TheVariants.{Refused, Taken}
use Rattle.dt_calls_model.specs.Messages.{message_of, reversed}
use Rattle.dt_calls_model.specs.Calls.{Begun, Calls, Client, Server, Side, begun_at, call_at, flow_read, is_call}
use Rattle.dt_calls_model.specs.CallStep.{becomes_unsure}
use Rattle.dt_calls_model.specs.Rests.{RestsIn}
use Rattle.dt_calls_model.specs.Promises.{AreServedOnce, payload_of}

-- a message that a flow took: its call, and the places of its octets
pub record Span : Type 0 where
  pub call : ℕ
  pub place : ℕ
  pub count : ℕ

abbrev pub taken_rows : World → Flow → List rows.Taken
taken_rows w f = (ledger_of w.ledgers f).taken

-- the given rows but for those that are unread: they were read, or were lost in a restart of the reader
abbrev pub rows_gone : World → Flow → List Given
rows_gone w f = let given = (ledger_of w.ledgers f).given in take (length given - length (view w f).unread) given

-- What the span carries stands there, with a begin mark on its first octet and an end mark on its last, and no other marks.
pub record IsMessage (w : World) (f : Flow) (carried : List ℕ) (s : Span) : Type 0 where
  pub count : length (message_of s.call carried) ≡ s.count
  pub items : map item_of (take s.count (drop s.place (taken_rows w f))) ≡ marked (message_of s.call carried) true true false

-- THE MESSAGES OF A FLOW lie side by side, from a place on, and it took nothing else. What each carries is known by its span.
abbrev pub LieSideBySide : World → Flow → (Span → List ℕ) → ℕ → List Span → Type 0
LieSideBySide w f carried place [] = length (taken_rows w f) ≡ place
LieSideBySide w f carried place (s ∷ spans) = (s.place ≡ place) × IsMessage w f (carried s) s × LieSideBySide w f carried (place + s.count) spans

-- the requests that a flow took, in the order of their calls
abbrev pub span_of : ℕ → Posted → List Span
span_of n (Taken place count) = (record { call = n; place = place; count = count }) ∷ []
span_of n Refused = []

abbrev pub requests_from : Flow → ℕ → List Call → List Span
requests_from f n [] = []
requests_from f n (call ∷ calls) = (if same_flow call.flow f then span_of n call.request else []) ++ requests_from f (suc n) calls

abbrev pub requests_on : Calls → Flow → List Span
requests_on c f = requests_from f 0 c.calls

-- A request carries the payload of its call, and a reply the handler's answer to it. A flow has the replies of its served calls, and each has its own once.
module _ (answer : List ℕ → List ℕ) where
  pub record AreReplies (c : Calls) (f : Flow) (spans : List Span) : Type 0 where
    pub lie : LieSideBySide c.world (reversed f) (λ s. answer (payload_of c.world (call_at c s.call))) 0 spans
    pub of_calls : All (λ s. (is_call c f s.call ≡ true) × ((call_at c s.call).reply ≡ Some (Taken s.place s.count))) spans
    pub all : (n place count : ℕ) → is_call c f n ≡ true → (call_at c n).reply ≡ Some (Taken place count) → Contains spans (record { call = n; place = place; count = count })

-- WHAT IS BEGUN at a side is the first part of a message: its octets stand in the last rows that are gone, in the present life of the reader, and its last one isn't among them.
pub record IsBegun (w : World) (g : Flow) (spans : List Span) (octets : List ℕ) : Type 0 where
  pub span : Span
  pub there : Contains spans span
  pub some : 0 < length octets
  pub part : length octets < span.count
  pub gone : length octets ≤ length (rows_gone w g)
  pub rows : (k : ℕ) → k < length octets → let row = given_at (rows_gone w g) (length (rows_gone w g) - length octets + k) in
      (row.place ≡ span.place + k) × (row.life ≡ (placed w g.to.0).life) × (row.octet ≡ slice_index_or octets k row.octet)

abbrev pub AreBegun : World → Flow → List Span → Option (List ℕ) → Type 0
AreBegun w g spans None = Unit {0}
AreBegun w g spans (Some octets) = IsBegun w g spans octets

-- the place of the last octet of a request. Where its call was served it is gone, and is read nowhere again.
abbrev pub last_of : Posted → ℕ
last_of (Taken place count) = place + count - 1
last_of Refused = 0

pub record CallIsKept (c : Calls) (call : Call) : Type 0 where
  pub flow : has_key same_flow call.flow c.flows ≡ true
  pub served_is_gone : 0 < call.served → is_given (rows_gone c.world call.flow) (last_of call.request) ≡ true
  pub replied : call.reply ≢ None → call.served ≡ 1
  pub declined : call.request ≡ Refused → call.state ≡ state.Declined
  pub declined_only : call.state ≡ state.Declined → call.request ≡ Refused

-- BETWEEN TWO STEPS nothing is unread at a flow with a call, and its two stations rest
pub record FlowRests (c : Calls) (f : Flow) (b : Begun) : Type 0 where
  pub client_rests : RestsIn c.world f.from.0
  pub server_rests : RestsIn c.world f.to.0
  pub all_read : (side : Side) → (view c.world (flow_read side f)).unread ≡ []

module _ (answer : List ℕ → List ℕ) where
  pub record FlowIsKept (c : Calls) (f : Flow) (b : Begun) : Type 0 where
    pub ranges : IsFlow f
    -- a call of the flow
    pub called : ℕ
    pub is_called : is_call c f called ≡ true
    pub from_there : has_key ◌==◌ f.from.0 c.world.stations ≡ true
    pub to_there : has_key ◌==◌ f.to.0 c.world.stations ≡ true
    pub two_ends : f.from.0 ≢ f.to.0
    pub one_way : has_key same_flow (reversed f) c.flows ≡ false
    pub requests : LieSideBySide c.world f (λ s. payload_of c.world (call_at c s.call)) 0 (requests_on c f)
    pub replies : List Span
    pub are_replies : AreReplies answer c f replies
    pub requests_begun : AreBegun c.world f (requests_on c f) b.request
    pub replies_begun : AreBegun c.world (reversed f) replies b.reply

  -- at every point of a step
  pub record CourseFacts (c : Calls) : Type 0 where
    pub limits : IsWithinLimits c.world.params
    pub world : WorldFacts c.world
    pub distinct : Distinct same_flow c.flows
    pub flows : AllEntries (FlowIsKept c) c.flows
    -- a flow without calls either way took nothing
    pub others : (f : Flow) → has_key same_flow f c.flows ≡ false → has_key same_flow (reversed f) c.flows ≡ false → taken_rows c.world f ≡ []
    pub calls : All (CallIsKept c) c.calls
    pub once : AreServedOnce c

  -- between two steps no call that waits is to be judged
  pub record CallFacts (c : Calls) : Type 0 where
    pub course : CourseFacts c
    pub rest : AllEntries (FlowRests c) c.flows
    pub sure : All (λ call. becomes_unsure c.world call ≡ false) c.calls
