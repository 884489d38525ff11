-- WHAT IS PROMISED of calls.
use Rattle.std.specs.Prelude.{ℕ, ◌<◌, ◌≤◌, ◌≡◌, ◌≢◌, List, [], ◌∷◌, All, length, map, slice_index_or, take, drop}
use Rattle.dt_flow_model.specs.declared.rows.Taken as rows
use Rattle.dt_world_model.specs.Ledgers.{ledger_of}
use Rattle.dt_world_model.specs.World.{World}
use Rattle.dt_calls_model.specs.declared.calls.Call.{Call}
use Rattle.dt_calls_model.specs.declared.calls.CallState.TheVariants as state
use Rattle.dt_calls_model.specs.declared.calls.Posted.{Posted}
use Rattle.dt_calls_model.specs.declared.calls.Posted.TheVariants.{Refused, Taken}
use Rattle.dt_calls_model.specs.Calls.{Calls, call_at}
use Rattle.dt_calls_model.specs.CallTold as told
use Rattle.dt_calls_model.specs.CallTold.{CallEntry, CallTold}
use Rattle.dt_calls_model.specs.CallStep.{CallEvent, Faulty, Happens, Makes, Outcome, Stepped}
use Rattle.dt_calls_model.specs.Messages.{carried_in}

-- A call is served at most once, and one that is answered was served once. One that is declined is never served: its request wasn't taken.
pub record IsServedOnce (call : Call) : Type 0 where
  pub at_most_once : call.served ≤ 1
  pub answered_once : call.state ≡ state.Answered → call.served ≡ 1
  pub never_declined : call.state ≡ state.Declined → call.served ≡ 0

abbrev pub AreServedOnce : Calls → Type 0
AreServedOnce c = All IsServedOnce c.calls

-- the payload of a call: what its request carries, as the octets stand in the ledger
abbrev pub octets_posted : World → Call → Posted → List ℕ
octets_posted w call (Taken place count) = map (λ (row : rows.Taken). row.octet) (take count (drop place (ledger_of w.ledgers call.flow).taken))
octets_posted w call Refused = []

abbrev pub payload_of : World → Call → List ℕ
payload_of w call = carried_in (octets_posted w call call.request)

-- THE PAYLOADS of calls, by their numbers, as they were handed in: each call has its own, and its request carries that, unless the host refused it.
abbrev pub payload_at : List (List ℕ) → ℕ → List ℕ
payload_at payloads call = slice_index_or payloads call []

pub record AreMadeWith (payloads : List (List ℕ)) (c : Calls) : Type 0 where
  pub count : length payloads ≡ length c.calls
  pub carried : (call : ℕ) → call < length c.calls → (call_at c call).request ≢ Refused → payload_of c.world (call_at c call) ≡ payload_at payloads call

-- the payload of the call that an event makes, if it makes one: an event that is refused makes none
abbrev pub payloads_in : CallEvent → List (List ℕ)
payloads_in (Makes flow payload) = payload ∷ []
payloads_in (Happens event) = []

abbrev pub payloads_by : Outcome → CallEvent → List (List ℕ)
payloads_by (Faulty fault) e = []
payloads_by (Stepped lines after) e = payloads_in e

-- An answer is told of a call that was made, and is the handler's to the payload that was handed in with it.
abbrev pub IsItsAnswer : (List ℕ → List ℕ) → List (List ℕ) → CallTold → Type 0
IsItsAnswer answer payloads (told.Made call flow count) = Unit {0}
IsItsAnswer answer payloads (told.Declined call) = Unit {0}
IsItsAnswer answer payloads (told.Served call) = Unit {0}
IsItsAnswer answer payloads (told.Answered call octets) = (call < length payloads) × (octets ≡ answer (payload_at payloads call))
IsItsAnswer answer payloads (told.Unsure call) = Unit {0}

abbrev pub AreItsAnswers : (List ℕ → List ℕ) → List (List ℕ) → List CallEntry → Type 0
AreItsAnswers answer payloads entries = All (λ e. IsItsAnswer answer payloads e.told) entries
