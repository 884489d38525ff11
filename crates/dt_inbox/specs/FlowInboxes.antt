-- The inboxes of the flows that a node receives. A message is taken of any of them.
use Rattle.std.specs.Prelude.{◌≡◌, ◌⊎◌, ℕ, ◌+◌, ◌^◌, ◌-◌, ◌&&◌, ◌||◌, min, not, Bool, true, false, List, [], ◌∷◌, ◌++◌, set, slice_index_or, if◌then◌else◌, Option, Some, None}
use Rattle.std.specs.List.{position, remove}
use Rattle.dt_units.specs.declared.endpoints.Flow.{Flow}
use Rattle.dt_messages.specs.Joining.{is_idle}
use Rattle.dt_world_model.specs.Tables.{has_key, same_flow}
use Rattle.dt_endpoint.specs.Endpoints.{EndpointValue}
use Rattle.dt_inbox.specs.Inboxes.{InboxValue, Takes, new_inbox}
use Rattle.dt_inbox.specs.declared.inboxes.TakenMessage.{TakenMessage}
use Rattle.dt_inbox.specs.declared.inboxes.TakenMessage.TheVariants as taken

pub record FlowInboxValue : Type 0 where
  pub inbox : InboxValue
  -- whether octets of the flow may be unread
  pub due : Bool

pub record FlowInboxesValue : Type 0 where
  pub longest : Option ℕ
  -- in the order in which the flows were heard of
  pub inboxes : List FlowInboxValue
  -- how many messages were longer than the longest, up to 2^64 - 1
  pub dropped : ℕ

abbrev pub no_inboxes : Option ℕ → FlowInboxesValue
no_inboxes longest = record { longest = longest; inboxes = []; dropped = 0 }

abbrev pub is_of : Flow → FlowInboxValue → Bool
is_of flow i = same_flow i.inbox.flow flow

abbrev pub is_due : FlowInboxValue → Bool
is_due i = i.due

-- A FLOW IS HEARD OF: its inbox is due, and is made where there is none
abbrev pub first_heard : Flow → FlowInboxesValue → FlowInboxValue
first_heard flow v = record { inbox = new_inbox flow v.longest; due = true }

abbrev pub heard_at : Option ℕ → Flow → FlowInboxesValue → FlowInboxesValue
heard_at None flow v = record v { inboxes = v.inboxes ++ (first_heard flow v ∷ []) }
heard_at (Some place) flow v = record v { inboxes = set v.inboxes place (record (slice_index_or v.inboxes place (first_heard flow v)) { due = true }) }

abbrev pub heard : Flow → FlowInboxesValue → FlowInboxesValue
heard flow v = heard_at (position (is_of flow) v.inboxes) flow v

-- A FLOW IS FORGOTTEN
abbrev pub without_place : Option ℕ → FlowInboxesValue → FlowInboxesValue
without_place None v = v
without_place (Some place) v = record v { inboxes = remove v.inboxes place }

abbrev pub without : Flow → FlowInboxesValue → FlowInboxesValue
without flow v = without_place (position (is_of flow) v.inboxes) v

-- A MESSAGE IS TAKEN of a flow, which stays due where more of it may be unread
abbrev pub stays_due : TakenMessage → Bool
stays_due (taken.Whole message) = true
stays_due taken.Lost = true
stays_due taken.Unfinished = true
stays_due taken.NoRoom = true
stays_due other = false

pub record TakesHere (answer : Flow × TakenMessage) (now room : ℕ) (i k : FlowInboxValue) (e f : EndpointValue) : Type 0 where
  pub flow : answer.0 ≡ i.inbox.flow
  pub takes : Takes answer.1 now room i.inbox k.inbox e f
  pub due : k.due ≡ stays_due answer.1

-- An inbox may go: it isn't due, and nothing is begun in it, or its flow has no receiver, so that what is begun can't be ended.
abbrev pub is_over : FlowInboxValue → EndpointValue → Bool
is_over i f = not i.due && (is_idle i.inbox.joiner || not (has_key same_flow i.inbox.flow f.state.host.receivers))

abbrev pub inboxes_after : ℕ → FlowInboxValue → EndpointValue → List FlowInboxValue → List FlowInboxValue
inboxes_after place after f inboxes = if is_over after f then remove (set inboxes place after) place else set inboxes place after

-- what a flow's count grew by goes on the count of all, 2^64 - 1 at most
abbrev pub counted_on : (all before after : ℕ) → ℕ
counted_on all before after = min (all + (after - before)) (2 ^ 64 - 1)

-- the first flow that is due, and the others stay as they are
pub record TakesFrom (answer : Flow × TakenMessage) (now room : ℕ) (v w : FlowInboxesValue) (e f : EndpointValue) : Type 0 where
  pub place : ℕ
  pub before : FlowInboxValue
  pub after : FlowInboxValue
  pub first : position is_due v.inboxes ≡ Some place
  pub found : before ≡ slice_index_or v.inboxes place after
  pub takes : TakesHere answer now room before after e f
  pub others : w ≡ record v { inboxes = inboxes_after place after f v.inboxes; dropped = counted_on v.dropped before.inbox.joiner.dropped after.inbox.joiner.dropped }

abbrev pub TakesAny : Option (Flow × TakenMessage) → (now room : ℕ) → (v w : FlowInboxesValue) → (e f : EndpointValue) → Type 0
TakesAny None now room v w e f = (position is_due v.inboxes ≡ None) × (w ≡ v) × (f ≡ e)
TakesAny (Some answer) now room v w e f = TakesFrom answer now room v w e f

-- FLOW BY FLOW: a flow without a message is passed over, and the next one is asked.
abbrev pub passes_on : TakenMessage → Bool
passes_on taken.Nothing = true
passes_on taken.Unfinished = true
passes_on taken.BadFlow = true
passes_on (taken.Whole message) = false
passes_on taken.Lost = false
passes_on taken.NoMemory = false
passes_on taken.Spent = false
passes_on taken.NoRoom = false

abbrev pub asks_on : Option (Flow × TakenMessage) → Bool
asks_on None = false
asks_on (Some answer) = passes_on answer.1

-- octets of a piece at most, and flows that are passed over in one call
abbrev pub piece_room : ℕ
piece_room = 4096

abbrev pub most_passes : ℕ
most_passes = 65536

pub data PassesOn (now : ℕ) (v : FlowInboxesValue) (e : EndpointValue) : ℕ → FlowInboxesValue → EndpointValue → Type 0 where
  no_pass : PassesOn now v e 0 v e
  one_more : {n : ℕ} {w x : FlowInboxesValue} {f g : EndpointValue} (answer : Flow × TakenMessage) → PassesOn now v e n w f → TakesFrom answer now piece_room w x f g → passes_on answer.1 ≡ true → PassesOn now v e (n + 1) x g

-- The last flow that is asked has a message or wants memory, or none is due; or as many as may be were passed over.
pub record TakesNext (answer : Option (Flow × TakenMessage)) (now : ℕ) (v x : FlowInboxesValue) (e g : EndpointValue) : Type 0 where
  pub count : ℕ
  pub before : FlowInboxesValue
  pub host : EndpointValue
  pub passes : PassesOn now v e count before host
  pub last : TakesAny answer now piece_room before x host g
  pub ends : (asks_on answer ≡ false) ⊎ (count ≡ most_passes)
