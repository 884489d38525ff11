-- What is called, handed out, replied and answered over a list of turns, in the order of the turns.
use Rattle.std.specs.Prelude.{ℕ, ◌==◌, List, [], ◌∷◌, ◌++◌, Option, Some, None, if◌then◌else◌}
use Rattle.dt_units.specs.declared.endpoints.Flow.{Flow}
use Rattle.dt_world_model.specs.Host.{one_if}
use Rattle.dt_world_model.specs.Tables.{same_flow, total}
use Rattle.dt_world_model.specs.WorldStep.{first_refusal}
use Rattle.dt_calls_model.specs.Messages.{message_of}
use Rattle.dt_network.specs.Network.{Setup}
use Rattle.dt_service_model.specs.declared.answers.Made.{Made}
use Rattle.dt_service_model.specs.declared.answers.Made.TheVariants as made
use Rattle.dt_service_model.specs.declared.answers.Replied.{Replied}
use Rattle.dt_service_model.specs.declared.answers.Replied.TheVariants as replied
use Rattle.dt_service_model.specs.declared.happenings.Happening.{Happening}
use Rattle.dt_service_model.specs.declared.happenings.Happening.TheVariants.{Answered, ReplyUncertain, Request, Unsure}
use Rattle.dt_service_model.specs.declared.names.CallNumber.{CallNumber}
use Rattle.dt_service_model.specs.declared.names.Token.{Token}
use Rattle.dt_service_model.specs.Asked.{call, call_refusals, is_life_in_use, next_number, reply, reply_refusals}
use Rattle.dt_service_model.specs.Names.{to_u64, same_number}
use Rattle.dt_service_model.specs.Turns.{Node}
use Rattle.dt_service_laws.specs.Services.{Arrives, Closes, CountsFlow, Deed, Does, FindsNoMemory, Forgets, GetsRoute, GivesKind, GivesReply, MakesCall, OpensAgain, Passes, PullsFrame, Raises, Services, TakesHappening, Ticks, Turn, node_after, node_at, services_after, told_between}

-- what a message says: the number of a call, and what it carries
pub record Message : Type 0 where
  pub number : CallNumber
  pub carried : List ℕ

-- its octets
abbrev pub spelled : Message → List ℕ
spelled m = message_of (to_u64 m.number) m.carried

-- what isn't refused
abbrev pub asked_as : {A : Type 0} → Option A → CallNumber → List ℕ → List Message
asked_as None number payload = record { number = number; carried = payload } ∷ []
asked_as (Some refusal) number payload = []

-- THE CALLS of a flow: a call is made where it is answered with its number. One that found no memory may have been made
abbrev pub made_as : Made → List ℕ → List Message
made_as (made.Call number) payload = record { number = number; carried = payload } ∷ []
made_as (made.Declined why) payload = []
made_as (made.Refused why) payload = []
made_as made.NoMemory payload = []

abbrev pub call_asked : Flow → Deed → Node → List Message
call_asked f (MakesCall now g payload patience) x = if same_flow g f then asked_as (first_refusal (call_refusals x g payload patience)) (next_number x.book) payload else []
call_asked f (GivesKind port kind) x = []
call_asked f (GivesReply now token payload) x = []
call_asked f (Forgets now token) x = []
call_asked f (Ticks now) x = []
call_asked f (Arrives now link datagram waited) x = []
call_asked f (Raises life) x = []
call_asked f TakesHappening x = []
call_asked f PullsFrame x = []
call_asked f (GetsRoute route answer added) x = []
call_asked f (CountsFlow flow counted) x = []
call_asked f Closes x = []
call_asked f (OpensAgain again options most life) x = []
call_asked f (FindsNoMemory deed after) x = call_asked f deed x

abbrev pub call_by : Flow → Deed → Node → List Message
call_by f (MakesCall now g payload patience) x = if same_flow g f then made_as (call now g payload patience x).0 payload else []
call_by f (GivesKind port kind) x = []
call_by f (GivesReply now token payload) x = []
call_by f (Forgets now token) x = []
call_by f (Ticks now) x = []
call_by f (Arrives now link datagram waited) x = []
call_by f (Raises life) x = []
call_by f TakesHappening x = []
call_by f PullsFrame x = []
call_by f (GetsRoute route answer added) x = []
call_by f (CountsFlow flow counted) x = []
call_by f Closes x = []
call_by f (OpensAgain again options most life) x = []
call_by f (FindsNoMemory deed after) x = call_asked f deed x

-- THE REPLIES to the requests of a flow that its service gave and the node took. One that found no memory may have been taken
abbrev pub replied_as : Replied → Token → List ℕ → List Message
replied_as replied.Done token payload = record { number = token.number; carried = payload } ∷ []
replied_as replied.Gone token payload = []
replied_as (replied.Full free) token payload = []
replied_as (replied.Refused why) token payload = []
replied_as replied.NoMemory token payload = []

abbrev pub reply_asked : Flow → Deed → Node → List Message
reply_asked f (GivesReply now token payload) x = if same_flow token.flow f then asked_as (first_refusal (reply_refusals x token payload)) token.number payload else []
reply_asked f (GivesKind port kind) x = []
reply_asked f (MakesCall now g payload patience) x = []
reply_asked f (Forgets now token) x = []
reply_asked f (Ticks now) x = []
reply_asked f (Arrives now link datagram waited) x = []
reply_asked f (Raises life) x = []
reply_asked f TakesHappening x = []
reply_asked f PullsFrame x = []
reply_asked f (GetsRoute route answer added) x = []
reply_asked f (CountsFlow flow counted) x = []
reply_asked f Closes x = []
reply_asked f (OpensAgain again options most life) x = []
reply_asked f (FindsNoMemory deed after) x = reply_asked f deed x

abbrev pub reply_by : Flow → Deed → Node → List Message
reply_by f (GivesReply now token payload) x = if same_flow token.flow f then replied_as (reply now token payload x).0 token payload else []
reply_by f (GivesKind port kind) x = []
reply_by f (MakesCall now g payload patience) x = []
reply_by f (Forgets now token) x = []
reply_by f (Ticks now) x = []
reply_by f (Arrives now link datagram waited) x = []
reply_by f (Raises life) x = []
reply_by f TakesHappening x = []
reply_by f PullsFrame x = []
reply_by f (GetsRoute route answer added) x = []
reply_by f (CountsFlow flow counted) x = []
reply_by f Closes x = []
reply_by f (OpensAgain again options most life) x = []
reply_by f (FindsNoMemory deed after) x = reply_asked f deed x

-- THE REQUESTS of a flow that are handed out, and the answers
abbrev pub request_in : Flow → Happening → List Message
request_in f (Request token payload) = if same_flow token.flow f then record { number = token.number; carried = payload } ∷ [] else []
request_in f (Answered number answer) = []
request_in f (Unsure number cause) = []
request_in f (ReplyUncertain flow) = []

abbrev pub answer_in : Happening → List Message
answer_in (Request token payload) = []
answer_in (Answered number answer) = record { number = number; carried = answer } ∷ []
answer_in (Unsure number cause) = []
answer_in (ReplyUncertain flow) = []

abbrev pub each_of : (Happening → List Message) → List Happening → List Message
each_of pick [] = []
each_of pick (happening ∷ told) = pick happening ++ each_of pick told

abbrev pub told_by : (Happening → List Message) → Setup → (node : ℕ) → Deed → Node → List Message
told_by pick setup n deed x = each_of pick (told_between x (node_after setup n deed x))

-- OVER ALL TURNS
abbrev pub at_node : {A : Type 0} → (Node → List A) → Option Node → List A
at_node some None = []
at_node some (Some x) = some x

abbrev pub in_turn : {A : Type 0} → (ℕ → Deed → Node → List A) → Turn → Services → List A
in_turn some (Passes by) s = []
in_turn some (Does n deed) s = at_node (some n deed) (node_at n s)

abbrev pub in_turns : {A : Type 0} → (ℕ → Deed → Node → List A) → Setup → List Turn → Services → List A
in_turns some setup [] s = []
in_turns some setup (t ∷ turns) s = in_turn some t s ++ in_turns some setup turns (services_after setup t s)

abbrev pub calls_on : Flow → Setup → List Turn → Services → List Message
calls_on f setup turns s = in_turns (λ n. call_by f) setup turns s

abbrev pub requests_on : Flow → Setup → List Turn → Services → List Message
requests_on f setup turns s = in_turns (told_by (request_in f) setup) setup turns s

abbrev pub replies_on : Flow → Setup → List Turn → Services → List Message
replies_on f setup turns s = in_turns (λ n. reply_by f) setup turns s

-- those at a node
abbrev pub at_the : {A : Type 0} → ℕ → (ℕ → Deed → Node → List A) → ℕ → Deed → Node → List A
at_the client some n deed x = if n == client then some n deed x else []

abbrev pub answers_at : ℕ → Setup → List Turn → Services → List Message
answers_at client setup turns s = in_turns (at_the client (told_by answer_in setup)) setup turns s

-- THE LIVES of a node after its first one, each as it begins
abbrev pub life_by : Deed → Node → List ℕ
life_by (Raises life) x = if is_life_in_use life x.book then [] else life ∷ []
life_by (OpensAgain again options most life) x = life ∷ []
life_by (GivesKind port kind) x = []
life_by (MakesCall now g payload patience) x = []
life_by (GivesReply now token payload) x = []
life_by (Forgets now token) x = []
life_by (Ticks now) x = []
life_by (Arrives now link datagram waited) x = []
life_by TakesHappening x = []
life_by PullsFrame x = []
life_by (GetsRoute route answer added) x = []
life_by (CountsFlow flow counted) x = []
life_by Closes x = []
life_by (FindsNoMemory deed after) x = []

abbrev pub lives_at : (node : ℕ) → Setup → List Turn → Services → List ℕ
lives_at n setup turns s = in_turns (at_the n (λ m. life_by)) setup turns s

-- HOW OFTEN a number stands in a history
abbrev pub count_of : CallNumber → List Message → ℕ
count_of n messages = total (λ (m : Message). one_if (same_number m.number n)) messages
