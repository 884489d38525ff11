-- Why calls end without an answer: what a node does within a turn, and what it hears in it of the octets of its requests.
use Rattle.std.specs.Prelude.{ℕ, ◌<◌, ◌≤◌, ◌≡◌, true, false, All, Contains, List, [], ◌∷◌, ◌++◌, replicate, take, Option, Some, None, if◌then◌else◌}
use Rattle.dt_units.specs.declared.endpoints.Flow.{Flow}
use Rattle.dt_reports.specs.Told.{Told}
use Rattle.dt_world_model.specs.Station.{Event, Read, Tick}
use Rattle.dt_world_model.specs.Tables.{same_flow}
use Rattle.dt_calls_model.specs.Messages.{Piece, message_of, reversed}
use Rattle.dt_endpoint.specs.Calls.{arrive_event}
use Rattle.dt_endpoint.specs.Endpoints.{after_event, moment_of}
use Rattle.dt_network.specs.Network.{Setup}
use Rattle.dt_service_model.specs.declared.calls.OpenCall.{OpenCall}
use Rattle.dt_service_model.specs.declared.calls.Cause.TheVariants as cause
use Rattle.dt_service_model.specs.declared.happenings.Happening.{Happening}
use Rattle.dt_service_model.specs.declared.happenings.Happening.TheVariants.{Answered, ReplyUncertain, Request, Unsure}
use Rattle.dt_service_model.specs.declared.names.CallNumber.{CallNumber}
use Rattle.dt_service_model.specs.Asked.{message_event, with_call}
use Rattle.dt_service_model.specs.Ends.{judge}
use Rattle.dt_service_model.specs.CallBook.{CallBook}
use Rattle.dt_service_model.specs.Hearing.{GivesUp, hear_all, heard}
use Rattle.dt_service_model.specs.Names.{to_u64}
use Rattle.dt_service_model.specs.Turns.{Node, happens, most_read, with_book}
use Rattle.dt_service_model.specs.Whole.{take_piece}
use Rattle.dt_service_laws.specs.Fates.{told_in}
use Rattle.dt_service_laws.specs.Services.{Arrives, Closes, CountsFlow, Deed, Does, FindsNoMemory, Forgets, GetsRoute, GivesKind, GivesReply, MakesCall, OpensAgain, Passes, PullsFrame, Raises, Services, TakesHappening, Ticks, Turn, node_after, node_at, services_after}

-- calls stay, and what was told
pub record LeavesCalls (h k : CallBook) : Type 0 where
  pub calls : k.calls ≡ h.calls
  pub happenings : k.happenings ≡ h.happenings
  pub closed : k.closed ≡ h.closed

-- the moment that a turn is told
abbrev pub moment_told : Deed → ℕ
moment_told (MakesCall now f payload patience) = now
moment_told (GivesReply now token payload) = now
moment_told (Forgets now token) = now
moment_told (Ticks now) = now
moment_told (Arrives now link datagram waited) = now
moment_told (GivesKind port kind) = 0
moment_told (Raises life) = 0
moment_told TakesHappening = 0
moment_told PullsFrame = 0
moment_told (GetsRoute route answer added) = 0
moment_told (CountsFlow flow counted) = 0
moment_told Closes = 0
moment_told (OpensAgain again options most life) = 0
moment_told (FindsNoMemory deed after) = moment_told deed

-- THE EVENT of its endpoint that is done. The message of a call is its number and then its octets. A turn that found no memory has none of its own here: it judges no call
abbrev pub IsEventOf : Deed → Event (Unit {0}) → Type 0
IsEventOf (MakesCall now f payload patience) event = (n : CallNumber) × (event ≡ message_event f (message_of (to_u64 n) payload))
IsEventOf (GivesReply now token payload) event = event ≡ message_event (reversed token.flow) (message_of (to_u64 token.number) payload)
IsEventOf (Ticks now) event = event ≡ Tick
IsEventOf (Arrives now link datagram waited) event = event ≡ arrive_event link datagram waited
IsEventOf (Forgets now token) event = ⊥
IsEventOf (GivesKind port kind) event = ⊥
IsEventOf (Raises life) event = ⊥
IsEventOf TakesHappening event = ⊥
IsEventOf PullsFrame event = ⊥
IsEventOf (GetsRoute route answer added) event = ⊥
IsEventOf (CountsFlow flow counted) event = ⊥
IsEventOf Closes event = ⊥
IsEventOf (OpensAgain again options most life) event = ⊥
IsEventOf (FindsNoMemory deed after) event = ⊥

-- an event of a turn: that one, or a read of what is unread
pub data IsOfTurn (deed : Deed) : Event (Unit {0}) → Type 0 where
  of_deed : {event : Event (Unit {0})} → IsEventOf deed event → IsOfTurn deed event
  of_read : (f : Flow) → IsOfTurn deed (Read f most_read)

-- WITHIN A TURN, at its moment, a node makes the call that is asked for or none, has the turn's events, of which it hears, takes pieces, and changes what is no call
pub data Within (deed : Deed) : Node → Node → Type 0 where
  itself : {x : Node} → Within deed x x
  makes : {x y : Node} {now patience : ℕ} {payload : List ℕ} (f : Flow) (count deadline : ℕ) → deed ≡ MakesCall now f payload patience → Within deed (with_book (with_call f count deadline) x) y → Within deed x y
  hears : {x y : Node} (event : Event (Unit {0})) → IsOfTurn deed event → Within deed (happens (moment_told deed) event x) y → Within deed x y
  takes : {x y : Node} (f : Flow) (piece : Piece) → Within deed (with_book (take_piece f piece) x) y → Within deed x y
  changes : {x y : Node} (h : CallBook) → LeavesCalls x.book h → Within deed (record x { book = h }) y → Within deed x y

-- A TURN ENDS: the node that it came to within it judges its calls
pub record EndsAt (deed : Deed) (x y : Node) : Type 0 where
  pub judges : Node
  pub within : Within deed x judges
  pub is : y ≡ with_book (judge (moment_of (moment_told deed) judges.endpoint)) judges

-- THE OCTETS OF A FLOW WITHOUT A FATE, in their order, each by the number of its call
abbrev pub owners : Flow → List OpenCall → List CallNumber
owners f [] = []
owners f (call ∷ calls) = if same_flow call.flow f then replicate call.left call.number ++ owners f calls else owners f calls

-- AN OCTET OF A REQUEST WAS GIVEN UP within a turn: the node heard that the first so many octets of its flow were, and one of them was of the request
pub record WasGivenUp (deed : Deed) (x y : Node) (number : CallNumber) : Type 0 where
  pub at : Node
  pub before : Within deed x at
  pub event : Event (Unit {0})
  pub of_turn : IsOfTurn deed event
  -- what it had heard of the event until then
  pub first : List Told
  pub told : Told
  pub rest : List Told
  pub reports : (after_event (moment_told deed) event at.endpoint).reports ≡ first ++ told ∷ rest
  pub flow : Flow
  pub count : ℕ
  pub gives_up : heard told ≡ GivesUp flow count
  pub among : Contains (take count (owners flow (hear_all first at.book).calls)) number
  pub after : Within deed (happens (moment_told deed) event at) y

-- PATIENCE IS OVER: the call waits still, and its deadline has come
pub record IsOver (now : ℕ) (x : Node) (number : CallNumber) : Type 0 where
  pub call : OpenCall
  pub there : Contains x.book.calls call
  pub waits : call.waits ≡ true
  pub number_is : call.number ≡ number
  pub deadline : call.deadline ≤ moment_of now x.endpoint

-- THE CAUSE of what a turn tells
abbrev pub HasCause : (deed : Deed) → (x y : Node) → Happening → Type 0
HasCause deed x y (Request token payload) = Unit {0}
HasCause deed x y (Answered number answer) = Unit {0}
HasCause deed x y (ReplyUncertain flow) = Unit {0}
HasCause deed x y (Unsure number cause.GivenUp) = (end : EndsAt deed x y) × WasGivenUp deed x end.judges number
HasCause deed x y (Unsure number cause.Patience) = (end : EndsAt deed x y) × IsOver (moment_told deed) end.judges number
HasCause deed x y (Unsure number cause.Closed) = (x.book.closed ≡ false) × (y.book.closed ≡ true)

-- a call of a number ended before calls were judged, or the turn tells it unsure as an octet of its request was given up
pub record EndsInTurn (judges : Node) (number : CallNumber) (told : List Happening) : Type 0 where
  pub call : OpenCall
  pub there : Contains judges.book.calls call
  pub number_is : call.number ≡ number
  pub tells : call.waits ≡ true → Contains told (Unsure number cause.GivenUp)

-- WHAT A TURN TELLS has its cause; and where in a turn of a node that isn't closed an octet of a request is given up, its call ends
pub record TellsCauses (deed : Deed) (x y : Node) (told : List Happening) : Type 0 where
  pub causes : All (HasCause deed x y) told
  pub given_up : x.book.closed ≡ false → (end : EndsAt deed x y) (number : CallNumber) → WasGivenUp deed x end.judges number → EndsInTurn end.judges number told

abbrev pub TellsAt : Setup → (node : ℕ) → Deed → Option Node → Type 0
TellsAt setup n deed None = Unit {0}
TellsAt setup n deed (Some x) = TellsCauses deed x (node_after setup n deed x) (told_in setup n deed x)

abbrev pub TellCauses : Setup → List Turn → Services → Type 0
TellCauses setup [] s = Unit {0}
TellCauses setup (Passes by ∷ turns) s = TellCauses setup turns (services_after setup (Passes by) s)
TellCauses setup (Does n deed ∷ turns) s = TellsAt setup n deed (node_at n s) × TellCauses setup turns (services_after setup (Does n deed) s)

-- A CALL THAT WAITS has patience: its deadline is later than each moment that its node was told of in an event
abbrev pub IsPatient : (latest : ℕ) → OpenCall → Type 0
IsPatient latest call = call.waits ≡ true → latest < call.deadline
