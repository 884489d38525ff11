-- What turns owe, with what is proved of the flows that they read: at the end of each turn these are flows.
use Rattle.std.specs.Prelude.{ℕ, ◌≡◌, All, List, [], ◌∷◌, Option, Some, None}
use Rattle.dt_units.specs.Flows.{IsFlow}
use Rattle.dt_world_model.specs.Station.{Tick}
use Rattle.dt_calls_model.specs.Messages.{message_of, reversed}
use Rattle.dt_endpoint.specs.Calls.{arrive_event, arrive_refusal}
use Rattle.dt_network.specs.Network.{Network, Setup}
use Rattle.dt_service_model.specs.Asked.{message_event, next_number}
use Rattle.dt_service_model.specs.Names.{to_u64}
use Rattle.dt_service_model.specs.Turns.{Node, happens}
use Rattle.dt_service_laws.specs.Premises as owed
use Rattle.dt_service_laws.specs.Services.{Arrives, Closes, CountsFlow, Deed, Does, FindsNoMemory, Forgets, GetsRoute, GivesKind, GivesReply, MakesCall, OpensAgain, Passes, PullsFrame, Raises, Services, TakesHappening, Ticks, Turn, node_at, services_after}

abbrev pub ReadsFlows : Node → Type 0
ReadsFlows x = All IsFlow x.book.unread

-- what a node is to read at the end of a turn are flows. A datagram that is refused is no turn
abbrev pub ReadsIn : Deed → Node → Type 0
ReadsIn (GivesKind port kind) x = Unit {0}
ReadsIn (MakesCall now f payload patience) x = ReadsFlows (happens now (message_event f (message_of (to_u64 (next_number x.book)) payload)) x)
ReadsIn (GivesReply now token payload) x = ReadsFlows (happens now (message_event (reversed token.flow) (message_of (to_u64 token.number) payload)) x)
ReadsIn (Forgets now token) x = ReadsFlows x
ReadsIn (Ticks now) x = ReadsFlows (happens now Tick x)
ReadsIn (Arrives now link datagram waited) x = arrive_refusal link datagram waited x.endpoint ≡ None → ReadsFlows (happens now (arrive_event link datagram waited) x)
ReadsIn (Raises life) x = Unit {0}
ReadsIn TakesHappening x = Unit {0}
ReadsIn PullsFrame x = Unit {0}
ReadsIn (GetsRoute route answer added) x = Unit {0}
ReadsIn (CountsFlow flow counted) x = Unit {0}
ReadsIn Closes x = Unit {0}
ReadsIn (OpensAgain again options most life) x = Unit {0}
ReadsIn (FindsNoMemory deed after) x = ReadsIn deed x

abbrev pub KeepsDeed : Setup → Network → (node : ℕ) → Deed → Node → Type 0
KeepsDeed setup net n deed x = owed.KeepsDeed setup net n deed x × ReadsIn deed x

abbrev pub ReadsFrom : Deed → Option Node → Type 0
ReadsFrom deed None = Unit {0}
ReadsFrom deed (Some x) = ReadsIn deed x

abbrev pub ReadsTurn : Turn → Services → Type 0
ReadsTurn (Passes by) s = Unit {0}
ReadsTurn (Does n deed) s = ReadsFrom deed (node_at n s)

-- with what is owed
abbrev pub KeepsFrom : Setup → Network → (node : ℕ) → Deed → Option Node → Type 0
KeepsFrom setup net n deed x = owed.KeepsFrom setup net n deed x × ReadsFrom deed x

abbrev pub KeepsTurn : Setup → Turn → Services → Type 0
KeepsTurn setup t s = owed.KeepsTurn setup t s × ReadsTurn t s

abbrev pub KeepsTurns : Setup → List Turn → Services → Type 0
KeepsTurns setup [] s = Unit {0}
KeepsTurns setup (t ∷ turns) s = KeepsTurn setup t s × KeepsTurns setup turns (services_after setup t s)

-- what is owed, of all turns
pub all_owed : (setup : Setup) (turns : List Turn) (s : Services) → KeepsTurns setup turns s → owed.KeepsTurns setup turns s
all_owed setup [] s keeps = tt
all_owed setup (t ∷ turns) s keeps = (keeps.0.0, all_owed setup turns (services_after setup t s) keeps.1)
