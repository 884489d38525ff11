-- What the programs of a network of services owe.
use Rattle.std.specs.Prelude.{ℕ, ◌^◌, ◌<◌, ◌≡◌, ◌≢◌, List, [], ◌∷◌, Option, Some, None}
use Rattle.dt_units.specs.declared.endpoints.Flow.{Flow}
use Rattle.dt_units.specs.Flows.{IsFlow}
use Rattle.dt_endpoint.specs.declared.answers.Received.TheVariants as arrived
use Rattle.dt_endpoint.specs.Calls.{AddsRoute}
use Rattle.dt_network.specs.Duties.{KeepsCall, KeepsTime}
use Rattle.dt_network.specs.Network.{Network, Setup}
use Rattle.dt_network.specs.Steps.{CallArrive, OpenAgain}
use Rattle.dt_service_model.specs.declared.ports.PortKind.{PortKind}
use Rattle.dt_service_model.specs.declared.ports.PortKind.TheVariants.{Caller, Service}
use Rattle.dt_service_model.specs.Stopping.{ArriveStops, CallStops, Closed, ForgetStops, ReplyStops, TickStops}
use Rattle.dt_service_model.specs.Turns.{Node}
use Rattle.dt_service_laws.specs.Services.{Arrives, Closes, CountsFlow, Deed, Does, FindsNoMemory, Forgets, GetsRoute, GivesKind, GivesReply, MakesCall, OpensAgain, Passes, PullsFrame, Raises, Services, TakesHappening, Ticks, Turn, node_at, services_after}

abbrev pub IsLife : ℕ → Type 0
IsLife life = life < 2 ^ 32

-- A TURN THAT FOUND NO MEMORY leaves its node as the contract of that call says. Nothing else that is asked is a turn
abbrev pub BreaksBy : Deed → (x after : Node) → Type 0
BreaksBy (MakesCall now f payload patience) x after = Closed (CallStops now f payload patience x) after
BreaksBy (GivesReply now token payload) x after = Closed (ReplyStops now token payload x) after
BreaksBy (Forgets now token) x after = Closed (ForgetStops now token x) after
BreaksBy (Ticks now) x after = Closed (TickStops now x) after
BreaksBy (Arrives now link datagram waited) x after = Closed (ArriveStops now link datagram waited x) after
BreaksBy (GivesKind port kind) x after = ⊥
BreaksBy (Raises life) x after = ⊥
BreaksBy TakesHappening x after = ⊥
BreaksBy PullsFrame x after = ⊥
BreaksBy (GetsRoute route answer added) x after = ⊥
BreaksBy (CountsFlow flow counted) x after = ⊥
BreaksBy Closes x after = ⊥
BreaksBy (OpensAgain again options most life) x after = ⊥
BreaksBy (FindsNoMemory deed before) x after = ⊥

-- THE DUTIES of the endpoint's callers, at what is done at a node. Each life has 32 bits, and flows are flows
abbrev pub KeepsDeed : Setup → Network → (node : ℕ) → Deed → Node → Type 0
KeepsDeed setup net n (GivesKind port kind) x = Unit {0}
KeepsDeed setup net n (MakesCall now f payload patience) x = KeepsTime setup net n now × IsFlow f
KeepsDeed setup net n (GivesReply now token payload) x = KeepsTime setup net n now × IsFlow token.flow
KeepsDeed setup net n (Forgets now token) x = KeepsTime setup net n now
KeepsDeed setup net n (Ticks now) x = KeepsTime setup net n now
KeepsDeed setup net n (Arrives now link datagram waited) x = KeepsCall setup net n (CallArrive now link datagram waited arrived.Done) x.endpoint
KeepsDeed setup net n (Raises life) x = IsLife life
KeepsDeed setup net n TakesHappening x = Unit {0}
KeepsDeed setup net n PullsFrame x = Unit {0}
KeepsDeed setup net n (GetsRoute route answer after) x = AddsRoute answer route x.endpoint after
KeepsDeed setup net n (CountsFlow flow counted) x = Unit {0}
KeepsDeed setup net n Closes x = Unit {0}
KeepsDeed setup net n (OpensAgain again options most life) x = KeepsCall setup net n (OpenAgain again options) x.endpoint × IsLife life
KeepsDeed setup net n (FindsNoMemory deed after) x = KeepsDeed setup net n deed x × BreaksBy deed x after

abbrev pub KeepsFrom : Setup → Network → (node : ℕ) → Deed → Option Node → Type 0
KeepsFrom setup net n deed None = Unit {0}
KeepsFrom setup net n deed (Some x) = KeepsDeed setup net n deed x

abbrev pub KeepsTurn : Setup → Turn → Services → Type 0
KeepsTurn setup (Passes by) s = Unit {0}
KeepsTurn setup (Does n deed) s = KeepsFrom setup s.network n deed (node_at n s)

abbrev pub KeepsTurns : Setup → List Turn → Services → Type 0
KeepsTurns setup [] s = Unit {0}
KeepsTurns setup (t ∷ turns) s = KeepsTurn setup t s × KeepsTurns setup turns (services_after setup t s)

-- KINDS AGREE: in each life of a node a port has the kind that is named for it, if it has one
abbrev pub KeepsKind : (kinds : (node port : ℕ) → PortKind) → (node : ℕ) → Deed → Type 0
KeepsKind kinds n (GivesKind port kind) = kind ≡ kinds n port
KeepsKind kinds n (MakesCall now f payload patience) = Unit {0}
KeepsKind kinds n (GivesReply now token payload) = Unit {0}
KeepsKind kinds n (Forgets now token) = Unit {0}
KeepsKind kinds n (Ticks now) = Unit {0}
KeepsKind kinds n (Arrives now link datagram waited) = Unit {0}
KeepsKind kinds n (Raises life) = Unit {0}
KeepsKind kinds n TakesHappening = Unit {0}
KeepsKind kinds n PullsFrame = Unit {0}
KeepsKind kinds n (GetsRoute route answer added) = Unit {0}
KeepsKind kinds n (CountsFlow flow counted) = Unit {0}
KeepsKind kinds n Closes = Unit {0}
KeepsKind kinds n (OpensAgain again options most life) = Unit {0}
KeepsKind kinds n (FindsNoMemory deed after) = Unit {0}

abbrev pub KeepsKinds : (kinds : (node port : ℕ) → PortKind) → List Turn → Type 0
KeepsKinds kinds [] = Unit {0}
KeepsKinds kinds (Passes by ∷ turns) = KeepsKinds kinds turns
KeepsKinds kinds (Does n deed ∷ turns) = KeepsKind kinds n deed × KeepsKinds kinds turns

-- a flow on which a caller calls a service
pub record IsServed (kinds : (node port : ℕ) → PortKind) (f : Flow) : Type 0 where
  pub caller : kinds f.from.0 f.from_port ≡ Caller
  pub service : kinds f.to.0 f.to_port ≡ Service

-- LIVES DIFFER: no number stands twice
abbrev pub IsNotIn : ℕ → List ℕ → Type 0
IsNotIn x [] = Unit {0}
IsNotIn x (y ∷ ys) = (x ≢ y) × IsNotIn x ys

abbrev pub Differ : List ℕ → Type 0
Differ [] = Unit {0}
Differ (x ∷ xs) = IsNotIn x xs × Differ xs
