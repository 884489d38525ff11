-- A network whose nodes have shelves, and a network without them in which the same happens.
use Rattle.std.specs.Prelude.{◌==◌, ◌&&◌, ℕ, Bool, true, false, cond, List, [], ◌∷◌, ◌++◌, map, Option, Some, None}
use Rattle.dt_layout.specs.Spelling.{AreOctets}
use Rattle.dt_world_model.specs.Tables.{look}
use Rattle.dt_endpoint.specs.declared.answers.Received.{Received}
use Rattle.dt_endpoint.specs.Endpoints.{EndpointValue}
use Rattle.dt_network.specs.Duties.{Keeps, KeepsFrom}
use Rattle.dt_network.specs.Network.{Network, Setup, new_network}
use Rattle.dt_network.specs.Steps.{AddRoute, Call, CallArrive, CallRead, CallSend, CallTick, Calls, Follow, IsStep, OpenAgain, Pass, PullFrame, PullReport, Step, network_after}
use Rattle.dt_early.specs.Delays.{AreAt, Call as Handed}
use Rattle.dt_early.specs.Early.{EarlyShelf, ShelfArrives, empty_shelf}

-- the network, and the shelf of each node
pub record Shelved : Type 0 where
  pub network : Network
  pub shelf : ℕ → EarlyShelf

-- no shelf has room at first
abbrev pub new_shelved : Setup → Shelved
new_shelved setup = record { network = new_network setup; shelf = λ n. empty_shelf }

-- A STEP: one of the network, in which no shelf has a part; a shelf gets other limits; or a datagram comes to a node by its shelf, with the answer, and the shelf and the endpoint after it
pub data ShelfStep : Type 0 where
  Bare : (step : Step) → ShelfStep
  Limits : (node most of_flow : ℕ) → ShelfStep
  Comes : (node now link : ℕ) → (datagram : List ℕ) → (waited : ℕ) → (answer : Received) → (shelf : EarlyShelf) → (after : EndpointValue) → ShelfStep

abbrev pub is_opening : Call → Bool
is_opening (CallTick now answer) = false
is_opening (CallSend now flow octets begin end answer) = false
is_opening (CallRead now flow room buf answer) = false
is_opening (CallArrive now link datagram waited answer) = false
is_opening PullFrame = false
is_opening PullReport = false
is_opening (AddRoute route answer) = false
is_opening (Follow flow done) = false
is_opening (OpenAgain again options) = true

-- a node that opens again has an empty shelf without room
abbrev pub shelf_left : Step → (ℕ → EarlyShelf) → ℕ → EarlyShelf
shelf_left (Pass by) shelf m = shelf m
shelf_left (Calls n call f) shelf m = cond (is_opening call && (n == m)) empty_shelf (shelf m)

abbrev pub with_shelf : ℕ → EarlyShelf → (ℕ → EarlyShelf) → ℕ → EarlyShelf
with_shelf n s shelf m = cond (n == m) s (shelf m)

abbrev pub limited : (most of_flow : ℕ) → EarlyShelf → EarlyShelf
limited most of_flow s = record { most = most; of_flow = of_flow; held = s.held }

abbrev pub shelved_after : ShelfStep → Shelved → Shelved
shelved_after (Bare step) s = record { network = network_after step s.network; shelf = shelf_left step s.shelf }
shelved_after (Limits n most of_flow) s = record { network = s.network; shelf = with_shelf n (limited most of_flow (s.shelf n)) s.shelf }
shelved_after (Comes n now link datagram waited answer t f) s = record { network = network_after (Calls n (CallArrive now link datagram waited answer) f) s.network; shelf = with_shelf n t s.shelf }

-- WHAT A STEP DOES is what the contracts say: of a call of the endpoint, or of a call of the shelf
abbrev pub ComesFrom : Received → (now link : ℕ) → List ℕ → (waited : ℕ) → EarlyShelf → Option EndpointValue → EarlyShelf → EndpointValue → Type 0
ComesFrom answer now link datagram waited s None t f = ⊥
ComesFrom answer now link datagram waited s (Some e) t f = ShelfArrives answer now link datagram waited s e t f

abbrev pub IsShelfStep : Setup → ShelfStep → Shelved → Type 0
IsShelfStep setup (Bare step) s = IsStep setup step s.network
IsShelfStep setup (Limits n most of_flow) s = Unit {0}
IsShelfStep setup (Comes n now link datagram waited answer t f) s =
    ComesFrom answer now link datagram waited (s.shelf n) (look ◌==◌ n s.network.endpoints) t f

abbrev pub AreShelfSteps : Setup → List ShelfStep → Shelved → Type 0
AreShelfSteps setup [] s = Unit {0}
AreShelfSteps setup (step ∷ steps) s = IsShelfStep setup step s × AreShelfSteps setup steps (shelved_after step s)

abbrev pub shelved_by : List ShelfStep → Shelved → Shelved
shelved_by [] s = s
shelved_by (step ∷ steps) s = shelved_by steps (shelved_after step s)

-- THE DUTIES are those of a network: of a datagram they are asked when it comes, not when the shelf hands it in. It consists of octets
abbrev pub KeepsByShelf : Setup → ShelfStep → Shelved → Type 0
KeepsByShelf setup (Bare step) s = Keeps setup step s.network
KeepsByShelf setup (Limits n most of_flow) s = Unit {0}
KeepsByShelf setup (Comes n now link datagram waited answer t f) s =
    AreOctets datagram × KeepsFrom setup s.network n (CallArrive now link datagram waited answer) (look ◌==◌ n s.network.endpoints)

abbrev pub KeepShelvesDuties : Setup → List ShelfStep → Shelved → Type 0
KeepShelvesDuties setup [] s = Unit {0}
KeepShelvesDuties setup (step ∷ steps) s = KeepsByShelf setup step s × KeepShelvesDuties setup steps (shelved_after step s)

-- THE SAME WITHOUT SHELVES: in the place of each datagram that comes by a shelf there are arrivals of that moment, at its node; everything else stays in its place
abbrev pub arrival_at : ℕ → Handed EndpointValue → Step
arrival_at n c = Calls n (CallArrive c.now c.link c.octets c.waited c.answer) c.after

pub data Without : List ShelfStep → List Step → Type 0 where
  none : Without [] []
  bare : {step : Step} {ss : List ShelfStep} {steps : List Step} → Without ss steps → Without (Bare step ∷ ss) (step ∷ steps)
  limits : {n most of_flow : ℕ} {ss : List ShelfStep} {steps : List Step} → Without ss steps → Without (Limits n most of_flow ∷ ss) steps
  comes : {n now link : ℕ} {datagram : List ℕ} {waited : ℕ} {answer : Received} {t : EarlyShelf} {f : EndpointValue} {ss : List ShelfStep} {steps : List Step}
      → (calls : List (Handed EndpointValue)) → AreAt now calls → Without ss steps → Without (Comes n now link datagram waited answer t f ∷ ss) (map (arrival_at n) calls ++ steps)
