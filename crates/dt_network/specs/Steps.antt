-- What happens in a network: time passes, or a call is made of a node's endpoint.
use Rattle.std.specs.Prelude.{◌≡◌, ◌==◌, ℕ, ◌+◌, Bool, true, false, List, [], ◌∷◌, ◌++◌, drop, Option, Some, None}
use Rattle.dt_units.specs.declared.endpoints.Flow.{Flow}
use Rattle.dt_units.specs.Flows.{IsFlow}
use Rattle.dt_world_model.specs.declared.links.Route.{Route}
use Rattle.dt_world_model.specs.Tables.{look, write}
use Rattle.dt_endpoint.specs.declared.answers.Ticked.{Ticked}
use Rattle.dt_endpoint.specs.declared.answers.Sent.{Sent}
use Rattle.dt_endpoint.specs.declared.answers.Received.{Received}
use Rattle.dt_endpoint.specs.declared.answers.Delivered.{Delivered}
use Rattle.dt_endpoint.specs.declared.answers.Routed.{Routed}
use Rattle.dt_endpoint.specs.Calls.{AddsRoute, Arrives, Reads, Sends, Ticks}
use Rattle.dt_endpoint.specs.Endpoints.{EndpointValue, with_followed}
use Rattle.dt_network.specs.Network.{Network, Options, Setup, flights, opened_with}

-- A CALL with its answer. Of a read it has the room of the buffer, and the octets that stood in it after the call
pub data Call : Type 0 where
  CallTick : (now : ℕ) → (answer : Ticked) → Call
  CallSend : (now : ℕ) → (flow : Flow) → (octets : List ℕ) → (begin end : Bool) → (answer : Sent) → Call
  CallRead : (now : ℕ) → (flow : Flow) → (room : ℕ) → (buf : List ℕ) → (answer : Delivered) → Call
  CallArrive : (now link : ℕ) → (datagram : List ℕ) → (waited : ℕ) → (answer : Received) → Call
  PullFrame : Call
  PullReport : Call
  AddRoute : (route : Route) → (answer : Routed) → Call
  -- whether there was memory for it
  Follow : (flow : Flow) → (done : Bool) → Call
  -- the endpoint that was there is gone, and the node opens again, with these links and routes: those that it had, or others
  OpenAgain : (again : Option ℕ) → (options : Options) → Call

-- WHAT A CALL DOES to the endpoint of a node: each line is the contract of the call of that name
abbrev pub Does : Setup → ℕ → Call → EndpointValue → EndpointValue → Type 0
Does setup n (CallTick now answer) e f = Ticks answer now e f
Does setup n (CallSend now flow octets begin end answer) e f = IsFlow flow × Sends answer now flow octets begin end e f
Does setup n (CallRead now flow room buf answer) e f = IsFlow flow × Reads answer now flow room buf e f
Does setup n (CallArrive now link datagram waited answer) e f = Arrives answer now link datagram waited e f
Does setup n PullFrame e f = f ≡ record e { frames = drop 1 e.frames }
Does setup n PullReport e f = f ≡ record e { reports = drop 1 e.reports }
Does setup n (AddRoute route answer) e f = AddsRoute answer route e f
Does setup n (Follow flow true) e f = f ≡ with_followed flow e
Does setup n (Follow flow false) e f = f ≡ e
Does setup n (OpenAgain again options) e f = f ≡ opened_with setup n again options

-- A STEP: so many milliseconds pass; or a call is made of a node, with the endpoint after it
pub data Step : Type 0 where
  Pass : (by : ℕ) → Step
  Calls : (node : ℕ) → (call : Call) → (after : EndpointValue) → Step

abbrev pub DoesFrom : Setup → ℕ → Call → EndpointValue → Option EndpointValue → Type 0
DoesFrom setup n call f None = ⊥
DoesFrom setup n call f (Some e) = Does setup n call e f

abbrev pub IsStep : Setup → Step → Network → Type 0
IsStep setup (Pass by) net = Unit {0}
IsStep setup (Calls n call f) net = DoesFrom setup n call f (look ◌==◌ n net.endpoints)

abbrev pub network_after : Step → Network → Network
network_after (Pass by) net = record { now = net.now + by; endpoints = net.endpoints; left = net.left }
network_after (Calls n call f) net = record { now = net.now; endpoints = write ◌==◌ n f net.endpoints; left = net.left ++ flights net.now (look ◌==◌ n net.endpoints) f }

-- A LIST OF STEPS, in which each call does what its contract says: every list of calls of endpoints that a program makes is one
abbrev pub AreSteps : Setup → List Step → Network → Type 0
AreSteps setup [] net = Unit {0}
AreSteps setup (s ∷ steps) net = IsStep setup s net × AreSteps setup steps (network_after s net)

-- the network after all of them
abbrev pub network_by : List Step → Network → Network
network_by [] net = net
network_by (s ∷ steps) net = network_by steps (network_after s net)
