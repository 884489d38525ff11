-- A network of services: nodes that make calls and reply to requests, each over its endpoint of a network.
use Rattle.std.specs.Prelude.{ℕ, ◌==◌, drop, List, [], ◌∷◌, cond, length, option_map, Option, Some, None, Bool, true, false}
use Rattle.dt_units.specs.declared.endpoints.Flow.{Flow}
use Rattle.dt_world_model.specs.declared.links.Route.{Route}
use Rattle.dt_world_model.specs.Tables.{look}
use Rattle.dt_endpoint.specs.declared.answers.Routed.{Routed}
use Rattle.dt_endpoint.specs.Endpoints.{EndpointValue, with_followed}
use Rattle.dt_network.specs.Network.{Network, Options, Setup, new_network, opened_with}
use Rattle.dt_network.specs.Steps.{Calls, Pass, PullFrame, network_after}
use Rattle.dt_service_model.specs.declared.happenings.Happening.{Happening}
use Rattle.dt_service_model.specs.declared.names.Token.{Token}
use Rattle.dt_service_model.specs.declared.ports.PortKind.{PortKind}
use Rattle.dt_service_model.specs.declared.ports.Most.{Most}
use Rattle.dt_service_model.specs.Asked.{arrive, call, forget, raised, reply, tick, with_kind}
use Rattle.dt_service_model.specs.Ends.{close, next}
use Rattle.dt_service_model.specs.CallBook.{CallBook, new_book}
use Rattle.dt_service_model.specs.Turns.{Node, with_book}

-- WHAT A PROGRAM ASKS of its node, and that it dies and its node opens again: with the moment of that, its links and routes, its limits and its life. What is asked may find no memory: then it is told what its node is after that
pub data Deed : Type 0 where
  GivesKind : (port : ℕ) → (kind : PortKind) → Deed
  MakesCall : (now : ℕ) → (flow : Flow) → (payload : List ℕ) → (patience : ℕ) → Deed
  GivesReply : (now : ℕ) → (token : Token) → (payload : List ℕ) → Deed
  Forgets : (now : ℕ) → (token : Token) → Deed
  Ticks : (now : ℕ) → Deed
  Arrives : (now link : ℕ) → (datagram : List ℕ) → (waited : ℕ) → Deed
  Raises : (life : ℕ) → Deed
  TakesHappening : Deed
  PullsFrame : Deed
  -- a route is added, with its answer and the endpoint after it; and a flow is counted from then on, if there is memory for it
  GetsRoute : (route : Route) → (answer : Routed) → (after : EndpointValue) → Deed
  CountsFlow : (flow : Flow) → (counted : Bool) → Deed
  Closes : Deed
  OpensAgain : (again : Option ℕ) → (options : Options) → (most : Most) → (life : ℕ) → Deed
  FindsNoMemory : (deed : Deed) → (after : Node) → Deed

abbrev pub counted_if : Bool → Flow → EndpointValue → EndpointValue
counted_if true flow e = with_followed flow e
counted_if false flow e = e

-- what the definitions of a node make of it
abbrev pub node_after : Setup → (node : ℕ) → Deed → Node → Node
node_after setup n (GivesKind port kind) x = with_book (with_kind port kind) x
node_after setup n (MakesCall now f payload patience) x = (call now f payload patience x).1
node_after setup n (GivesReply now token payload) x = (reply now token payload x).1
node_after setup n (Forgets now token) x = (forget now token x).1
node_after setup n (Ticks now) x = (tick now x).1
node_after setup n (Arrives now link datagram waited) x = (arrive now link datagram waited x).1
node_after setup n (Raises life) x = with_book (raised life) x
node_after setup n TakesHappening x = with_book (λ h. (next h).1) x
node_after setup n PullsFrame x = record x { endpoint = record (x.endpoint) { frames = drop 1 x.endpoint.frames } }
node_after setup n (GetsRoute route answer after) x = record { endpoint = after; book = x.book }
node_after setup n (CountsFlow flow counted) x = record { endpoint = counted_if counted flow x.endpoint; book = x.book }
node_after setup n Closes x = with_book close x
node_after setup n (OpensAgain again options most life) x = record { endpoint = opened_with setup n again options; book = new_book most life }
node_after setup n (FindsNoMemory deed after) x = after

-- THE NETWORK, and what each node has beside its endpoint
pub record Services : Type 0 where
  pub network : Network
  pub book : ℕ → CallBook

abbrev pub node_with : ℕ → Services → EndpointValue → Node
node_with n s e = record { endpoint = e; book = s.book n }

abbrev pub node_at : ℕ → Services → Option Node
node_at n s = option_map (node_with n s) (look ◌==◌ n s.network.endpoints)

-- Each node of a setup has opened for the first time, with its limits and its first life
abbrev pub new_services : Setup → (most : ℕ → Most) → (life : ℕ → ℕ) → Services
new_services setup most life = record { network = new_network setup; book = λ n. new_book (most n) (life n) }

-- A TURN: so many milliseconds pass, or a program does something at its node
pub data Turn : Type 0 where
  Passes : (by : ℕ) → Turn
  Does : (node : ℕ) → (deed : Deed) → Turn

-- a node becomes another. Its endpoint is then as calls of it leave it
abbrev pub with_node : ℕ → Services → Node → Services
with_node n s x = record { network = network_after (Calls n PullFrame x.endpoint) s.network; book = λ m. cond (n == m) x.book (s.book m) }

abbrev pub node_does : Setup → ℕ → Deed → Services → Option Node → Services
node_does setup n deed s None = s
node_does setup n deed s (Some x) = with_node n s (node_after setup n deed x)

abbrev pub services_after : Setup → Turn → Services → Services
services_after setup (Passes by) s = record { network = network_after (Pass by) s.network; book = s.book }
services_after setup (Does n deed) s = node_does setup n deed s (node_at n s)

-- the network after all of them
abbrev pub services_by : Setup → List Turn → Services → Services
services_by setup [] s = s
services_by setup (t ∷ turns) s = services_by setup turns (services_after setup t s)

-- WHAT A TURN TELLS its program: the happenings that are appended in it
abbrev pub told_between : Node → Node → List Happening
told_between x y = drop (length x.book.happenings) y.book.happenings
