-- Worked runs over literals: two nodes, whose frames come to the other as each run says.
use Rattle.std.specs.Prelude.{ℕ, List, [], ◌∷◌, ◌++◌, filter, fold, get_or, map, Option, Some, None}
use Rattle.dt_units.specs.declared.parameters.Params.{Params}
use Rattle.dt_world_model.specs.Worked.{main_flow, standard}
use Rattle.dt_endpoint.specs.Acts.{OutFrameValue}
use Rattle.dt_endpoint.specs.Endpoints.{EndpointValue, opened}
use Rattle.dt_service_model.specs.declared.answers.Made.{Made}
use Rattle.dt_service_model.specs.declared.answers.Replied.{Replied}
use Rattle.dt_service_model.specs.declared.calls.OpenCall.{OpenCall}
use Rattle.dt_service_model.specs.declared.call_counts.CallCounts.{CallCounts}
use Rattle.dt_service_model.specs.declared.happenings.Happening.{Happening}
use Rattle.dt_service_model.specs.declared.names.CallNumber.{CallNumber}
use Rattle.dt_service_model.specs.declared.names.Token.{Token}
use Rattle.dt_service_model.specs.declared.ports.PortKind.TheVariants.{Caller, Service}
use Rattle.dt_service_model.specs.declared.ports.Most.{Most}
use Rattle.dt_service_model.specs.Names.{number_with, token_with}
use Rattle.dt_service_model.specs.CallBook.{new_book}
use Rattle.dt_service_model.specs.Turns.{Node}
use Rattle.dt_service_model.specs.Asked.{arrive, call, reply, tick, with_kind}

-- node 1 calls from port 10, and node 2 serves at port 20. Link 1 goes to 2, and link 2 back
abbrev pub client_opened : Params → Option ℕ → EndpointValue
client_opened p again = opened p 1 again ((record { link = 1; pace = 0 }) ∷ []) ((record { link = 2; charge = 0 }) ∷ []) ((record { to = 2; link = 1 }) ∷ [])

abbrev pub server_opened : Params → Option ℕ → EndpointValue
server_opened p again = opened p 2 again ((record { link = 2; pace = 0 }) ∷ []) ((record { link = 1; charge = 0 }) ∷ []) ((record { to = 1; link = 2 }) ∷ [])

abbrev pub roomy : Most
roomy = record { calls = 8; requests = 8; of_a_flow = 4 }

abbrev pub client_of : (life : ℕ) → EndpointValue → Node
client_of life e = record { endpoint = e; book = with_kind 10 Caller (new_book roomy life) }

abbrev pub server_of : (life : ℕ) → EndpointValue → Node
server_of life e = record { endpoint = e; book = with_kind 20 Service (new_book roomy life) }

pub record Pair : Type 0 where
  pub client : Node
  pub server : Node

abbrev pub pair_with : Params → Pair
pair_with p = record { client = client_of 5 (client_opened p None); server = server_of 1 (server_opened p None) }

-- WHAT IS DONE. All frames that leave stay there, numbered from 0 in the order of leaving
pub data Deed : Type 0 where
  Calls : (payload : List ℕ) → (patience : ℕ) → Deed
  Replies : (number : CallNumber) → (payload : List ℕ) → Deed
  ClientTicks : Deed
  ServerTicks : Deed
  ToServer : (frame : ℕ) → Deed
  ToClient : (frame : ℕ) → Deed
  ClientRestarts : (life : ℕ) → Deed
  ServerRestarts : (life : ℕ) → Deed

-- and what is told
pub data Line : Type 0 where
  IsMade : (moment : ℕ) → (answer : Made) → Line
  IsReplied : (moment : ℕ) → (answer : Replied) → Line
  Happens : (moment : ℕ) → (happening : Happening) → Line

abbrev pub frame_at : ℕ → EndpointValue → List ℕ
frame_at k e = (get_or e.frames k (record { link = 0; to = 0; octets = [] })).octets

abbrev pub after_frames : List OutFrameValue → EndpointValue → EndpointValue
after_frames frames e = record e { frames = frames }

abbrev pub with_client : Node → Pair → Pair
with_client n p = record { client = n; server = p.server }

abbrev pub with_server : Node → Pair → Pair
with_server n p = record { client = p.client; server = n }

abbrev pub does : (now : ℕ) → Deed → Pair → List Line × Pair
does now (Calls payload patience) p = let r = call now main_flow payload patience p.client in (IsMade now r.0 ∷ [], with_client r.1 p)
does now (Replies number payload) p = let r = reply now (token_with main_flow number) payload p.server in (IsReplied now r.0 ∷ [], with_server r.1 p)
does now ClientTicks p = ([], with_client (tick now p.client).1 p)
does now ServerTicks p = ([], with_server (tick now p.server).1 p)
does now (ToServer k) p = ([], with_server (arrive now 1 (frame_at k p.client.endpoint) 0 p.server).1 p)
does now (ToClient k) p = ([], with_client (arrive now 2 (frame_at k p.server.endpoint) 0 p.client).1 p)
does now (ClientRestarts life) p = ([], with_client (client_of life (after_frames p.client.endpoint.frames (client_opened p.client.endpoint.rules (Some now)))) p)
does now (ServerRestarts life) p = ([], with_server (server_of life (after_frames p.server.endpoint.frames (server_opened p.server.endpoint.rules (Some now)))) p)

-- all that a node has told is taken
abbrev pub taken : Node → Node
taken n = record { endpoint = n.endpoint; book = record (n.book) { happenings = [] } }

abbrev pub lines_of : (now : ℕ) → Pair → List Line
lines_of now p = map (Happens now) (p.client.book.happenings ++ p.server.book.happenings)

abbrev pub take_all : (now : ℕ) → List Line × Pair → List Line × Pair
take_all now r = (r.0 ++ lines_of now r.1, record { client = taken r.1.client; server = taken r.1.server })

-- A RUN: deeds, each at a moment
abbrev pub then_does : List Line × Pair → ℕ × Deed → List Line × Pair
then_does r deed = let s = take_all deed.0 (does deed.0 deed.1 r.1) in (r.0 ++ s.0, s.1)

abbrev pub run_of : List (ℕ × Deed) → Pair → List Line × Pair
run_of deeds p = fold then_does ([], p) deeds

-- what is told in it, and what stands at its end: the calls that wait, the names that are open, and what was counted
abbrev pub told_by : List (ℕ × Deed) → Pair → List Line
told_by deeds p = (run_of deeds p).0

pub record Rest : Type 0 where
  pub waiting : List CallNumber
  pub open_names : List CallNumber
  pub at_client : CallCounts
  pub at_server : CallCounts

abbrev pub rest_of : Pair → Rest
rest_of p = record {
  waiting = map (λ (call : OpenCall). call.number) (filter (λ (call : OpenCall). call.waits) p.client.book.calls);
  open_names = map (λ (token : Token). token.number) p.server.book.tokens;
  at_client = p.client.book.counts;
  at_server = p.server.book.counts;
}

abbrev pub rest_after : List (ℕ × Deed) → Pair → Rest
rest_after deeds p = rest_of (run_of deeds p).1

-- the usual parameters; a number of the client's first life, and a token
abbrev pub usual : Pair
usual = pair_with standard

abbrev pub five : ℕ → CallNumber
five count = number_with 5 count

abbrev pub on_main : CallNumber → Token
on_main number = token_with main_flow number
