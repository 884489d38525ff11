-- Worked networks of services: a call that is answered, one whose client starts again with another link while its service is slow, one whose service finds no memory, one whose client finds none, and one whose service has no route at first.
use Rattle.std.specs.Prelude.{ℕ, zero, suc, true, ◌==◌, List, [], ◌∷◌, ◌++◌, unwrap_or, option_map, Some, None}
use Rattle.dt_world_model.specs.Tables.{look}
use Rattle.dt_world_model.specs.Worked.{main_flow, standard}
use Rattle.dt_endpoint.specs.declared.answers.Routed.TheVariants as routed
use Rattle.dt_endpoint.specs.Calls.{arrive_event}
use Rattle.dt_endpoint.specs.Endpoints.{with_route}
use Rattle.dt_network.specs.Network.{Options, Setup, opened_with}
use Rattle.dt_network.specs.Worked.{by, by_link}
use Rattle.dt_service_model.specs.declared.ports.PortKind.{PortKind}
use Rattle.dt_service_model.specs.declared.ports.PortKind.TheVariants.{Caller, Service}
use Rattle.dt_service_model.specs.Asked.{message_event}
use Rattle.dt_service_model.specs.Ends.{close}
use Rattle.dt_service_model.specs.Names.{number_with, token_with}
use Rattle.dt_service_model.specs.Stopping.{call_kept, message_of_call}
use Rattle.dt_service_model.specs.Turns.{Node, happens, reads, sweep, with_book}
use Rattle.dt_service_model.specs.Worked.{frame_at, roomy}
use Rattle.dt_service_laws.specs.Histories.{Message}
use Rattle.dt_service_laws.specs.Services.{Arrives, CountsFlow, Does, FindsNoMemory, GetsRoute, GivesKind, GivesReply, MakesCall, OpensAgain, Passes, Services, Ticks, Turn, new_services, node_with, services_by}

-- node 1 calls from port 10 over its link 1, and node 2 serves at port 20 over its link 7
abbrev pub client_options : Options
client_options = by_link 1 40 (by 2 1 ∷ [])

abbrev pub service_options : Options
service_options = by_link 7 40 (by 1 7 ∷ [])

abbrev pub two_nodes : Setup
two_nodes = record { params = standard; nodes = (1, record { ahead = 0; options = client_options }) ∷ (2, record { ahead = 0; options = service_options }) ∷ [] }

-- how the client opens again: with another link
abbrev pub other_options : Options
other_options = by_link 3 40 (by 2 3 ∷ [])

abbrev pub first_life : ℕ → ℕ
first_life n = 5

abbrev pub kind_at : (node port : ℕ) → PortKind
kind_at (suc zero) port = Caller
kind_at n port = Service

abbrev pub two_services : Services
two_services = new_services two_nodes (λ n. roomy) first_life

-- the octets of a frame that left a node
abbrev pub frame_of : (node frame : ℕ) → Services → List ℕ
frame_of n k s = unwrap_or (option_map (frame_at k) (look ◌==◌ n s.network.endpoints)) []

abbrev pub saying : (life count : ℕ) → List ℕ → Message
saying life count carried = record { number = number_with life count; carried = carried }

-- A CALL, handed out and answered
abbrev pub called : List Turn
called = Does 1 (GivesKind 10 Caller) ∷ Does 2 (GivesKind 20 Service) ∷ Does 1 (MakesCall 0 main_flow (97 ∷ []) 8000) ∷ Passes 40 ∷ []

abbrev pub handed_out : List Turn
handed_out = called ++ Does 2 (Arrives 40 7 (frame_of 1 0 (services_by two_nodes called two_services)) 0) ∷ []

abbrev pub replied : List Turn
replied = handed_out ++ Does 2 (GivesReply 40 (token_with main_flow (number_with 5 0)) (65 ∷ [])) ∷ Passes 40 ∷ []

abbrev pub answered : List Turn
answered = replied ++ Does 1 (Arrives 80 1 (frame_of 2 1 (services_by two_nodes replied two_services)) 0) ∷ []

-- THE CLIENT STARTS AGAIN with another life, and calls anew. Its first call is replied to late, and the second too
abbrev pub started_again : List Turn
started_again =
    handed_out
    ++ Does 1 (OpensAgain (Some 40) other_options roomy 6)
    ∷ Does 1 (GivesKind 10 Caller)
    ∷ Passes 6200
    ∷ Does 1 (MakesCall 6240 main_flow (98 ∷ []) 8000)
    ∷ []

abbrev pub replied_late : List Turn
replied_late =
    started_again
    ++ Does 2 (Arrives 6240 7 (frame_of 1 0 (services_by two_nodes started_again two_services)) 0)
    ∷ Does 2 (GivesReply 6240 (token_with main_flow (number_with 5 0)) (65 ∷ []))
    ∷ Does 2 (GivesReply 6240 (token_with main_flow (number_with 6 0)) (66 ∷ []))
    ∷ []

abbrev pub restarted : List Turn
restarted =
    replied_late
    ++ Does 1 (Arrives 6240 3 (frame_of 2 2 (services_by two_nodes replied_late two_services)) 0)
    ∷ Does 1 (Arrives 6240 3 (frame_of 2 3 (services_by two_nodes replied_late two_services)) 0)
    ∷ []

-- A SERVICE FINDS NO MEMORY in the turn in which a call comes: it hands the call out, and stops where its own calls were to be judged. Then it opens again
abbrev pub node_in : (node : ℕ) → Services → Node
node_in n s = node_with n s (unwrap_or (look ◌==◌ n s.network.endpoints) (opened_with two_nodes n None service_options))

abbrev pub stopped_at_judging : Node → Node
stopped_at_judging x = let read = reads 40 x in with_book (sweep read.endpoint.state.host) read

abbrev pub comes_to_service : List ℕ → Node → Node
comes_to_service datagram x = happens 40 (arrive_event 7 datagram 0) x

abbrev pub out_of_memory : List Turn
out_of_memory =
    called
    ++ Does 2 (FindsNoMemory (Arrives 40 7 (frame_of 1 0 (services_by two_nodes called two_services)) 0) (with_book close (stopped_at_judging (comes_to_service (frame_of 1 0 (services_by two_nodes called two_services)) (node_in 2 (services_by two_nodes called two_services))))))
    ∷ Does 2 (Ticks 40)
    ∷ []

-- A CLIENT FINDS NO MEMORY in its second call: the call is made, and its turn stops where calls were to be judged
abbrev pub with_second_call : Node → Node
with_second_call x =
    let message = message_of_call (98 ∷ []) x.book in
    with_book (call_kept 40 main_flow message 8000 x) (happens 40 (message_event main_flow message) x)

abbrev pub client_without_memory : List Turn
client_without_memory = called ++ Does 1 (FindsNoMemory (MakesCall 40 main_flow (98 ∷ []) 8000) (with_book close (stopped_at_judging (with_second_call (node_in 1 (services_by two_nodes called two_services)))))) ∷ []

-- A CLIENT THAT NOBODY LISTED calls a service that has no route at first: it gets one once the call has come, and then gives its reply
abbrev pub lists_none : Setup
lists_none = record { params = standard; nodes = (1, record { ahead = 0; options = client_options }) ∷ (2, record { ahead = 0; options = by_link 7 40 [] }) ∷ [] }

abbrev pub without_routes : Services
without_routes = new_services lists_none (λ n. roomy) first_life

abbrev pub unlisted : List Turn
unlisted = called ++ Does 2 (Arrives 40 7 (frame_of 1 0 (services_by lists_none called without_routes)) 0) ∷ []

abbrev pub learnt : List Turn
learnt =
    unlisted
    ++ Does 2 (GetsRoute (by 1 7) routed.Done (with_route (by 1 7) (node_in 2 (services_by lists_none unlisted without_routes)).endpoint))
    ∷ Does 2 (CountsFlow main_flow true)
    ∷ Does 2 (GivesReply 40 (token_with main_flow (number_with 5 0)) (65 ∷ []))
    ∷ []

abbrev pub answered_unlisted : List Turn
answered_unlisted = learnt ++ Does 1 (Arrives 40 1 (frame_of 2 0 (services_by lists_none learnt without_routes)) 0) ∷ []
