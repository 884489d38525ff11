-- A worked network: a message goes from one node to another over a relay, is read and acknowledged, and the reader starts again.
use Rattle.std.specs.Prelude.{ℕ, true, List, [], ◌∷◌, None, Some, drop, get_or}
use Rattle.dt_world_model.specs.Station.{Read, Send}
use Rattle.dt_world_model.specs.declared.links.Route.{Route}
use Rattle.dt_world_model.specs.Worked.{main_flow}
use Rattle.dt_world_laws.specs.Schedule.{near_the_end}
use Rattle.dt_endpoint.specs.declared.answers.Sent.TheVariants as sent
use Rattle.dt_endpoint.specs.declared.answers.Received.TheVariants as arrived
use Rattle.dt_endpoint.specs.declared.answers.Delivered.TheVariants as piece
use Rattle.dt_endpoint.specs.declared.answers.Routed.TheVariants as routed
use Rattle.dt_endpoint.specs.Acts.{OutFrameValue}
use Rattle.dt_endpoint.specs.Calls.{arrive_event}
use Rattle.dt_endpoint.specs.Endpoints.{EndpointValue, after_event, with_route}
use Rattle.dt_network.specs.Network.{Options, Setup, opened_with}
use Rattle.dt_network.specs.Steps.{AddRoute, CallArrive, CallRead, CallSend, Calls, OpenAgain, Pass, PullFrame, Step}

abbrev pub message : List ℕ
message = 97 ∷ 98 ∷ 99 ∷ 100 ∷ []

-- a node with one link, by which it reaches all others
abbrev pub by_link : (link charge : ℕ) → List Route → Options
by_link link charge routes = record { outs = (record { link = link; pace = 0 }) ∷ []; ins = (record { link = link; charge = charge }) ∷ []; routes = routes }

abbrev pub by : (to link : ℕ) → Route
by to link = record { to = to; link = link }

-- node 1 has link 1, node 2 has link 4, and node 3 between them has link 7 for both. Their clocks are 5, 0 and 1,000 ahead
abbrev pub sender_options : Options
sender_options = by_link 1 50 (by 2 1 ∷ [])

abbrev pub reader_options : Options
reader_options = by_link 4 20 (by 1 4 ∷ [])

abbrev pub relay_options : Options
relay_options = by_link 7 50 (by 1 7 ∷ by 2 7 ∷ [])

abbrev pub over_a_relay : Setup
over_a_relay = record { params = near_the_end; nodes = (1, record { ahead = 5; options = sender_options }) ∷ (2, record { ahead = 0; options = reader_options }) ∷ (3, record { ahead = 1000; options = relay_options }) ∷ [] }

-- the first frame that waits in an endpoint
abbrev pub first_frame : EndpointValue → OutFrameValue
first_frame e = get_or e.frames 0 (record { link = 0; to = 0; octets = [] })

abbrev pub pulled : EndpointValue → EndpointValue
pulled e = record e { frames = drop 1 e.frames }

-- node 1 sends; after 40 ms node 3 takes the frame in and passes it on; 10 ms later node 2 takes it in, reads and so acknowledges. That comes to node 3 after 60 ms over a link that charges 50, and is said to have waited for 10; and at once to node 1
abbrev pub sender : EndpointValue
sender = after_event 5 (Send main_flow message true true) (opened_with over_a_relay 1 None sender_options)

abbrev pub relay : EndpointValue
relay = after_event 1040 (arrive_event 7 (first_frame sender).octets 0) (opened_with over_a_relay 3 None relay_options)

abbrev pub receiver : EndpointValue
receiver = after_event 50 (arrive_event 4 (first_frame relay).octets 0) (opened_with over_a_relay 2 None reader_options)

abbrev pub reader : EndpointValue
reader = after_event 50 (Read main_flow 10) receiver

abbrev pub back : EndpointValue
back = after_event 1110 (arrive_event 7 (first_frame reader).octets 10) (pulled relay)

abbrev pub settled_sender : EndpointValue
settled_sender = after_event 115 (arrive_event 1 (first_frame back).octets 0) sender

-- then node 1 has a route to a third node, and node 2 starts again with another link
abbrev pub far : Route
far = by 9 1

abbrev pub other_options : Options
other_options = by_link 6 30 (by 1 6 ∷ by 3 6 ∷ [])

abbrev pub exchange : List Step
exchange =
    Calls 1 (CallSend 5 main_flow message true true sent.Done) sender
    ∷ Pass 40
    ∷ Calls 3 (CallArrive 1040 7 (first_frame sender).octets 0 arrived.Done) relay
    ∷ Calls 3 PullFrame (pulled relay)
    ∷ Pass 10
    ∷ Calls 2 (CallArrive 50 4 (first_frame relay).octets 0 arrived.Done) receiver
    ∷ Calls 2 (CallRead 50 main_flow 10 (97 ∷ 98 ∷ 99 ∷ 100 ∷ 0 ∷ 0 ∷ []) (piece.Read 4 true true true)) reader
    ∷ Pass 60
    ∷ Calls 3 (CallArrive 1110 7 (first_frame reader).octets 10 arrived.Done) back
    ∷ Calls 1 (CallArrive 115 1 (first_frame back).octets 0 arrived.Done) settled_sender
    ∷ Calls 1 (AddRoute far routed.Done) (with_route far settled_sender)
    ∷ Calls 2 (OpenAgain (Some 110) other_options) (opened_with over_a_relay 2 (Some 110) other_options)
    ∷ []
