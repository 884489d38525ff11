-- The calls of an endpoint. Each is refused and changes nothing, or is one event.
use Rattle.std.specs.Prelude.{◌≡◌, ◌==◌, ℕ, ◌+◌, ◌∷◌, nat_le, not, Bool, false, ◌||◌, List, [], if◌then◌else◌, is_some, length, take, Option, Some, None}
use Rattle.std.specs.List.{list_any}
use Rattle.dt_items.specs.declared.item.Item.{Item}
use Rattle.dt_items.specs.declared.piece.Piece.{Piece as ItemPiece}
use Rattle.dt_items.specs.Unread.{marked, octets_of, piece_told}
use Rattle.dt_units.specs.declared.endpoints.Flow.{Flow}
use Rattle.dt_layout.specs.declared.faults.LayoutFault.{LayoutFault}
use Rattle.dt_layout.specs.Carried.{life_of, lowered}
use Rattle.dt_layout.specs.Reading.{gram_fault}
use Rattle.dt_reports.specs.declared.faults.Refusal.{Refusal}
use Rattle.dt_reports.specs.declared.faults.Refusal.TheVariants as refusal
use Rattle.dt_flow_model.specs.Keeping.{octets_below}
use Rattle.dt_world_model.specs.declared.links.InLink.{InLink}
use Rattle.dt_world_model.specs.declared.links.Route.{Route}
use Rattle.dt_world_model.specs.Relay.{route_to}
use Rattle.dt_relay.specs.Places.{link_of, place_of}
use Rattle.dt_world_model.specs.Station.{Arrive, Event, Read, Send, Station, Tick, settle_station}
use Rattle.dt_world_model.specs.Host.{read_octets, send_octets}
use Rattle.dt_world_model.specs.WorldStep.{first_refusal}
use Rattle.dt_endpoint.specs.declared.answers.Ticked.{Ticked}
use Rattle.dt_endpoint.specs.declared.answers.Ticked.TheVariants as ticked
use Rattle.dt_endpoint.specs.declared.answers.Sent.{Sent}
use Rattle.dt_endpoint.specs.declared.answers.Sent.TheVariants as sent
use Rattle.dt_endpoint.specs.declared.answers.Received.{Received}
use Rattle.dt_endpoint.specs.declared.answers.Received.TheVariants as arrived
use Rattle.dt_endpoint.specs.declared.answers.Delivered.{Delivered}
use Rattle.dt_endpoint.specs.declared.answers.Routed.{Routed}
use Rattle.dt_endpoint.specs.declared.answers.Routed.TheVariants as routed
use Rattle.dt_endpoint.specs.declared.answers.Delivered.TheVariants as piece
use Rattle.dt_endpoint.specs.declared.heard_answers.HeardAnswer.{HeardAnswer}
use Rattle.dt_endpoint.specs.declared.heard_answers.HeardAnswer.TheVariants as heard
use Rattle.dt_endpoint.specs.Acts.{answer_of, plain}
use Rattle.dt_endpoint.specs.Endpoints.{Breaks, EndpointValue, after_event, moment_of, with_refused, with_route}

abbrev pub has_link : ℕ → List InLink → Bool
has_link link ins = list_any (λ i. i.link == link) ins

-- A CALL is refused with an answer, and leaves the endpoint that is named, or it is done.
abbrev pub Unless : {A : Type 0} → Option A → A → EndpointValue → EndpointValue → Type 0 → Type 0
Unless (Some refusal) answer e f done = (answer ≡ refusal) × (f ≡ e)
Unless None answer e f done = done

-- A TICK
abbrev pub tick_refusals : EndpointValue → List (Bool × Ticked)
tick_refusals e = (e.spent, ticked.Spent) ∷ []

abbrev pub TickDoes : Ticked → ℕ → EndpointValue → EndpointValue → Type 0
TickDoes ticked.NoMemory now e f = Breaks now Tick e f
TickDoes other now e f = (other ≡ ticked.Done) × (f ≡ after_event now Tick e)

abbrev pub Ticks : Ticked → ℕ → EndpointValue → EndpointValue → Type 0
Ticks answer now e f = Unless (first_refusal (tick_refusals e)) answer e f (TickDoes answer now e f)

-- A DATAGRAM COMES. What it waited on the machine is taken off its life
abbrev pub arrive_fault : ℕ → List ℕ → Option LayoutFault → Option Received
arrive_fault waited octets (Some fault) = Some (arrived.Bad fault)
arrive_fault waited octets None = if nat_le (life_of octets) waited then Some arrived.Stale else None

abbrev pub arrive_refusal : ℕ → List ℕ → ℕ → EndpointValue → Option Received
arrive_refusal link octets waited e =
    if e.spent then Some arrived.Spent
    else if has_link link e.state.relay.ins then arrive_fault waited octets (gram_fault octets)
    else Some arrived.NoLink

abbrev pub arrive_event : ℕ → List ℕ → ℕ → Event (Unit {0})
arrive_event link octets waited = Arrive link (plain (lowered waited octets))

-- a datagram that is refused changes nothing but the count of these
abbrev pub ArriveDoes : Received → ℕ → Event (Unit {0}) → EndpointValue → EndpointValue → Type 0
ArriveDoes arrived.NoMemory now event e f = Breaks now event e f
ArriveDoes other now event e f = (other ≡ arrived.Done) × (f ≡ after_event now event e)

abbrev pub Arrives : Received → ℕ → ℕ → List ℕ → ℕ → EndpointValue → EndpointValue → Type 0
Arrives answer now link octets waited e f = Unless (arrive_refusal link octets waited e) answer (with_refused e) f (ArriveDoes answer now (arrive_event link octets waited) e f)

-- A ROUTE is added. Where there is no memory nothing changes, and the endpoint isn't spent: it is no event
abbrev pub route_refusals : Route → EndpointValue → List (Bool × Routed)
route_refusals route e =
    (e.spent, routed.Spent)
    ∷ (not (is_some (place_of link_of route.link e.state.relay.outs)), routed.NoLink)
    ∷ (is_some (route_to route.to e.state.relay.routes), routed.Known)
    ∷ []

abbrev pub RouteDoes : Routed → Route → EndpointValue → EndpointValue → Type 0
RouteDoes routed.NoMemory route e f = f ≡ e
RouteDoes other route e f = (other ≡ routed.Done) × (f ≡ with_route route e)

abbrev pub AddsRoute : Routed → Route → EndpointValue → EndpointValue → Type 0
AddsRoute answer route e f = Unless (first_refusal (route_refusals route e)) answer e f (RouteDoes answer route e f)

-- OCTETS ARE SENT
abbrev pub send_refusals : Flow → List ℕ → EndpointValue → List (Bool × Sent)
send_refusals flow octets e =
    (e.spent, sent.Spent)
    ∷ (not (flow.from.0 == e.state.host.me) || (flow.to.0 == e.state.host.me), sent.BadFlow)
    ∷ (length octets == 0, sent.Empty)
    ∷ (nat_le octets_below (e.asked + length octets), sent.TooMany)
    ∷ []

-- the station once it has settled at a moment that is given: what is sent or read is sent or read then
abbrev pub settled : ℕ → EndpointValue → Station (Unit {0})
settled now e = answer_of (settle_station e.rules (moment_of now e) e.state)

-- what the host answers
abbrev pub send_answer : ℕ → Flow → List ℕ → (begin end : Bool) → EndpointValue → Option Refusal
send_answer now flow octets begin end e = (send_octets e.rules (moment_of now e) flow (marked octets begin end false) (settled now e).host).0

abbrev pub sent_of : Option Refusal → Sent
sent_of None = sent.Done
sent_of (Some (refusal.Quiet until)) = sent.Quiet until
sent_of (Some (refusal.Full free)) = sent.Full free

-- the same, by what was heard
abbrev pub sent_by : HeardAnswer → Sent
sent_by (heard.Refused (refusal.Quiet until)) = sent.Quiet until
sent_by (heard.Refused (refusal.Full free)) = sent.Full free
sent_by other = sent.Done

-- the endpoint goes on also where the octets weren't taken: what else was due is done
abbrev pub SendDoes : Sent → ℕ → Option Refusal → Event (Unit {0}) → EndpointValue → EndpointValue → Type 0
SendDoes sent.NoMemory now refused event e f = Breaks now event e f
SendDoes other now refused event e f = (other ≡ sent_of refused) × (f ≡ after_event now event e)

abbrev pub Sends : Sent → ℕ → Flow → List ℕ → (begin end : Bool) → EndpointValue → EndpointValue → Type 0
Sends answer now flow octets begin end e f = Unless (first_refusal (send_refusals flow octets e)) answer e f (SendDoes answer now (send_answer now flow octets begin end e) (Send flow octets begin end) e f)

-- UNREAD OCTETS ARE READ, at most as many as there is room for
abbrev pub read_refusals : Flow → ℕ → EndpointValue → List (Bool × Delivered)
read_refusals flow room e =
    (e.spent, piece.Spent)
    ∷ (not (flow.to.0 == e.state.host.me) || (flow.from.0 == e.state.host.me), piece.BadFlow)
    ∷ (room == 0, piece.NoRoom)
    ∷ []

-- the piece that the host answers
abbrev pub read_answer : ℕ → Flow → ℕ → EndpointValue → List Item
read_answer now flow room e = (read_octets e.rules (moment_of now e) flow room (settled now e).host).0

abbrev pub piece_of : ℕ → Option ItemPiece → Delivered
piece_of len None = piece.Nothing
piece_of len (Some told) = piece.Read len told.run told.begin told.end

-- the same, by what was heard
abbrev pub piece_by : HeardAnswer → Delivered
piece_by (heard.Piece read) = piece.Read read.len read.run read.begin read.end
piece_by other = piece.Nothing

-- the buffer begins with the octets of the piece
abbrev pub ReadDoes : Delivered → ℕ → List Item → Event (Unit {0}) → List ℕ → EndpointValue → EndpointValue → Type 0
ReadDoes piece.NoMemory now items event buf e f = Breaks now event e f
ReadDoes other now items event buf e f =
    let octets = octets_of items in
    (other ≡ piece_of (length octets) (piece_told items)) × (take (length octets) buf ≡ octets) × (f ≡ after_event now event e)

abbrev pub Reads : Delivered → ℕ → Flow → (room : ℕ) → (buf : List ℕ) → EndpointValue → EndpointValue → Type 0
Reads answer now flow room buf e f = Unless (first_refusal (read_refusals flow room e)) answer e f (ReadDoes answer now (read_answer now flow room e) (Read flow room) buf e f)
