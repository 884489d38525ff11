-- What an endpoint answers to a send and to a read is what happens at its station of the world.
use Rattle.std.proofs.Common.{◌≡◌, ◌∙◌, ◌+◌, ◌==◌, ℕ, Bool, true, false, List, [], ◌∷◌, ◌++◌, append-nil, Option, Some, None, refl, sym, ap, subst}
use Rattle.dt_items.specs.declared.item.Item.{Item}
use Rattle.dt_items.specs.Unread.{first_piece, marked}
use Rattle.dt_units.specs.declared.endpoints.Flow.{Flow}
use Rattle.dt_units.specs.declared.parameters.Params.{Params}
use Rattle.dt_units.specs.Limits.{IsWithinLimits}
use Rattle.dt_reports.specs.declared.faults.Refusal.{Refusal}
use Rattle.dt_flow_model.specs.Frames.{Mark}
use Rattle.dt_world_laws.proofs.Bare.{event_alike}
use Rattle.dt_world_laws.proofs.Worlds.{placed_is}
use Rattle.dt_world_model.proofs.Tables.{flow_is}
use Rattle.dt_world_model.specs.Host.{Host, IsHost, read_piece}
use Rattle.dt_world_model.specs.Script.{Answers, Ask, Done, Hand, Script, Tell}
use Rattle.dt_world_model.specs.Station.{Event, Send, Station, settle_station, station_event}
use Rattle.dt_world_model.specs.Tables.{look, same_flow}
use Rattle.dt_world_model.specs.Tags.{Alike, bare_station}
use Rattle.dt_world_model.specs.World.{Placed, World, placed, view}
use Rattle.dt_world_model.specs.WorldFacts.{WorldFacts}
use Rattle.dt_world_model.specs.WorldStep.{event_at, noted_at, occasion}
use Rattle.dt_calls_laws.proofs.Unmoved.{Leaves, settle_leaves}
use Rattle.dt_calls_laws.proofs.Calm.{station_facts}
use Rattle.dt_calls_laws.specs.Calm.{items_taken}
use Rattle.dt_calls_laws.specs.HasRead.{unread_at}
use Rattle.dt_calls_laws.specs.Sent.{SendLeaves}
use Rattle.dt_calls_model.specs.Heard.{tells_refusal}
use Rattle.dt_endpoint.specs.declared.answers.Sent.{Sent}
use Rattle.dt_endpoint.specs.Acts.{answer_of}
use Rattle.dt_endpoint.specs.Calls.{read_answer, send_answer, settled}
use Rattle.dt_endpoint.specs.Endpoints.{EndpointValue, moment_of}
use Rattle.dt_endpoint.specs.Networks.{IsAt}
use Rattle.dt_network.proofs.Outcomes.{taken_of}
use Rattle.dt_network.proofs.Refusals.{is_refused, refused_alike, send_refused}
use Rattle.dt_network.specs.Octets.{IsTaken, TakesIf}

abbrev IsBareOf : Station Mark → Station (Unit {0}) → Type 0
IsBareOf a b = b ≡ bare_station a

-- A SEND
pub send_told : (w : World) (n : ℕ) (at : Placed) (now : ℕ) (e : EndpointValue) (f : Flow) (octets : List ℕ) (begin end : Bool) → IsAt w at now e → tells_refusal (event_at w n (Send f octets begin end) (Some at)).0 ≡ is_refused (send_answer now f octets begin end e)
send_told w n at now e f octets begin end h =
    let event : Event Mark = Send f octets begin end in
    let alike : Alike IsBareOf (station_event w.params (w.now + at.zero) event at.station) (station_event e.rules (moment_of now e) (Send f octets begin end) e.state) = rw (h.rules, h.moment, h.state) (event_alike w.params (w.now + at.zero) event at.station) in
    refused_alike IsBareOf (occasion w n event) alike (noted_at w) ∙ send_refused e.rules (moment_of now e) f octets begin end e.state

-- what a flow took of a send
abbrev pub taken_if : Bool → Option Refusal → List Item → List Item
taken_if true refused items = taken_of refused items
taken_if false refused items = []

pub takes_if : (same : Bool) (answer : Sent) (refused : Option Refusal) (items : List Item) → IsTaken answer items (taken_of refused items) → TakesIf same answer items (taken_if same refused items)
takes_if true answer refused items h = h
takes_if false answer refused items h = refl

pub send_items : (w v : World) (f g : Flow) (octets : List ℕ) (begin end : Bool) (refused : Option Refusal) (same : Bool) → same_flow f g ≡ same → SendLeaves (is_refused refused) f octets begin end w.ledgers v.ledgers
    → items_taken v g ≡ items_taken w g ++ taken_if same refused (marked octets begin end false)
send_items w v f g octets begin end None true e h = subst (λ (k : Flow). items_taken v k ≡ items_taken w k ++ marked octets begin end false) (flow_is f g e) h.here.taken
send_items w v f g octets begin end None false e h = (h.others g e).taken ∙ sym (append-nil (items_taken w g))
send_items w v f g octets begin end (Some fault) true e h = (h g).taken ∙ sym (append-nil (items_taken w g))
send_items w v f g octets begin end (Some fault) false e h = (h g).taken ∙ sym (append-nil (items_taken w g))

-- A READ
answered : {A : Type 0} (P : A → Type 0) (s : Script (Unit {0}) A) → Answers P s → P (answer_of s)
answered P (Done a) h = h
answered P (Tell r s) h = answered P s h
answered P (Ask host octets s) h = answered P (s tt) (h tt)
answered P (Hand link parcel s) h = answered P s h

piece_is : (p : Params) (now : ℕ) (f : Flow) (items : List Item) (host : Host) → (read_piece p now f items host).0 ≡ items
piece_is p now f [] host = refl
piece_is p now f (i ∷ is) host = refl

pub read_told : (w : World) (n : ℕ) (at : Placed) (now : ℕ) (e : EndpointValue) (f : Flow) (room : ℕ) → IsWithinLimits w.params → WorldFacts w → look ◌==◌ n w.stations ≡ Some at → IsAt w at now e → f.to.0 ≡ n → read_answer now f room e ≡ first_piece room (view w f).unread
read_told w n at now e f room limits facts there h to =
    let placed_facts = station_facts w n at facts there in
    let limits_here : IsWithinLimits e.rules = subst IsWithinLimits (sym h.rules) limits in
    let host_here : IsHost e.rules e.state.host = subst (λ (p : Params). IsHost p e.state.host) (sym h.rules) (subst (λ (st : Station (Unit {0})). IsHost w.params st.host) (sym h.state) placed_facts.host) in
    let left = answered (Leaves e.rules e.state) (settle_station e.rules (moment_of now e) e.state) (settle_leaves e.rules (moment_of now e) limits_here e.state host_here) in
    let same : unread_at (settled now e).host f ≡ unread_at at.station.host f = left.unread f ∙ ap (λ (st : Station (Unit {0})). unread_at st.host f) h.state in
    let seen : (view w f).unread ≡ unread_at at.station.host f =
    subst (λ (k : ℕ). unread_at (placed w k).station.host f ≡ unread_at at.station.host f) (sym to) (ap (λ (a : Placed). unread_at a.station.host f) (placed_is w n at there facts)) in
    piece_is e.rules (moment_of now e) f (first_piece room (unread_at (settled now e).host f)) (settled now e).host
    ∙ ap (first_piece room) (same ∙ sym seen)
