-- An event of a station changes none of its in links.
use Rattle.std.proofs.Common.{◌≡◌, ◌∙◌, ◌==◌, ◌⊎◌, ℕ, zero, suc, Bool, true, false, List, map, Option, Some, None, Result, Ok, Err, refl, ap, inl, inr, sym}
use Rattle.dt_units.specs.declared.parameters.Params.{Params}
use Rattle.dt_layout.specs.declared.faults.LayoutFault.{LayoutFault}
use Rattle.dt_layout.specs.Carried.{to_of}
use Rattle.dt_layout.specs.Reading.{gram_in, packet_read}
use Rattle.dt_layout.specs.Spelling.{PacketValue}
use Rattle.dt_flow_model.specs.Frames.{flow_of, reply_frame}
use Rattle.dt_world_model.specs.declared.links.Entered.{Entered}
use Rattle.dt_world_model.specs.declared.links.Entered.TheVariants.{Queued, NoRoute, Full}
use Rattle.dt_world_model.specs.declared.links.InLink.{InLink}
use Rattle.dt_world_model.specs.Host.{Host, Turn, arrive, next_turn, work}
use Rattle.dt_world_model.specs.Relay.{Out, Parcel, Relay, admit, enter, enter_by, route_to, with_outs}
use Rattle.dt_world_model.specs.Script.{Ask, Done, Hand, Script, Tell, ◌>>=◌}
use Rattle.dt_world_model.specs.Station.{Arrive, Event, Read, Send, Station, Tick, come, come_in, deliver, do_turns, flush_at, flush_entered, flush_links, go_on, happen, pass_on, send_off, settle_station, station_event, station_with}
use Rattle.dt_endpoint.specs.Acts.{answer_of}
use Rattle.dt_endpoint.specs.Endpoints.{Breaks, EndpointValue, after_event, moment_of}

answer_then : {A B : Type 0} (s : Script (Unit {0}) A) (k : A → Script (Unit {0}) B) → answer_of (s >>= k) ≡ answer_of (k (answer_of s))
answer_then (Done a) k = refl
answer_then (Tell r s) k = answer_then s k
answer_then (Ask host octets s) k = answer_then (s tt) k
answer_then (Hand link parcel s) k = answer_then s k

abbrev Plain : Type 0
Plain = Station (Unit {0})

abbrev ins_of : Plain → List InLink
ins_of st = st.relay.ins

entered_ins : (now : ℕ) (r : Entered × Relay (Unit {0})) → (answer_of (flush_entered now r)).ins ≡ r.1.ins
entered_ins now (Queued link, relay) = ap (λ (x : Relay (Unit {0})). x.ins) (answer_then (flush_at link now relay.outs) (λ outs. Done (with_outs relay outs)))
entered_ins now (NoRoute to, relay) = refl
entered_ins now (Full link, relay) = refl

enter_ins : (route : Option ℕ) (parcel : Parcel (Unit {0})) (now : ℕ) (relay : Relay (Unit {0})) → (enter_by route parcel now relay).1.ins ≡ relay.ins
enter_ins None parcel now relay = refl
enter_ins (Some link) parcel now relay = refl

passed_ins : (parcel : Parcel (Unit {0})) (now : ℕ) (relay : Relay (Unit {0})) → (answer_of (pass_on parcel now relay)).ins ≡ relay.ins
passed_ins parcel now relay = entered_ins now (enter parcel now relay) ∙ enter_ins (route_to (to_of parcel.octets) relay.routes) parcel now relay

on_ins : (parcel : Parcel (Unit {0})) (now : ℕ) (host : Host) (relay : Relay (Unit {0})) → ins_of (answer_of (pass_on parcel now relay >>= λ after. Done (station_with host after))) ≡ relay.ins
on_ins parcel now host relay = ap ins_of (answer_then (pass_on parcel now relay) (λ after. Done (station_with host after))) ∙ passed_ins parcel now relay

sent_ins : (now : ℕ) (host : Host) (frame : Option (List ℕ)) (relay : Relay (Unit {0})) → ins_of (answer_of (send_off now host frame relay)) ≡ relay.ins
sent_ins now host None relay = refl
sent_ins now host (Some octets) relay = on_ins (record { octets = octets; tag = tt }) now host relay

turned_by : (again : Plain → Script (Unit {0}) Plain) → ((x : Plain) → ins_of (answer_of (again x)) ≡ ins_of x) → (now : ℕ) (o : Option Turn) (st : Plain) → ins_of (answer_of (go_on again now o st)) ≡ ins_of st
turned_by again keeps now None st = refl
turned_by again keeps now (Some turn) st =
    let sent = send_off now turn.host turn.frame st.relay in
    ap ins_of (answer_then sent again) ∙ keeps (answer_of sent) ∙ sent_ins now turn.host turn.frame st.relay

turned_ins : (most : ℕ) (p : Params) (now : ℕ) (st : Plain) → ins_of (answer_of (do_turns most p now st)) ≡ ins_of st
turned_ins zero p now st = refl
turned_ins (suc most) p now st = turned_by (do_turns most p now) (turned_ins most p now) now (next_turn p now st.host) st

settled_ins : (p : Params) (now : ℕ) (st : Plain) → ins_of (answer_of (settle_station p now st)) ≡ ins_of st
settled_ins p now st =
    let flushed = flush_links now (map (λ out. out.link) st.relay.outs) st.relay.outs in
    let turns : List (Out (Unit {0})) → Script (Unit {0}) Plain = λ outs. do_turns (work p now st.host) p now (station_with st.host (with_outs st.relay outs)) in
    ap ins_of (answer_then flushed turns) ∙ turned_ins (work p now st.host) p now (station_with st.host (with_outs st.relay (answer_of flushed)))

delivered_ins : (p : Params) (now from : ℕ) (r : Result PacketValue LayoutFault) (st : Plain) → ins_of (answer_of (deliver p now from r st)) ≡ ins_of st
delivered_ins p now from (Err fault) st = refl
delivered_ins p now from (Ok v) st =
    let f = flow_of from st.host.me v in
    let r = arrive p now from v st.host in
    sent_ins now r.1 (reply_frame p f r.0) st.relay

come_ins : (p : Params) (now : ℕ) (own : Bool) (parcel : Parcel (Unit {0})) (st : Plain) → ins_of (answer_of (come p now own parcel st)) ≡ ins_of st
come_ins p now true parcel st = let d = gram_in parcel.octets in delivered_ins p now d.from (packet_read d) st
come_ins p now false parcel st = on_ins parcel now st.host st.relay

came_ins : (p : Params) (now link : ℕ) (o : Option (Parcel (Unit {0}))) (st : Plain) → ins_of (answer_of (come_in p now link o st)) ≡ ins_of st
came_ins p now link None st = refl
came_ins p now link (Some parcel) st = come_ins p now (to_of parcel.octets == st.host.me) parcel st

happened_ins : (p : Params) (now : ℕ) (event : Event (Unit {0})) (st : Plain) → ins_of (answer_of (happen p now event st)) ≡ ins_of st
happened_ins p now (Send f octets begin end) st = refl
happened_ins p now (Read f most) st = refl
happened_ins p now Tick st = refl
happened_ins p now (Arrive link parcel) st = came_ins p now link (admit link parcel st.relay) st

event_ins : (p : Params) (now : ℕ) (event : Event (Unit {0})) (st : Plain) → ins_of (answer_of (station_event p now event st)) ≡ ins_of st
event_ins p now event st =
    let before = settle_station p now st in
    let mid = answer_of before in
    let then : Plain → Script (Unit {0}) Plain = λ b. happen p now event b >>= λ after. settle_station p now after in
    ap ins_of (answer_then before then)
    ∙ ap ins_of (answer_then (happen p now event mid) (λ after. settle_station p now after))
    ∙ settled_ins p now (answer_of (happen p now event mid))
    ∙ happened_ins p now event mid
    ∙ settled_ins p now st

-- of an endpoint that found memory
pub ends_ins : (now : ℕ) (event : Event (Unit {0})) (e f : EndpointValue) → ((f ≡ after_event now event e) ⊎ Breaks now event e f) → f.spent ≡ false → f.state.relay.ins ≡ e.state.relay.ins
ends_ins now event e f (inl done) unspent = ap (λ (x : EndpointValue). x.state.relay.ins) done ∙ event_ins e.rules (moment_of now e) event e.state
ends_ins now event e f (inr broken) unspent = let no : true ≡ false = sym broken.spent ∙ unspent in absurd cc
