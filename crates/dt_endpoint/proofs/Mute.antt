-- What settling tells answers no call, so what is heard of a send or a read is what the event itself told.
use Rattle.std.proofs.Common.{◌≡◌, ◌∙◌, ◌==◌, ℕ, zero, suc, List, [], ◌∷◌, length, map, Option, Some, None, refl, ap, inl, inr}
use Rattle.std.specs.Prelude.{option_map}
use Rattle.std.proofs.lemmas.Bool.{cases_Bool}
use Rattle.dt_units.specs.declared.parameters.Params.{Params}
use Rattle.dt_units.specs.declared.endpoints.Flow.{Flow}
use Rattle.dt_reports.specs.Told.{Told}
use Rattle.dt_flow_model.specs.declared.acts.SendAct.{SendAct}
use Rattle.dt_flow_model.specs.declared.acts.SendAct.TheVariants as A
use Rattle.dt_flow_model.specs.declared.acts.RecvAct.{RecvAct}
use Rattle.dt_flow_model.specs.declared.acts.RecvAct.TheVariants as R
use Rattle.dt_flow_model.specs.SendActs.{told_of}
use Rattle.dt_flow_model.specs.ReceiveRecord.{recv_told_of}
use Rattle.dt_world_model.specs.declared.links.Entered.{Entered}
use Rattle.dt_world_model.specs.declared.links.Entered.TheVariants.{Queued, NoRoute, Full}
use Rattle.dt_world_model.specs.Host.{Host, HostAct, Offer, Turn, least, next_turn, offers, receiver_at, recv_act, send_act, told_recv, told_send, turn_of, work}
use Rattle.dt_world_model.specs.Relay.{Expired, Goes, Left, Out, Parcel, Relay, enter, leave, with_outs}
use Rattle.dt_world_model.specs.Script.{Ask, Done, Hand, Script, Tell, ◌>>=◌}
use Rattle.dt_world_model.specs.Station.{Event, Station, do_turns, flush, flush_at, flush_entered, flush_links, flush_on, flush_turns, go_on, happen, pass_on, send_off, settle_station, station_event, station_with}
use Rattle.dt_endpoint.specs.declared.heard_answers.HeardAnswer.{HeardAnswer}
use Rattle.dt_endpoint.specs.Acts.{answer_of}
use Rattle.dt_endpoint.specs.Hearing.{heard_in, hears, piece_after, piece_in}

pub record IsMute (r : Told) : Type 0 where
  pub heard : (h : HeardAnswer) → hears r h ≡ h
  pub piece : (b : List ℕ) → piece_after r b ≡ b

abbrev pub Mute : {A : Type 0} → Script (Unit {0}) A → Type 0
Mute (Done a) = Unit {0}
Mute (Tell r k) = IsMute r × Mute k
Mute (Ask host octets k) = Mute (k tt)
Mute (Hand link parcel k) = Mute k

mute_then : {A B : Type 0} (s : Script (Unit {0}) A) (k : A → Script (Unit {0}) B) → Mute s → ((a : A) → Mute (k a)) → Mute (s >>= k)
mute_then (Done a) k h on = on a
mute_then (Tell r s) k h on = (h.0, mute_then s k h.1 on)
mute_then (Ask host octets s) k h on = mute_then (s tt) k h on
mute_then (Hand link parcel s) k h on = mute_then s k h on

heard_mute : {A : Type 0} (s : Script (Unit {0}) A) (h : HeardAnswer) → Mute s → heard_in s h ≡ h
heard_mute (Done a) h m = refl
heard_mute (Tell r s) h m = ap (λ (x : HeardAnswer). heard_in s x) (m.0.heard h) ∙ heard_mute s h m.1
heard_mute (Ask host octets s) h m = heard_mute (s tt) h m
heard_mute (Hand link parcel s) h m = heard_mute s h m

piece_mute : {A : Type 0} (s : Script (Unit {0}) A) (b : List ℕ) → Mute s → piece_in s b ≡ b
piece_mute (Done a) b m = refl
piece_mute (Tell r s) b m = ap (λ (x : List ℕ). piece_in s x) (m.0.piece b) ∙ piece_mute s b m.1
piece_mute (Ask host octets s) b m = piece_mute (s tt) b m
piece_mute (Hand link parcel s) b m = piece_mute s b m

heard_then : {A B : Type 0} (s : Script (Unit {0}) A) (k : A → Script (Unit {0}) B) (h : HeardAnswer) → heard_in (s >>= k) h ≡ heard_in (k (answer_of s)) (heard_in s h)
heard_then (Done a) k h = refl
heard_then (Tell r s) k h = heard_then s k (hears r h)
heard_then (Ask host octets s) k h = heard_then (s tt) k h
heard_then (Hand link parcel s) k h = heard_then s k h

piece_then : {A B : Type 0} (s : Script (Unit {0}) A) (k : A → Script (Unit {0}) B) (b : List ℕ) → piece_in (s >>= k) b ≡ piece_in (k (answer_of s)) (piece_in s b)
piece_then (Done a) k b = refl
piece_then (Tell r s) k b = piece_then s k (piece_after r b)
piece_then (Ask host octets s) k b = piece_then (s tt) k b
piece_then (Hand link parcel s) k b = piece_then s k b

-- WHAT IS TOLD OF A LINK AND OF AN ACT answers no call
flush_on_mute : (again : Out (Unit {0}) → Script (Unit {0}) (Out (Unit {0}))) (r : Option (Left (Unit {0})) × Out (Unit {0})) → ((o : Out (Unit {0})) → Mute (again o)) → Mute (flush_on again r)
flush_on_mute again (None, out) on = tt
flush_on_mute again (Some Expired, out) on = (record { heard = λ h. refl; piece = λ b. refl }, on out)
flush_on_mute again (Some (Goes parcel), out) on = (record { heard = λ h. refl; piece = λ b. refl }, on out)

flush_turns_mute : (most now : ℕ) (out : Out (Unit {0})) → Mute (flush_turns most now out)
flush_turns_mute zero now out = tt
flush_turns_mute (suc most) now out = flush_on_mute (flush_turns most now) (leave now out) (flush_turns_mute most now)

flush_at_mute : (link now : ℕ) (outs : List (Out (Unit {0}))) → Mute (flush_at link now outs)
flush_at_mute link now [] = tt
flush_at_mute link now (out ∷ outs) =
    elim (cases_Bool (out.link == link)) [
      | inl y ↦ rw y (mute_then (flush now out) (λ after. Done (after ∷ outs)) (flush_turns_mute (length out.waits) now out) (λ after. tt))
      | inr n ↦ rw n (mute_then (flush_at link now outs) (λ rest. Done (out ∷ rest)) (flush_at_mute link now outs) (λ rest. tt))
    ]

flush_links_mute : (now : ℕ) (links : List ℕ) (outs : List (Out (Unit {0}))) → Mute (flush_links now links outs)
flush_links_mute now [] outs = tt
flush_links_mute now (link ∷ links) outs = mute_then (flush_at link now outs) (λ rest. flush_links now links rest) (flush_at_mute link now outs) (λ rest. flush_links_mute now links rest)

entered_mute : (now : ℕ) (r : Entered × Relay (Unit {0})) → Mute (flush_entered now r)
entered_mute now (Queued link, relay) = mute_then (flush_at link now relay.outs) (λ outs. Done (with_outs relay outs)) (flush_at_mute link now relay.outs) (λ outs. tt)
entered_mute now (NoRoute to, relay) = (record { heard = λ h. refl; piece = λ b. refl }, tt)
entered_mute now (Full link, relay) = (record { heard = λ h. refl; piece = λ b. refl }, tt)

off_mute : (now : ℕ) (host : Host) (frame : Option (List ℕ)) (relay : Relay (Unit {0})) → Mute (send_off now host frame relay)
off_mute now host None relay = tt
off_mute now host (Some octets) relay =
    let parcel : Parcel (Unit {0}) = record { octets = octets; tag = tt } in
    mute_then (pass_on parcel now relay) (λ after. Done (station_with host after)) (entered_mute now (enter parcel now relay)) (λ after. tt)

send_mute : (f : Flow) (act : SendAct) → IsMute (told_send f act)
send_mute f (A.GaveUp count) = record { heard = λ h. refl; piece = λ b. refl }
send_mute f A.Released = record { heard = λ h. refl; piece = λ b. refl }
send_mute f A.Renewed = record { heard = λ h. refl; piece = λ b. refl }
send_mute f (A.Resent cut) = record { heard = λ h. refl; piece = λ b. refl }
send_mute f (A.Sent cut) = record { heard = λ h. refl; piece = λ b. refl }
send_mute f (A.Met number) = record { heard = λ h. refl; piece = λ b. refl }

recv_mute : (f : Flow) (act : RecvAct) → IsMute (told_recv f act)
recv_mute f R.Released = record { heard = λ h. refl; piece = λ b. refl }
recv_mute f (R.Acked number window) = record { heard = λ h. refl; piece = λ b. refl }

act_mute : (p : Params) (now : ℕ) (host : Host) (a : HostAct) → IsMute (turn_of p now host a).told
act_mute p now host (send_act f x act) = send_mute f (told_of p x act)
act_mute p now host (recv_act f y kind) = recv_mute f (recv_told_of p (receiver_at host f).unread y kind)

abbrev MuteTurn : Option Turn → Type 0
MuteTurn None = Unit {0}
MuteTurn (Some turn) = IsMute turn.told

turn_mute : (p : Params) (now : ℕ) (host : Host) (o : Option Offer) → MuteTurn (option_map (λ (o : Offer). turn_of p now host o.act) o)
turn_mute p now host None = tt
turn_mute p now host (Some o) = act_mute p now host o.act

go_mute : (again : Station (Unit {0}) → Script (Unit {0}) (Station (Unit {0}))) (now : ℕ) (turn : Option Turn) (st : Station (Unit {0})) → MuteTurn turn → ((s : Station (Unit {0})) → Mute (again s)) → Mute (go_on again now turn st)
go_mute again now None st h on = tt
go_mute again now (Some turn) st h on = mute_then (Tell turn.told (send_off now turn.host turn.frame st.relay)) again (h, off_mute now turn.host turn.frame st.relay) on

turns_mute : (most : ℕ) (p : Params) (now : ℕ) (st : Station (Unit {0})) → Mute (do_turns most p now st)
turns_mute zero p now st = tt
turns_mute (suc most) p now st = go_mute (do_turns most p now) now (next_turn p now st.host) st (turn_mute p now st.host (least (offers p now st.host))) (turns_mute most p now)

pub settle_mute : (p : Params) (now : ℕ) (st : Station (Unit {0})) → Mute (settle_station p now st)
settle_mute p now st =
    let links = map (λ (out : Out (Unit {0})). out.link) st.relay.outs in
    mute_then (flush_links now links st.relay.outs) (λ outs. do_turns (work p now st.host) p now (station_with st.host (with_outs st.relay outs))) (flush_links_mute now links st.relay.outs) (λ outs. turns_mute (work p now st.host) p now (station_with st.host (with_outs st.relay outs)))

-- WHAT IS HEARD OF AN EVENT is what it told itself
pub event_heard : (p : Params) (now : ℕ) (e : Event (Unit {0})) (st : Station (Unit {0})) (h : HeardAnswer) → heard_in (station_event p now e st) h ≡ heard_in (happen p now e (answer_of (settle_station p now st))) h
event_heard p now e st h =
    let before = answer_of (settle_station p now st) in
    let during = happen p now e before in
    heard_then (settle_station p now st) (λ before. happen p now e before >>= λ after. settle_station p now after) h
    ∙ ap (λ (x : HeardAnswer). heard_in (during >>= λ after. settle_station p now after) x) (heard_mute (settle_station p now st) h (settle_mute p now st))
    ∙ heard_then during (λ after. settle_station p now after) h
    ∙ heard_mute (settle_station p now (answer_of during)) (heard_in during h) (settle_mute p now (answer_of during))

pub event_piece : (p : Params) (now : ℕ) (e : Event (Unit {0})) (st : Station (Unit {0})) (b : List ℕ) → piece_in (station_event p now e st) b ≡ piece_in (happen p now e (answer_of (settle_station p now st))) b
event_piece p now e st b =
    let before = answer_of (settle_station p now st) in
    let during = happen p now e before in
    piece_then (settle_station p now st) (λ before. happen p now e before >>= λ after. settle_station p now after) b
    ∙ ap (λ (x : List ℕ). piece_in (during >>= λ after. settle_station p now after) x) (piece_mute (settle_station p now st) b (settle_mute p now st))
    ∙ piece_then during (λ after. settle_station p now after) b
    ∙ piece_mute (settle_station p now (answer_of during)) (piece_in during b) (settle_mute p now (answer_of during))
