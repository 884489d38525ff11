-- An event leaves a relay's links, their paces, its charges and its routes: emptied, it is the relay that it was.
use Rattle.std.proofs.Common.{ℕ, zero, suc, ◌≡◌, ◌==◌, Bool, true, false, List, [], ◌∷◌, length, map, Option, Some, None, Result, Ok, Err, refl, ap, ◌∙◌, inl, inr}
use Rattle.std.specs.Prelude.{nat_lt}
use Rattle.std.proofs.lemmas.Bool.{cases_Bool}
use Rattle.dt_units.specs.declared.parameters.Params.{Params}
use Rattle.dt_layout.specs.declared.faults.LayoutFault.{LayoutFault}
use Rattle.dt_layout.specs.Spelling.{PacketValue}
use Rattle.dt_layout.specs.Reading.{gram_in, packet_read}
use Rattle.dt_layout.specs.Carried.{to_of}
use Rattle.dt_flow_model.specs.Frames.{flow_of, reply_frame}
use Rattle.dt_world_model.specs.declared.links.Entered.{Entered}
use Rattle.dt_world_model.specs.declared.links.Entered.TheVariants.{Queued, NoRoute, Full}
use Rattle.dt_world_model.specs.Host.{Host, Turn, arrive, next_turn, work}
use Rattle.dt_world_model.specs.Relay.{Parcel, Waiting, Left, Goes, Expired, Out, Relay, admit, emptied, empty_out, enter, enter_by, leave, leave_first, may_leave_from, most_on_link, on_link, push, route_to, with_outs}
use Rattle.dt_world_model.specs.Script.{Script, Done, ◌>>=◌, Answers}
use Rattle.dt_world_model.specs.Station.{Station, Event, Send, Read, Tick, Arrive, come, come_in, deliver, do_turns, flush, flush_at, flush_entered, flush_links, flush_on, flush_turns, go_on, happen, pass_on, send_off, settle_station, station_event, station_with}
use Rattle.dt_world_laws.proofs.Plays.{do_turn, link_of}
use Rattle.dt_world_laws.proofs.Settles.{answers_then}

module _ {T : Type 0} where
  abbrev pub emptied_out : Out T → Out T
  emptied_out out = empty_out out.link out.pace

  abbrev pub shape : List (Out T) → List (Out T)
  shape outs = map emptied_out outs

  leave_shape : (now : ℕ) (out : Out T) (ws : List (Waiting T)) → emptied_out (leave_first now out ws).1 ≡ emptied_out out
  leave_shape now out [] = refl
  leave_shape now out (w ∷ ws) =
      elim (cases_Bool (nat_lt now (may_leave_from out.pace out.last))) [ inl y ↦ rw y refl | inr n ↦ rw n refl ]

  module _ (e : Out T) where
    abbrev Same : Out T → Type 0
    Same out = emptied_out out ≡ e

    on_shape : (again : Out T → Script T (Out T)) (r : Option (Left T) × Out T) → Same r.1 → ((out : Out T) → Same out → Answers Same (again out)) → Answers Same (flush_on again r)
    on_shape again (None, out) h on = h
    on_shape again (Some Expired, out) h on = on out h
    on_shape again (Some (Goes parcel), out) h on = on out h

    turns_shape : (most now : ℕ) (out : Out T) → Same out → Answers Same (flush_turns most now out)
    turns_shape zero now out h = h
    turns_shape (suc most) now out h = on_shape (flush_turns most now) (leave now out) (leave_shape now out out.waits ∙ h) (turns_shape most now)

  flush_at_shape : (link now : ℕ) (outs s : List (Out T)) → shape outs ≡ s → Answers (λ os. shape os ≡ s) (flush_at link now outs)
  flush_at_shape link now [] s h = h
  flush_at_shape link now (out ∷ outs) s h =
      elim (cases_Bool (out.link == link)) [
        | inl y ↦ rw y (answers_then (Same (emptied_out out)) (λ os. shape os ≡ s) (flush now out) (λ after. Done (after ∷ outs)) (turns_shape (emptied_out out) _ now out refl) (λ after same. ap (λ (o : Out T). o ∷ shape outs) same ∙ h))
        | inr n ↦ rw n (answers_then (λ os. shape os ≡ shape outs) (λ os. shape os ≡ s) (flush_at link now outs) (λ rest. Done (out ∷ rest)) (flush_at_shape link now outs (shape outs) refl) (λ rest same. ap (λ (os : List (Out T)). emptied_out out ∷ os) same ∙ h))
      ]

  flush_links_shape : (now : ℕ) (links : List ℕ) (outs s : List (Out T)) → shape outs ≡ s → Answers (λ os. shape os ≡ s) (flush_links now links outs)
  flush_links_shape now [] outs s h = h
  flush_links_shape now (link ∷ links) outs s h =
      answers_then (λ os. shape os ≡ s) (λ os. shape os ≡ s) (flush_at link now outs) (λ rest. flush_links now links rest) (flush_at_shape link now outs s h) (λ rest same. flush_links_shape now links rest s same)

  push_shape : (parcel : Parcel T) (now : ℕ) (out : Out T) → emptied_out (push parcel now out).1 ≡ emptied_out out
  push_shape parcel now out = elim (cases_Bool (nat_lt (length out.waits) most_on_link)) [ inl y ↦ rw y refl | inr n ↦ rw n refl ]

  on_link_shape : {A : Type 0} (link : ℕ) (otherwise : A) (change : Out T → A × Out T) → ((out : Out T) → emptied_out (change out).1 ≡ emptied_out out) → (outs : List (Out T)) → shape (on_link link otherwise change outs).1 ≡ shape outs
  on_link_shape link otherwise change keeps [] = refl
  on_link_shape link otherwise change keeps (out ∷ outs) =
      elim (cases_Bool (out.link == link)) [
        | inl y ↦ rw y (ap (λ (o : Out T). o ∷ shape outs) (keeps out))
        | inr n ↦ rw n (ap (λ (os : List (Out T)). emptied_out out ∷ os) (on_link_shape link otherwise change keeps outs))
      ]

  module _ (e : Relay T) where
    abbrev Kept : Relay T → Type 0
    Kept relay = emptied relay ≡ e

    abbrev pub StationKept : Station T → Type 0
    StationKept station = emptied station.relay ≡ e

    outs_kept : (relay : Relay T) (outs : List (Out T)) → Kept relay → shape outs ≡ shape relay.outs → Kept (with_outs relay outs)
    outs_kept relay outs h same = ap (λ (os : List (Out T)). with_outs relay os) same ∙ h

    enter_kept : (link : Option ℕ) (parcel : Parcel T) (now : ℕ) (relay : Relay T) → Kept relay → Kept (enter_by link parcel now relay).1
    enter_kept None parcel now relay h = h
    enter_kept (Some link) parcel now relay h = outs_kept relay _ h (on_link_shape link (NoRoute (to_of parcel.octets)) (push parcel now) (push_shape parcel now) relay.outs)

    entered_kept : (now : ℕ) (r : Entered × Relay T) → Kept r.1 → Answers Kept (flush_entered now r)
    entered_kept now (Queued link, relay) h = answers_then (λ os. shape os ≡ shape relay.outs) Kept (flush_at link now relay.outs) (λ outs. Done (with_outs relay outs)) (flush_at_shape link now relay.outs (shape relay.outs) refl) (λ outs same. outs_kept relay outs h same)
    entered_kept now (NoRoute to, relay) h = h
    entered_kept now (Full link, relay) h = h

    passed_kept : (parcel : Parcel T) (now : ℕ) (relay : Relay T) → Kept relay → Answers Kept (pass_on parcel now relay)
    passed_kept parcel now relay h = entered_kept now (enter parcel now relay) (enter_kept (route_to (to_of parcel.octets) relay.routes) parcel now relay h)

    off_kept : (now : ℕ) (host : Host) (frame : Option (List ℕ)) (relay : Relay T) → Kept relay → Answers StationKept (send_off now host frame relay)
    off_kept now host None relay h = h
    off_kept now host (Some octets) relay h = λ t. answers_then Kept StationKept (pass_on (record { octets = octets; tag = t }) now relay) (λ after. Done (station_with host after)) (passed_kept (record { octets = octets; tag = t }) now relay h) (λ after same. same)

    go_kept : (p : Params) (most now : ℕ) (turn : Option Turn) (st : Station T) → StationKept st → ((st' : Station T) → StationKept st' → Answers StationKept (do_turns most p now st')) → Answers StationKept (go_on (do_turns most p now) now turn st)
    go_kept p most now None st h again = h
    go_kept p most now (Some turn) st h again = answers_then StationKept StationKept (do_turn now turn st.relay) (do_turns most p now) (off_kept now turn.host turn.frame st.relay h) again

    turns_kept : (p : Params) (most now : ℕ) (st : Station T) → StationKept st → Answers StationKept (do_turns most p now st)
    turns_kept p zero now st h = h
    turns_kept p (suc most) now st h = go_kept p most now (next_turn p now st.host) st h (turns_kept p most now)

    settle_kept : (p : Params) (now : ℕ) (st : Station T) → StationKept st → Answers StationKept (settle_station p now st)
    settle_kept p now st h =
        answers_then (λ os. shape os ≡ shape st.relay.outs) StationKept (flush_links now (map link_of st.relay.outs) st.relay.outs) (λ outs. do_turns (work p now st.host) p now (station_with st.host (with_outs st.relay outs))) (flush_links_shape now (map link_of st.relay.outs) st.relay.outs (shape st.relay.outs) refl)
        (λ outs same. turns_kept p (work p now st.host) now (station_with st.host (with_outs st.relay outs)) (outs_kept st.relay outs h same))

    deliver_kept : (p : Params) (now from : ℕ) (r : Result PacketValue LayoutFault) (st : Station T) → StationKept st → Answers StationKept (deliver p now from r st)
    deliver_kept p now from (Err fault) st h = h
    deliver_kept p now from (Ok v) st h = off_kept now (arrive p now from v st.host).1 (reply_frame p (flow_of from st.host.me v) (arrive p now from v st.host).0) st.relay h

    come_kept : (p : Params) (now : ℕ) (here : Bool) (parcel : Parcel T) (st : Station T) → StationKept st → Answers StationKept (come p now here parcel st)
    come_kept p now true parcel st h = deliver_kept p now (gram_in parcel.octets).from (packet_read (gram_in parcel.octets)) st h
    come_kept p now false parcel st h = answers_then Kept StationKept (pass_on parcel now st.relay) (λ relay. Done (station_with st.host relay)) (passed_kept parcel now st.relay h) (λ relay same. same)

    come_in_kept : (p : Params) (now link : ℕ) (o : Option (Parcel T)) (st : Station T) → StationKept st → Answers StationKept (come_in p now link o st)
    come_in_kept p now link None st h = h
    come_in_kept p now link (Some parcel) st h = come_kept p now (to_of parcel.octets == st.host.me) parcel st h

    happen_kept : (p : Params) (now : ℕ) (event : Event T) (st : Station T) → StationKept st → Answers StationKept (happen p now event st)
    happen_kept p now (Send f octets begin end) st h = h
    happen_kept p now (Read f most) st h = h
    happen_kept p now Tick st h = h
    happen_kept p now (Arrive link parcel) st h = come_in_kept p now link (admit link parcel st.relay) st h

    -- AN EVENT LEAVES WHAT A RELAY BEGAN WITH
    pub event_kept : (p : Params) (now : ℕ) (event : Event T) (st : Station T) → StationKept st → Answers StationKept (station_event p now event st)
    event_kept p now event st h =
        answers_then StationKept StationKept (settle_station p now st) (λ before. happen p now event before >>= λ after. settle_station p now after) (settle_kept p now st h)
        (λ before kept. answers_then StationKept StationKept (happen p now event before) (settle_station p now) (happen_kept p now event before kept) (λ after same. settle_kept p now after same))
