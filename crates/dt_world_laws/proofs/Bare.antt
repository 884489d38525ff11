-- What is written on packets changes nothing that is told, and no octet that is handed out.
use Rattle.std.proofs.Common.{◌≡◌, ℕ, zero, suc, ◌==◌, List, [], ◌∷◌, ◌++◌, Bool, true, false, Option, Some, None, Result, Ok, Err, refl, sym, ap, subst, map, length, inl, inr}
use Rattle.std.specs.Prelude.{nat_le, nat_lt}
use Rattle.std.proofs.lemmas.Bool.{cases_Bool}
use Rattle.std.proofs.lemmas.List.{length-map}
use Rattle.dt_units.specs.declared.parameters.Params.{Params}
use Rattle.dt_layout.specs.declared.faults.LayoutFault.{LayoutFault}
use Rattle.dt_layout.specs.Spelling.{PacketValue}
use Rattle.dt_layout.specs.Reading.{gram_in, packet_read}
use Rattle.dt_layout.specs.Carried.{life_of, to_of}
use Rattle.dt_world_model.specs.declared.links.Entered.{Entered}
use Rattle.dt_world_model.specs.declared.links.Entered.TheVariants.{Queued, NoRoute, Full}
use Rattle.dt_world_model.specs.Host.{Host, Turn, next_turn, work}
use Rattle.dt_world_model.specs.Relay.{Parcel, Waiting, Out, Relay, charge_of, enter, enter_by, leave_first, lower_parcel, may_leave_from, most_on_link, on_link, push, route_to, time_charge, with_outs, with_waits}
use Rattle.dt_world_model.specs.Script.{Script, ◌>>=◌}
use Rattle.dt_world_model.specs.Station.{Station, Event, Send, Read, Tick, Arrive, come, deliver, do_turns, flush, flush_at, flush_entered, flush_links, flush_on, flush_turns, go_on, happen, pass_on, send_off, settle_station, station_event, station_with}
use Rattle.dt_world_model.specs.Tags.{Alike, done, tell, ask, hand, bare_event, bare_out, bare_parcel, bare_relay, bare_station, bare_waiting}

pub alike_bind : {T A B C D : Type 0} (R : A → B → Type 0) (Q : C → D → Type 0) {s : Script T A} {t : Script (Unit {0}) B} (k : A → Script T C) (l : B → Script (Unit {0}) D) →
    Alike R s t → ((a : A) (b : B) → R a b → Alike Q (k a) (l b)) → Alike Q (s >>= k) (t >>= l)
alike_bind R Q k l (done h) f = f _ _ h
alike_bind R Q k l (tell r h) f = tell r (alike_bind R Q k l h f)
alike_bind R Q k l (ask host octets h) f = ask host octets (λ x. alike_bind R Q k l (h x) f)
alike_bind R Q k l (hand link parcel h) f = hand link parcel (alike_bind R Q k l h f)

module _ {T : Type 0} where
  -- the second is the first without tags
  abbrev pub IsBareOut : Out T → Out (Unit {0}) → Type 0
  IsBareOut out bare = bare ≡ bare_out out

  abbrev pub AreBare : List (Out T) → List (Out (Unit {0})) → Type 0
  AreBare outs bare = bare ≡ map bare_out outs

  abbrev pub IsBareRelay : Relay T → Relay (Unit {0}) → Type 0
  IsBareRelay relay bare = bare ≡ bare_relay relay

  abbrev pub IsBare : Station T → Station (Unit {0}) → Type 0
  IsBare station bare = bare ≡ bare_station station

  -- QUEUES
  first_alike : (most now : ℕ) (out : Out T) (ws : List (Waiting T)) → ((o : Out T) → Alike IsBareOut (flush_turns most now o) (flush_turns most now (bare_out o)))
      → Alike IsBareOut (flush_on (flush_turns most now) (leave_first now out ws)) (flush_on (flush_turns most now) (leave_first now (bare_out out) (map bare_waiting ws)))
  first_alike most now out [] again = done refl
  first_alike most now out (w ∷ ws) again =
      elim (cases_Bool (nat_lt now (may_leave_from out.pace out.last))) [
        | inl y ↦ rw y (done refl)
        | inr n ↦
            rw n
            (elim (cases_Bool (nat_le (life_of w.parcel.octets) (time_charge now w.since))) [
              | inl y ↦ rw y (tell _ (again (with_waits out ws out.last)))
              | inr o ↦ rw o (tell _ (hand out.link (lower_parcel (time_charge now w.since) w.parcel) (again (with_waits out ws (Some now)))))
            ])
      ]

  some_alike : (most now : ℕ) (out : Out T) → Alike IsBareOut (flush_turns most now out) (flush_turns most now (bare_out out))
  some_alike zero now out = done refl
  some_alike (suc most) now out = first_alike most now out out.waits (some_alike most now)

  flush_alike : (now : ℕ) (out : Out T) → Alike IsBareOut (flush now out) (flush now (bare_out out))
  flush_alike now out = subst (λ (k : ℕ). Alike IsBareOut (flush now out) (flush_turns k now (bare_out out))) (sym (length-map out.waits bare_waiting)) (some_alike (length out.waits) now out)

  flush_at_alike : (link now : ℕ) (outs : List (Out T)) → Alike AreBare (flush_at link now outs) (flush_at link now (map bare_out outs))
  flush_at_alike link now [] = done refl
  flush_at_alike link now (out ∷ outs) =
      elim (cases_Bool (out.link == link)) [
        | inl y ↦ rw y (alike_bind IsBareOut AreBare _ _ (flush_alike now out) (λ a b e. done (ap (λ (x : Out (Unit {0})). x ∷ map bare_out outs) e)))
        | inr n ↦ rw n (alike_bind AreBare AreBare _ _ (flush_at_alike link now outs) (λ a b e. done (ap (λ (xs : List (Out (Unit {0}))). bare_out out ∷ xs) e)))
      ]

  flush_links_alike : (now : ℕ) (links : List ℕ) (outs : List (Out T)) → Alike AreBare (flush_links now links outs) (flush_links now links (map bare_out outs))
  flush_links_alike now [] outs = done refl
  flush_links_alike now (link ∷ links) outs =
      alike_bind AreBare AreBare (flush_links now links) (flush_links now links) (flush_at_alike link now outs)
      (λ a b e. subst (λ (xs : List (Out (Unit {0}))). Alike AreBare (flush_links now links a) (flush_links now links xs)) (sym e) (flush_links_alike now links a))

  -- A PACKET ENTERS
  map_more : (ws : List (Waiting T)) (w : Waiting T) → map bare_waiting (ws ++ w ∷ []) ≡ map bare_waiting ws ++ bare_waiting w ∷ []
  map_more [] w = refl
  map_more (x ∷ ws) w = ap (λ (xs : List (Waiting (Unit {0}))). bare_waiting x ∷ xs) (map_more ws w)

  push_bare : (parcel : Parcel T) (now : ℕ) (out : Out T) → push (bare_parcel parcel) now (bare_out out) ≡ ((push parcel now out).0, bare_out (push parcel now out).1)
  push_bare parcel now out =
      elim (cases_Bool (nat_lt (length out.waits) most_on_link)) [
        | inl y ↦ rw (length-map out.waits bare_waiting, y) (ap (λ (ws : List (Waiting (Unit {0}))). let r : Entered × Out (Unit {0}) = (Queued out.link, with_waits (bare_out out) ws out.last) in r) (sym (map_more out.waits _)))
        | inr n ↦ rw (length-map out.waits bare_waiting, n) refl
      ]

  abbrev bare_answer : Entered × List (Out T) → Entered × List (Out (Unit {0}))
  bare_answer r = (r.0, map bare_out r.1)

  on_link_bare : (link : ℕ) (otherwise : Entered) (parcel : Parcel T) (now : ℕ) (outs : List (Out T)) → on_link link otherwise (push (bare_parcel parcel) now) (map bare_out outs) ≡ bare_answer (on_link link otherwise (push parcel now) outs)
  on_link_bare link otherwise parcel now [] = refl
  on_link_bare link otherwise parcel now (out ∷ outs) =
      elim (cases_Bool (out.link == link)) [
        | inl y ↦ rw y (ap (λ (r : Entered × Out (Unit {0})). let t : Entered × List (Out (Unit {0})) = (r.0, r.1 ∷ map bare_out outs) in t) (push_bare parcel now out))
        | inr n ↦ rw n (ap (λ (r : Entered × List (Out (Unit {0}))). let t : Entered × List (Out (Unit {0})) = (r.0, bare_out out ∷ r.1) in t) (on_link_bare link otherwise parcel now outs))
      ]

  enter_by_bare : (route : Option ℕ) (parcel : Parcel T) (now : ℕ) (relay : Relay T) → enter_by route (bare_parcel parcel) now (bare_relay relay) ≡ ((enter_by route parcel now relay).0, bare_relay (enter_by route parcel now relay).1)
  enter_by_bare None parcel now relay = refl
  enter_by_bare (Some link) parcel now relay =
      ap (λ (r : Entered × List (Out (Unit {0}))). let t : Entered × Relay (Unit {0}) = (r.0, with_outs (bare_relay relay) r.1) in t) (on_link_bare link (NoRoute (to_of parcel.octets)) parcel now relay.outs)

  entered_alike : (now : ℕ) (r : Entered × Relay T) → Alike IsBareRelay (flush_entered now r) (flush_entered now (r.0, bare_relay r.1))
  entered_alike now (Queued link, relay) = alike_bind AreBare IsBareRelay _ _ (flush_at_alike link now relay.outs) (λ a b e. done (ap (with_outs (bare_relay relay)) e))
  entered_alike now (NoRoute to, relay) = tell _ (done refl)
  entered_alike now (Full link, relay) = tell _ (done refl)

  pass_on_alike : (parcel : Parcel T) (now : ℕ) (relay : Relay T) → Alike IsBareRelay (pass_on parcel now relay) (pass_on (bare_parcel parcel) now (bare_relay relay))
  pass_on_alike parcel now relay =
      subst (λ (r : Entered × Relay (Unit {0})). Alike IsBareRelay (pass_on parcel now relay) (flush_entered now r)) (sym (enter_by_bare (route_to (to_of parcel.octets) relay.routes) parcel now relay)) (entered_alike now (enter parcel now relay))

  off_alike : (now : ℕ) (host : Host) (frame : Option (List ℕ)) (relay : Relay T) → Alike IsBare (send_off now host frame relay) (send_off now host frame (bare_relay relay))
  off_alike now host None relay = done refl
  off_alike now host (Some octets) relay = ask host octets (λ x. alike_bind IsBareRelay IsBare _ _ (pass_on_alike (record { octets = octets; tag = x }) now relay) (λ a b e. done (ap (station_with host) e)))

  -- THE HOST ACTS
  go_alike : (most : ℕ) (p : Params) (now : ℕ) (next : Option Turn) (st : Station T) → ((s : Station T) → Alike IsBare (do_turns most p now s) (do_turns most p now (bare_station s)))
      → Alike IsBare (go_on (do_turns most p now) now next st) (go_on (do_turns most p now) now next (bare_station st))
  go_alike most p now None st again = done refl
  go_alike most p now (Some turn) st again =
      alike_bind IsBare IsBare (do_turns most p now) (do_turns most p now) (tell turn.told (off_alike now turn.host turn.frame st.relay))
      (λ a b e. subst (λ (s : Station (Unit {0})). Alike IsBare (do_turns most p now a) (do_turns most p now s)) (sym e) (again a))

  turns_alike : (most : ℕ) (p : Params) (now : ℕ) (st : Station T) → Alike IsBare (do_turns most p now st) (do_turns most p now (bare_station st))
  turns_alike zero p now st = done refl
  turns_alike (suc most) p now st = go_alike most p now (next_turn p now st.host) st (turns_alike most p now)

  same_links : (outs : List (Out T)) → map (λ (o : Out (Unit {0})). o.link) (map bare_out outs) ≡ map (λ (o : Out T). o.link) outs
  same_links [] = refl
  same_links (out ∷ outs) = ap (λ (ls : List ℕ). out.link ∷ ls) (same_links outs)

  settle_alike : (p : Params) (now : ℕ) (st : Station T) → Alike IsBare (settle_station p now st) (settle_station p now (bare_station st))
  settle_alike p now st =
      let rest : List (Out (Unit {0})) → Script (Unit {0}) (Station (Unit {0})) = λ outs. do_turns (work p now st.host) p now (station_with st.host (with_outs (bare_relay st.relay) outs)) in
      let mine : List (Out T) → Script T (Station T) = λ outs. do_turns (work p now st.host) p now (station_with st.host (with_outs st.relay outs)) in
      subst (λ (links : List ℕ). Alike IsBare (settle_station p now st) (flush_links now links (map bare_out st.relay.outs) >>= rest)) (sym (same_links st.relay.outs))
      (alike_bind AreBare IsBare mine rest (flush_links_alike now (map (λ (o : Out T). o.link) st.relay.outs) st.relay.outs)
      (λ a b e. subst (λ (outs : List (Out (Unit {0}))). Alike IsBare (mine a) (rest outs)) (sym e) (turns_alike (work p now st.host) p now (station_with st.host (with_outs st.relay a)))))

  -- THE EVENT
  deliver_alike : (p : Params) (now from : ℕ) (r : Result PacketValue LayoutFault) (st : Station T) → Alike IsBare (deliver p now from r st) (deliver p now from r (bare_station st))
  deliver_alike p now from (Err fault) st = tell _ (done refl)
  deliver_alike p now from (Ok v) st = tell _ (off_alike now _ _ st.relay)

  come_alike : (p : Params) (now : ℕ) (b : Bool) (parcel : Parcel T) (st : Station T) → Alike IsBare (come p now b parcel st) (come p now b (bare_parcel parcel) (bare_station st))
  come_alike p now true parcel st = deliver_alike p now (gram_in parcel.octets).from (packet_read (gram_in parcel.octets)) st
  come_alike p now false parcel st = alike_bind IsBareRelay IsBare _ _ (pass_on_alike parcel now st.relay) (λ a b e. done (ap (station_with st.host) e))

  happen_alike : (p : Params) (now : ℕ) (e : Event T) (st : Station T) → Alike IsBare (happen p now e st) (happen p now (bare_event e) (bare_station st))
  happen_alike p now (Send f octets begin end) st = tell _ (done refl)
  happen_alike p now (Read f most) st = tell _ (done refl)
  happen_alike p now Tick st = done refl
  happen_alike p now (Arrive link parcel) st =
      let charge = charge_of link st.relay.ins in
      elim (cases_Bool (nat_le (life_of parcel.octets) charge)) [
        | inl y ↦ rw y (tell _ (done refl))
        | inr o ↦ rw o (come_alike p now (to_of (lower_parcel charge parcel).octets == st.host.me) (lower_parcel charge parcel) st)
      ]

  pub event_alike : (p : Params) (now : ℕ) (e : Event T) (st : Station T) → Alike IsBare (station_event p now e st) (station_event p now (bare_event e) (bare_station st))
  event_alike p now e st =
      alike_bind IsBare IsBare _ _ (settle_alike p now st) (λ a b same.
      subst (λ (s : Station (Unit {0})). Alike IsBare (happen p now e a >>= λ after. settle_station p now after) (happen p now (bare_event e) s >>= λ after. settle_station p now after)) (sym same)
      (alike_bind IsBare IsBare _ _ (happen_alike p now e a) (λ c d k. subst (λ (s : Station (Unit {0})). Alike IsBare (settle_station p now c) (settle_station p now s)) (sym k) (settle_alike p now c))))
