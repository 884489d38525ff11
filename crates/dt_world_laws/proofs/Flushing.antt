-- What waits leaves as copies: the packets stay what they are, and the ledger stays.
use Rattle.std.proofs.Common.{ℕ, zero, suc, ◌+◌, ◌-◌, ◌<◌, ◌≡◌, ◌==◌, false, List, [], ◌∷◌, length, Option, Some, None, refl, sym, subst, inl, inr, ◌∙◌, arith}
use Rattle.std.specs.Prelude.{nat_le, nat_lt}
use Rattle.std.specs.List.{All}
use Rattle.std.proofs.lemmas.Bool.{cases_Bool}
use Rattle.std.proofs.lemmas.Bool.Decides.{nat_tests}
use Rattle.std.proofs.lemmas.List.Elements.{All-nil, All-append, All-cons, All-head, All-tail}
use Rattle.dt_units.specs.declared.parameters.Params.{Params}
use Rattle.dt_units.specs.declared.endpoints.Flow.{Flow}
use Rattle.dt_reports.specs.declared.reports.Report.TheVariants as words
use Rattle.dt_layout.specs.Spelling.{Carries, DeltagramValue}
use Rattle.dt_layout.specs.Reading.{gram_in, packet_in}
use Rattle.dt_layout.specs.Carried.{life_of, to_of, lowered, with_less_life}
use Rattle.dt_layout.proofs.CarriedLemmas.{gram_in_is, lowered_in, lowers}
use Rattle.dt_flow_model.specs.Carried.{leave_charge}
use Rattle.dt_flow_model.specs.Facts.{FitsSome}
use Rattle.dt_flow_model.specs.Flow.{FlowState}
use Rattle.dt_flow_laws.proofs.Ages.{leaves}
use Rattle.dt_world_model.specs.declared.links.Entered.{Entered}
use Rattle.dt_world_model.specs.declared.links.Entered.TheVariants.{Queued, NoRoute, Full}
use Rattle.dt_flow_model.specs.Frames.{Mark, flow_of, marked_packet}
use Rattle.dt_world_model.specs.Relay.{Parcel, Waiting, Out, Relay, leave_first, may_leave_from, time_charge, lower_parcel, with_waits, with_outs, push, on_link, enter, enter_by, route_to, most_on_link}
use Rattle.dt_world_model.specs.Script.{Done, play}
use Rattle.dt_world_model.specs.Station.{flush, flush_on, flush_turns, flush_at, flush_links, flush_entered, pass_on}
use Rattle.dt_world_model.specs.World.{Copy, Noted, world_handler, note_copy, note_told}
use Rattle.dt_world_model.specs.Ledgers.{Occasion}
use Rattle.dt_world_model.specs.WorldFacts.{IsPacket, IsWaiting, IsCopy, AllOuts, carried_of}
use Rattle.dt_world_laws.proofs.Plays.{play_then}

lt_by : (m n : ℕ) → nat_le m n ≡ false → n < m
lt_by m n h = grind (arith, nat_tests)

-- the same packet with less life
pub lowered_packet : (p : Params) (views : Flow → FlowState) (parcel : Parcel Mark) (by : ℕ) → by < life_of parcel.octets → IsPacket p views parcel → IsPacket p views (lower_parcel by parcel)
lowered_packet p views parcel by below h =
    let d = gram_in parcel.octets in
    let less : gram_in (lowered by parcel.octets) ≡ with_less_life by d = gram_in_is _ _ (lowered_in by parcel.octets h.gram below) in
    record {
      gram = (lowers by parcel.octets h.gram below).reads;
      carries = subst (λ (e : DeltagramValue). Carries e (packet_in e.body)) (sym less) (record { protocol = h.carries.protocol; pack = h.carries.pack });
      fits = subst (λ (e : DeltagramValue). FitsSome p (views (flow_of e.from e.to (packet_in e.body))) (marked_packet parcel.tag (packet_in e.body))) (sym less) h.fits;
    }

module _ (p : Params) (a : Occasion) (views : Flow → FlowState) (z : ℕ) where
  abbrev pub Copies : List Copy → Type 0
  Copies cs = All (IsCopy p a.now views) cs

  abbrev pub Waitings : List (Waiting Mark) → Type 0
  Waitings ws = All (IsWaiting p a.now z views) ws

  abbrev pub Outs : List (Out Mark) → Type 0
  Outs outs = AllOuts (IsWaiting p a.now z views) outs

  leaving : (w : Waiting Mark) (link : ℕ) → IsWaiting p a.now z views w → nat_le (life_of w.parcel.octets) (time_charge (a.now + z) w.since) ≡ false
      → IsCopy p a.now views (record { link = link; parcel = lower_parcel (time_charge (a.now + z) w.since) w.parcel; put = a.now; lost = false })
  leaving w link h alive =
      let below : time_charge (a.now + z) w.since < life_of w.parcel.octets = lt_by _ _ alive in
      let same : time_charge (a.now + z) w.since ≡ leave_charge a.now (carried_of w.parcel h.since) = omega (arith, h.reading) in
      let age = leaves p.mpl a.now (carried_of w.parcel h.since) h.age (rw same at below) in
      let life : life_of (lowered (time_charge (a.now + z) w.since) w.parcel.octets) ≡ life_of w.parcel.octets - time_charge (a.now + z) w.since = (lowers _ w.parcel.octets h.packet.gram below).life in
      record {
        age = record { born = age.born; since = age.since; alive = omega (arith, life, age.alive, same); age = omega (arith, life, age.age, same) };
        packet = lowered_packet p views w.parcel (time_charge (a.now + z) w.since) below h.packet;
      }

  -- a part of an event that leaves the ledger alone
  pub record Flushed {A : Type 0} (d : Noted) (fits : A → Type 0) (r : Noted × A) : Type 0 where
    pub ledgers : r.0.ledgers ≡ d.ledgers
    pub copies : Copies r.0.copies
    pub rest : fits r.1

  FlushedOut : Noted → Noted × Out Mark → Type 0
  FlushedOut d r = Flushed d (λ out. Waitings out.waits) r

  flush_first : (most : ℕ) (out : Out Mark) (ws : List (Waiting Mark)) (d : Noted) → Waitings ws → Waitings out.waits → Copies d.copies
      → ((o : Out Mark) (d' : Noted) → Waitings o.waits → Copies d'.copies → FlushedOut d' (play (world_handler a) (flush_turns most (a.now + z) o) d'))
      → FlushedOut d (play (world_handler a) (flush_on (flush_turns most (a.now + z)) (leave_first (a.now + z) out ws)) d)
  unfolding FlushedOut
  flush_first most out [] d h held c again = record { ledgers = refl; copies = c; rest = held }
  flush_first most out (w ∷ ws) d h held c again =
      elim (cases_Bool (nat_lt (a.now + z) (may_leave_from out.pace out.last))) [
        | inl y ↦ rw y (record { ledgers = refl; copies = c; rest = held })
        | inr n ↦
            rw n
            (elim (cases_Bool (nat_le (life_of w.parcel.octets) (time_charge (a.now + z) w.since))) [
              | inl y ↦ rw y (let k = again (with_waits out ws out.last) (note_told a (words.ExpiredOut out.link) d) (All-tail (IsWaiting p a.now z views) w ws h) c in record { ledgers = k.ledgers; copies = k.copies; rest = k.rest })
              | inr o ↦
                  rw o
                  (let charge = time_charge (a.now + z) w.since in
                  let parcel = lower_parcel charge w.parcel in
                  let d' = note_copy a out.link parcel (note_told a (words.Put out.link (life_of parcel.octets)) d) in
                  let one = leaving w out.link (All-head (IsWaiting p a.now z views) w ws h) o in
                  let k = again (with_waits out ws (Some (a.now + z))) d' (All-tail (IsWaiting p a.now z views) w ws h) (All-append (IsCopy p a.now views) d.copies _ c (All-cons (IsCopy p a.now views) _ [] one (All-nil (IsCopy p a.now views)))) in
                  record { ledgers = k.ledgers; copies = k.copies; rest = k.rest })
            ])
      ]

  flush_turns_keep : (most : ℕ) (out : Out Mark) (d : Noted) → Waitings out.waits → Copies d.copies → FlushedOut d (play (world_handler a) (flush_turns most (a.now + z) out) d)
  unfolding FlushedOut
  flush_turns_keep zero out d h c = record { ledgers = refl; copies = c; rest = h }
  flush_turns_keep (suc most) out d h c = flush_first most out out.waits d h h c (flush_turns_keep most)

  pub flush_at_keeps : (link : ℕ) (outs : List (Out Mark)) (d : Noted) → Outs outs → Copies d.copies → Flushed d Outs (play (world_handler a) (flush_at link (a.now + z) outs) d)
  unfolding FlushedOut
  flush_at_keeps link [] d h c = record { ledgers = refl; copies = c; rest = tt }
  flush_at_keeps link (out ∷ outs) d h c =
      elim (cases_Bool (out.link == link)) [
        | inl y ↦
            rw y
            (let k = flush_turns_keep (length out.waits) out d h.0 c in
            play_then (world_handler a) (Flushed d Outs) (flush (a.now + z) out) (λ after. Done (after ∷ outs)) d (record { ledgers = k.ledgers; copies = k.copies; rest = (k.rest, h.1) }))
        | inr n ↦
            rw n
            (let k = flush_at_keeps link outs d h.1 c in
            play_then (world_handler a) (Flushed d Outs) (flush_at link (a.now + z) outs) (λ rest. Done (out ∷ rest)) d (record { ledgers = k.ledgers; copies = k.copies; rest = (h.0, k.rest) }))
      ]

  pub flush_links_keeps : (links : List ℕ) (outs : List (Out Mark)) (d : Noted) → Outs outs → Copies d.copies → Flushed d Outs (play (world_handler a) (flush_links (a.now + z) links outs) d)
  flush_links_keeps [] outs d h c = record { ledgers = refl; copies = c; rest = h }
  flush_links_keeps (link ∷ links) outs d h c =
      let r = play (world_handler a) (flush_at link (a.now + z) outs) d in
      let k = flush_at_keeps link outs d h c in
      let l = flush_links_keeps links r.1 r.0 k.rest k.copies in
      play_then (world_handler a) (Flushed d Outs) (flush_at link (a.now + z) outs) (λ rest. flush_links (a.now + z) links rest) d (record { ledgers = l.ledgers ∙ k.ledgers; copies = l.copies; rest = l.rest })

  -- a packet enters a queue
  pushed : (parcel : Parcel Mark) (now : ℕ) (out : Out Mark) → Waitings out.waits → IsWaiting p a.now z views (record { parcel = parcel; since = now }) → Waitings (push parcel now out).1.waits
  pushed parcel now out h one =
      elim (cases_Bool (nat_lt (length out.waits) most_on_link)) [
        | inl y ↦ rw y (All-append (IsWaiting p a.now z views) out.waits _ h (All-cons (IsWaiting p a.now z views) _ [] one (All-nil (IsWaiting p a.now z views))))
        | inr n ↦ rw n h
      ]

  on_link_pushed : (link : ℕ) (otherwise : Entered) (parcel : Parcel Mark) (now : ℕ) (outs : List (Out Mark)) → Outs outs → IsWaiting p a.now z views (record { parcel = parcel; since = now }) → Outs (on_link link otherwise (push parcel now) outs).1
  on_link_pushed link otherwise parcel now [] h one = tt
  on_link_pushed link otherwise parcel now (out ∷ outs) h one =
      elim (cases_Bool (out.link == link)) [
        | inl y ↦ rw y (pushed parcel now out h.0 one, h.1)
        | inr n ↦ rw n (h.0, on_link_pushed link otherwise parcel now outs h.1 one)
      ]

  enter_keeps : (route : Option ℕ) (parcel : Parcel Mark) (now : ℕ) (relay : Relay Mark) → Outs relay.outs → IsWaiting p a.now z views (record { parcel = parcel; since = now }) → Outs (enter_by route parcel now relay).1.outs
  enter_keeps None parcel now relay h one = h
  enter_keeps (Some link) parcel now relay h one = on_link_pushed link (NoRoute (to_of parcel.octets)) parcel now relay.outs h one

  -- the relay's links are as they were
  abbrev pub KeepsRelay : Relay Mark → Relay Mark → Type 0
  KeepsRelay relay after = Outs after.outs × (after.ins ≡ relay.ins) × (after.routes ≡ relay.routes)

  entered_keeps : (r : Entered × Relay Mark) (d : Noted) → Outs r.1.outs → Copies d.copies → Flushed d (KeepsRelay r.1) (play (world_handler a) (flush_entered (a.now + z) r) d)
  entered_keeps (Queued link, relay) d h c =
      let k = flush_at_keeps link relay.outs d h c in
      play_then (world_handler a) (Flushed d (KeepsRelay relay)) (flush_at link (a.now + z) relay.outs) (λ outs. Done (with_outs relay outs)) d (record { ledgers = k.ledgers; copies = k.copies; rest = (k.rest, refl, refl) })
  entered_keeps (NoRoute to, relay) d h c = record { ledgers = refl; copies = c; rest = (h, refl, refl) }
  entered_keeps (Full link, relay) d h c = record { ledgers = refl; copies = c; rest = (h, refl, refl) }

  enter_relay : (route : Option ℕ) (parcel : Parcel Mark) (now : ℕ) (relay : Relay Mark) → ((enter_by route parcel now relay).1.ins ≡ relay.ins) × ((enter_by route parcel now relay).1.routes ≡ relay.routes)
  enter_relay None parcel now relay = (refl, refl)
  enter_relay (Some link) parcel now relay = (refl, refl)

  pub pass_on_keeps : (parcel : Parcel Mark) (relay : Relay Mark) (d : Noted) → Outs relay.outs → Copies d.copies → IsWaiting p a.now z views (record { parcel = parcel; since = a.now + z })
      → Flushed d (KeepsRelay relay) (play (world_handler a) (pass_on parcel (a.now + z) relay) d)
  pass_on_keeps parcel relay d h c one =
      let route = route_to (to_of parcel.octets) relay.routes in
      let k = entered_keeps (enter parcel (a.now + z) relay) d (enter_keeps route parcel (a.now + z) relay h one) c in
      let e = enter_relay route parcel (a.now + z) relay in
      record { ledgers = k.ledgers; copies = k.copies; rest = (k.rest.0, k.rest.1 ∙ e.0, k.rest.2 ∙ e.1) }
