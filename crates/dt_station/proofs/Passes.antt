-- A packet that enters, and the flush after it.
use Rattle.std.proofs.Common.{◌≡◌, ◌∙◌, ℕ, List, Result, Ok, Err, OnOk, OnErr, Option, Some, None, inl, inr, refl, ap, subst, sym}
use Rattle.dt_layout.specs.Carried.{life_of}
use Rattle.dt_relay.specs.Passages.{GoesStraight, IsTurnedAway}
use Rattle.dt_reports.specs.Told.{Told}
use Rattle.dt_reports.specs.declared.reports.Report.TheVariants as report
use Rattle.dt_world_model.specs.declared.links.Entered.{Entered}
use Rattle.dt_world_model.specs.declared.links.Entered.TheVariants.{Queued, NoRoute, Full}
use Rattle.dt_world_model.specs.Host.{Host}
use Rattle.dt_world_model.specs.Relay.{Expired, Goes, Left, Out, Parcel, Relay, enter, enter_by, with_outs}
use Rattle.dt_world_model.specs.Script.{Concludes, Done, Hand, Script, Tell, ◌>>=◌}
use Rattle.dt_world_model.specs.Station.{flush_at, flush_entered, pass_on, send_off, station_with}
use Rattle.dt_station.proofs.Flushes.{flush_expired, flush_goes, flush_none}
use Rattle.dt_station.proofs.Playing.{ends_ask, ends_with}

module _ {T : Type 0} where
  abbrev pub flush_after : ℕ → ℕ → Relay T → Script T (Relay T)
  flush_after link now relay = flush_at link now relay.outs >>= λ outs. Done (with_outs relay outs)

  entered_queued : (now link : ℕ) (r : Entered × Relay T) → Queued link ≡ r.0 → flush_entered now r ≡ flush_after link now r.1
  entered_queued now link (Queued l, relay) h = let e : link ≡ l = cc in rw e refl
  entered_queued now link (NoRoute to, relay) h = absurd (cc)
  entered_queued now link (Full l, relay) h = absurd (cc)

  entered_full : (now link : ℕ) (r : Entered × Relay T) → Full link ≡ r.0 → flush_entered now r ≡ Tell (report.Full link) (Done r.1)
  entered_full now link (Full l, relay) h = let e : link ≡ l = cc in rw e refl
  entered_full now link (NoRoute to, relay) h = absurd (cc)
  entered_full now link (Queued l, relay) h = absurd (cc)

  entered_nowhere : (now to : ℕ) (r : Entered × Relay T) → NoRoute to ≡ r.0 → flush_entered now r ≡ Tell (report.NoRoute to) (Done r.1)
  entered_nowhere now to (NoRoute t, relay) h = let e : to ≡ t = cc in rw e refl
  entered_nowhere now to (Full l, relay) h = absurd (cc)
  entered_nowhere now to (Queued l, relay) h = absurd (cc)

  -- what a call of enter answered says what is left to do
  module _ (parcel : Parcel T) (now : ℕ) (relay after : Relay T) (same : after ≡ (enter parcel now relay).1) where
    pub pass_queued : (link : ℕ) → Queued link ≡ (enter parcel now relay).0 → pass_on parcel now relay ≡ flush_after link now after
    pass_queued link h = rw same (entered_queued now link (enter parcel now relay) h)

    pub pass_full : (link : ℕ) → Full link ≡ (enter parcel now relay).0 → pass_on parcel now relay ≡ Tell (report.Full link) (Done after)
    pass_full link h = rw same (entered_full now link (enter parcel now relay) h)

    pub pass_nowhere : (to : ℕ) → NoRoute to ≡ (enter parcel now relay).0 → pass_on parcel now relay ≡ Tell (report.NoRoute to) (Done after)
    pass_nowhere to h = rw same (entered_nowhere now to (enter parcel now relay) h)

  -- only queues change
  by_others : (link : Option ℕ) (parcel : Parcel T) (now : ℕ) (relay : Relay T) → (enter_by link parcel now relay).1 ≡ with_outs relay (enter_by link parcel now relay).1.outs
  by_others None parcel now relay = refl
  by_others (Some link) parcel now relay = refl

  pub enter_others : (parcel : Parcel T) (now : ℕ) (relay after : Relay T) → after ≡ (enter parcel now relay).1 → after ≡ with_outs relay after.outs
  enter_others parcel now relay after same = rw same (by_others _ parcel now relay)

  -- a packet that goes straight on
  rejoins : (parcel : Parcel T) (now : ℕ) (old new : Relay T) → new ≡ with_outs old new.outs → with_outs (enter parcel now old).1 new.outs ≡ new
  rejoins parcel now old new e =
      let entered : (enter parcel now old).1 ≡ with_outs old (enter parcel now old).1.outs = enter_others parcel now old (enter parcel now old).1 refl in
      ap (λ (r : Relay T). with_outs r new.outs) entered ∙ sym e

  pub straight_goes : (parcel left : Parcel T) (now link : ℕ) (old new : Relay T) → GoesStraight parcel now link (Goes left) old new →
      pass_on parcel now old ≡ Tell (report.Put link (life_of left.octets)) (Hand link left (Done new))
  straight_goes parcel left now link old new s =
      let entered = (enter parcel now old).1 in
      let first : flush_at link now entered.outs ≡ Tell (report.Put link (life_of left.octets)) (Hand link left (flush_at link now new.outs)) =
      flush_goes link now entered.outs new.outs (sym (ap (λ (r : Option (Left T) × List (Out T)). r.1) s.leaves)) left (sym (ap (λ (r : Option (Left T) × List (Out T)). r.0) s.leaves)) in
      let rest : flush_at link now new.outs ≡ Done new.outs =
      flush_none link now new.outs new.outs (sym (ap (λ (r : Option (Left T) × List (Out T)). r.1) s.ends)) (sym (ap (λ (r : Option (Left T) × List (Out T)). r.0) s.ends)) in
      pass_queued parcel now old entered refl link (sym s.enters)
      ∙ ap (λ (f : Script T (List (Out T))). f >>= λ outs. Done (with_outs entered outs)) (first ∙ ap (λ (f : Script T (List (Out T))). Tell (report.Put link (life_of left.octets)) (Hand link left f)) rest)
      ∙ ap (λ (r : Relay T). Tell (report.Put link (life_of left.octets)) (Hand link left (Done r))) (rejoins parcel now old new s.others)

  pub straight_expires : (parcel : Parcel T) (now link : ℕ) (old new : Relay T) → GoesStraight parcel now link Expired old new →
      pass_on parcel now old ≡ Tell (report.ExpiredOut link) (Done new)
  straight_expires parcel now link old new s =
      let entered = (enter parcel now old).1 in
      let first : flush_at link now entered.outs ≡ Tell (report.ExpiredOut link) (flush_at link now new.outs) =
      flush_expired link now entered.outs new.outs (sym (ap (λ (r : Option (Left T) × List (Out T)). r.1) s.leaves)) (sym (ap (λ (r : Option (Left T) × List (Out T)). r.0) s.leaves)) in
      let rest : flush_at link now new.outs ≡ Done new.outs =
      flush_none link now new.outs new.outs (sym (ap (λ (r : Option (Left T) × List (Out T)). r.1) s.ends)) (sym (ap (λ (r : Option (Left T) × List (Out T)). r.0) s.ends)) in
      pass_queued parcel now old entered refl link (sym s.enters)
      ∙ ap (λ (f : Script T (List (Out T))). f >>= λ outs. Done (with_outs entered outs)) (first ∙ ap (λ (f : Script T (List (Out T))). Tell (report.ExpiredOut link) f) rest)
      ∙ ap (λ (r : Relay T). Tell (report.ExpiredOut link) (Done r)) (rejoins parcel now old new s.others)

  -- one that is turned away
  pub away_full : (parcel : Parcel T) (now link : ℕ) (old new : Relay T) → IsTurnedAway parcel now (Full link) old new → pass_on parcel now old ≡ Tell (report.Full link) (Done new)
  away_full parcel now link old new t = ap (flush_entered now) t.answered

  pub away_nowhere : (parcel : Parcel T) (now to : ℕ) (old new : Relay T) → IsTurnedAway parcel now (NoRoute to) old new → pass_on parcel now old ≡ Tell (report.NoRoute to) (Done new)
  away_nowhere parcel now to old new t = ap (flush_entered now) t.answered

module _ {V T : Type 0} (tells : V → Told → V → Type 0) (tags : V → Host → List ℕ → T → V → Type 0) (hands : V → ℕ → Parcel T → V → Type 0) (fails : V → V → Type 0) where
  pub ends_flush : {U E : Type 0} (link now : ℕ) (relay new : Relay T) (v w : V) (result : Result U E) →
      Concludes tells tags hands fails result (flush_at link now relay.outs) v w new.outs → new ≡ with_outs relay new.outs → Concludes tells tags hands fails result (flush_after link now relay) v w new
  ends_flush link now relay new v w result h e = ends_with tells tags hands fails (flush_at link now relay.outs) (with_outs relay) v w new.outs new result h e

  -- a frame that was tagged is passed on
  pub ends_send : {U E : Type 0} (now : ℕ) (host : Host) (octets : List ℕ) (tag : T) (made : Parcel T) (relay new : Relay T) (v m w : V) (result : Result U E) → tags v host octets tag m →
      made.octets ≡ octets → made.tag ≡ tag → Concludes tells tags hands fails result (pass_on made now relay) m w new →
      Concludes tells tags hands fails result (send_off now host (Some octets) relay) v w (station_with host new)
  ends_send now host octets tag made relay new v m w result asked same label h =
      let parcel : made ≡ record { octets = octets; tag = tag } = rw (← same, ← label) refl in
      ends_ask tells tags hands fails host octets (λ tag. pass_on (record { octets = octets; tag = tag }) now relay >>= λ after. Done (station_with host after)) v m w tag (station_with host new) result asked
      (ends_with tells tags hands fails (pass_on (record { octets = octets; tag = tag }) now relay) (station_with host) m w new (station_with host new) result
      (subst (λ (p : Parcel T). Concludes tells tags hands fails result (pass_on p now relay) m w new) parcel h) refl)

  -- what leaves at once is reported and handed out
  pub ends_at_once : {U E : Type 0} (r : Told) (link : ℕ) (given left : Parcel T) (v m w : V) (b : Relay T) (result : Result U E) → tells v r m → given ≡ left → OnOk result (hands m link given w) → OnErr result (fails m w) →
      Concludes tells tags hands fails result (Tell r (Hand link left (Done b))) v w b
  ends_at_once r link given left v m w b (Ok done) told same handed failed = (m, told, (w, subst (λ (p : Parcel T). hands m link p w) same handed, (refl, refl)))
  ends_at_once r link given left v m w b (Err e) told same handed failed = inr (m, told, inr (inl failed))

  -- a packet that was made is that of its octets and its tag
  pub ends_made : {U E : Type 0} (now : ℕ) (octets : List ℕ) (tag : T) (made : Parcel T) (relay new : Relay T) (v w : V) (result : Result U E) → made.octets ≡ octets → made.tag ≡ tag →
      Concludes tells tags hands fails result (pass_on made now relay) v w new → Concludes tells tags hands fails result (pass_on (record { octets = octets; tag = tag }) now relay) v w new
  ends_made now octets tag made relay new v w result same label h =
      let parcel : made ≡ record { octets = octets; tag = tag } = rw (← same, ← label) refl in
      subst (λ (p : Parcel T). Concludes tells tags hands fails result (pass_on p now relay) v w new) parcel h
