-- A station's event, played before the ledger, keeps the facts of every flow.
use Rattle.std.proofs.Common.{ℕ, ◌-◌, ◌≤◌, ◌≡◌, None, refl, false}
use Rattle.dt_items.specs.Unread.{marked}
use Rattle.dt_units.specs.Limits.{IsWithinLimits}
use Rattle.dt_flow_model.specs.Carried.{Flies}
use Rattle.dt_flow_model.specs.Frames.{Mark}
use Rattle.dt_world_model.specs.Host.{next_turn}
use Rattle.dt_units.specs.Flows.{IsFlow}
use Rattle.dt_world_model.specs.Relay.{Parcel, charge_of}
use Rattle.dt_world_model.specs.Script.{play, ◌>>=◌}
use Rattle.dt_world_model.specs.Station.{Station, Event, Send, Read, Tick, Arrive, happen, settle_station, station_event}
use Rattle.dt_world_laws.proofs.Books.{Nothing, cause_of}
use Rattle.dt_world_model.specs.World.{World, Noted, world_handler}
use Rattle.dt_world_model.specs.WorldFacts.{IsPacket, carried_of}
use Rattle.dt_world_laws.proofs.Plays.{play_then}
use Rattle.dt_world_laws.proofs.Views.{views}
use Rattle.dt_world_laws.proofs.Good.{Good, Leads, leads_then, packet_on, reading, stage, stays}
use Rattle.dt_world_laws.proofs.Turns.{settle_leads}
use Rattle.dt_world_laws.proofs.Settled.{settle_done}
use Rattle.dt_world_laws.proofs.Happens.{marked_no_run, read_leads, send_leads}
use Rattle.dt_world_laws.proofs.Delivery.{arrival_leads}

-- what an event needs: a send is of a flow that begins here, a read of one that ends here, and an arrival is of a copy that was on its link no longer than its charge
pub record IsArrival (w : World) (n : ℕ) (st : Station Mark) (d : Noted) (link : ℕ) (parcel : Parcel Mark) : Type 0 where
  pub put : ℕ
  pub age : Flies w.params.mpl w.now (carried_of parcel put)
  pub packet : IsPacket w.params (views w n st.host d.ledgers) parcel
  pub held : w.now - put ≤ charge_of link st.relay.ins

abbrev pub Possible : (w : World) (n : ℕ) (st : Station Mark) (d : Noted) → Event Mark → Type 0
Possible w n st d (Send f octets begin end) = IsFlow f × (f.from.0 ≡ n)
Possible w n st d (Read f most) = IsFlow f × (f.to.0 ≡ n)
Possible w n st d Tick = Unit {0}
Possible w n st d (Arrive link parcel) = IsArrival w n st d link parcel

module _ (w : World) (n : ℕ) (limits : IsWithinLimits w.params) where
  pub happens : (e : Event Mark) (st : Station Mark) (d : Noted) → Good w n (cause_of e) st d → next_turn w.params (reading w n (cause_of e)) st.host ≡ None → Possible w n st d e
      → Leads w n (cause_of e) st d (play (world_handler (stage w n (cause_of e))) (happen w.params (reading w n (cause_of e)) e st) d)
  happens (Send f octets begin end) st d good idle can = send_leads w n (marked octets begin end false) limits st d good f can.0 can.1 (marked_no_run octets begin end) octets begin end refl
  happens (Read f most) st d good idle can = read_leads w n Nothing limits st d good f can.0 can.1 most
  happens Tick st d good idle can = stays w n Nothing st d good
  happens (Arrive link parcel) st d good idle can = arrival_leads w n limits st d parcel can.put link can.age can.packet good idle can.held

  -- what an event needs it has still when the station has settled
  pub possible_then : (e : Event Mark) (st : Station Mark) (d : Noted) (r : Noted × Station Mark) → Leads w n (cause_of e) st d r → Possible w n st d e → Possible w n r.1 r.0 e
  possible_then (Send f octets begin end) st d r l can = can
  possible_then (Read f most) st d r l can = can
  possible_then Tick st d r l can = can
  possible_then (Arrive link parcel) st d r l can =
      record {
        put = can.put;
        age = can.age;
        packet = packet_on w.params (views w n st.host d.ledgers) (views w n r.1.host r.0.ledgers) parcel l.on can.packet;
        held = rw (l.ins) (can.held);
      }

  -- the event itself, where the station has settled before it
  pub happens_then : (e : Event Mark) (st : Station Mark) (d : Noted) → Good w n (cause_of e) st d → Possible w n st d e
      → let c = cause_of e in let r = play (world_handler (stage w n c)) (settle_station w.params (reading w n c) st) d in Leads w n c r.1 r.0 (play (world_handler (stage w n c)) (happen w.params (reading w n c) e r.1) r.0)
  happens_then e st d good can =
      let c = cause_of e in
      let r = play (world_handler (stage w n c)) (settle_station w.params (reading w n c) st) d in
      let one = settle_leads w n c limits st d good in
      happens e r.1 r.0 one.good (settle_done w n c limits st d good) (possible_then e st d r one can)

  pub event_leads : (e : Event Mark) (st : Station Mark) (d : Noted) → Good w n (cause_of e) st d → Possible w n st d e → Leads w n (cause_of e) st d (play (world_handler (stage w n (cause_of e))) (station_event w.params (reading w n (cause_of e)) e st) d)
  event_leads e st d good can =
      let c = cause_of e in
      let m = world_handler (stage w n c) in
      let now = reading w n c in
      let r1 = play m (settle_station w.params now st) d in
      let one = settle_leads w n c limits st d good in
      let r2 = play m (happen w.params now e r1.1) r1.0 in
      let two = happens_then e st d good can in
      let three = settle_leads w n c limits r2.1 r2.0 two.good in
      let inner : Leads w n c r1.1 r1.0 (play m (happen w.params now e r1.1 >>= λ after. settle_station w.params now after) r1.0) =
      play_then m (Leads w n c r1.1 r1.0) (happen w.params now e r1.1) (settle_station w.params now) r1.0 (leads_then w n c r1.1 r1.0 r2 _ two three) in
      play_then m (Leads w n c st d) (settle_station w.params now st) (λ before. happen w.params now e before >>= λ after. settle_station w.params now after) d (leads_then w n c st d r1 _ one inner)

  -- and no act is due when it ends
  pub event_done : (e : Event Mark) (st : Station Mark) (d : Noted) → Good w n (cause_of e) st d → Possible w n st d e → next_turn w.params (reading w n (cause_of e)) (play (world_handler (stage w n (cause_of e))) (station_event w.params (reading w n (cause_of e)) e st) d).1.host ≡ None
  event_done e st d good can =
      let c = cause_of e in
      let m = world_handler (stage w n c) in
      let now = reading w n c in
      let Idle : Noted × Station Mark → Type 0 = λ r. next_turn w.params now r.1.host ≡ None in
      let r1 = play m (settle_station w.params now st) d in
      let r2 = play m (happen w.params now e r1.1) r1.0 in
      let two = happens_then e st d good can in
      let done = settle_done w n c limits r2.1 r2.0 two.good in
      let inner : Idle (play m (happen w.params now e r1.1 >>= λ after. settle_station w.params now after) r1.0) = play_then m Idle (happen w.params now e r1.1) (settle_station w.params now) r1.0 done in
      play_then m Idle (settle_station w.params now st) (λ before. happen w.params now e before >>= λ after. settle_station w.params now after) d inner
