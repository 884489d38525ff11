-- A copy comes to a station: it is charged, passed on, or read and given to the host.
use Rattle.std.proofs.Common.{ℕ, ◌+◌, ◌-◌, ◌^◌, ◌<◌, ◌≤◌, ◌≡◌, ◌==◌, Bool, true, false, List, [], Option, Some, None, Ok, Result, refl, sym, ap, subst, inl, inr, ◌∙◌, arith}
use Rattle.std.specs.Prelude.{nat_le, nat_lt, option_and_then}
use Rattle.std.proofs.lemmas.Bool.{cases_Bool}
use Rattle.std.proofs.lemmas.Bool.Decides.{nat_tests}
use Rattle.dt_units.specs.declared.endpoints.Flow.{Flow}
use Rattle.dt_units.specs.Limits.{IsWithinLimits}
use Rattle.dt_reports.specs.declared.reports.Report.TheVariants as words
use Rattle.dt_layout.specs.declared.faults.LayoutFault.{LayoutFault}
use Rattle.dt_layout.specs.Spelling.{Carries, DeltagramValue, HasPorts, KeepsRules, PacketValue, Data, Ack, Meet, Close}
use Rattle.dt_items.specs.Unread.{marked}
use Rattle.dt_layout.specs.Reading.{gram_in, packet_in, packet_read}
use Rattle.dt_layout.specs.Carried.{life_of, to_of, with_less_life}
use Rattle.dt_layout.proofs.CarriedLemmas.{gram_in_is, lowered_in, lowers, to_of-gram_in}
use Rattle.dt_layout.proofs.PackLemmas.{packet_is_read}
use Rattle.dt_flow_model.specs.declared.arrivals.Arrived.{Arrived}
use Rattle.dt_flow_model.specs.declared.arrivals.Arrived.TheVariants as A
use Rattle.dt_flow_model.specs.Acting.{acked_flow, after_ack}
use Rattle.dt_flow_model.specs.Carried.{Flies}
use Rattle.dt_flow_model.specs.Facts.{Fits, FitsSome}
use Rattle.dt_flow_model.specs.Flow.{FlowState, Packet, sender_reading}
use Rattle.dt_flow_model.specs.Flow as flows
use Rattle.dt_flow_model.specs.SendRecord.{Segment, SendRecord, acknowledged, after_split, on_ack, record_acked}
use Rattle.dt_flow_laws.proofs.Ages.{admitted_waits, arrives_alive}
use Rattle.dt_flow_laws.proofs.ArrivalSteps.{ack_arrives}
use Rattle.dt_flow_laws.proofs.Laws.{split_where}
use Rattle.dt_flow_model.specs.Frames.{Mark, flow_between, flow_of, flow_packet, marked_packet, value_in}
use Rattle.dt_world_model.specs.Host.{Host, IsHost, IsSender, ack_answer, arrive, comes, next_turn, sender_at, told_arrival, host_with_sender}
use Rattle.dt_flow_model.specs.Frames.{reply_frame}
use Rattle.dt_world_model.specs.Relay.{Parcel, charge_of, lower_parcel}
use Rattle.dt_world_model.specs.Script.{play, Tell}
use Rattle.dt_world_model.specs.Station.{Station, Arrive, come, deliver, happen, send_off}
use Rattle.dt_world_laws.proofs.Books.{Brings, Brought, Cause}
use Rattle.dt_world_model.specs.World.{World, Noted, world_handler, note_told, placed}
use Rattle.dt_world_model.specs.WorldFacts.{IsPacket, IsWaiting, carried_of}
use Rattle.dt_world_model.proofs.Tables.{nat_is}
use Rattle.dt_world_laws.proofs.Views.{views}
use Rattle.dt_world_laws.proofs.Flushing.{lowered_packet}
use Rattle.dt_world_laws.proofs.Good.{Good, Kept, Leads, Moves, good_moves, moves_lifts, moves_on, pass_on_leads, reading, stage}
use Rattle.dt_world_laws.proofs.Turns.{host_with, sender_apart, sender_is, sender_moved, sent_facts, sent_state, state_is}
use Rattle.dt_flow_model.proofs.Records.{acked_kept}
use Rattle.dt_world_laws.proofs.Settled.{receivers_current, sender_idle}
use Rattle.dt_world_laws.proofs.Happens.{silent}
use Rattle.dt_world_laws.proofs.Arrivals.{data_leads, kept_of, meet_leads}

-- ACKNOWLEDGEMENTS

abbrev first_of : SendRecord → Option (SendRecord × ℕ) → SendRecord
first_of x None = x
first_of x (Some r) = r.0

module _ (w : World) (n : ℕ) (q : Packet) (limits : IsWithinLimits w.params) (st : Station Mark) (d : Noted) (good : Good w n (Brought q) st d) (f : Flow) (from_port to_port number window : ℕ) (kind : q.kind ≡ flows.Ack window) (num : q.number ≡ number) (alive : w.now < q.birth + w.params.mpl) (fits : Fits w.params (views w n st.host d.ledgers f) q)
    (awake : nat_lt (reading w n (Brought q)) st.host.until ≡ false) (idle : next_turn w.params (reading w n (Brought q)) st.host ≡ None) (small : window ≤ 65536) where
  abbrev v : PacketValue
  v = Ack from_port to_port number window

  abbrev Comes : Arrived × Host → Type 0
  Comes r = Leads w n (Brought q) st d (play (world_handler (stage w n (Brought q))) (Tell (told_arrival f v r.0) (send_off (reading w n (Brought q)) r.1 (reply_frame w.params f r.0) st.relay)) d)

  ignored : Comes (A.Dropped, st.host)
  ignored = silent w n (Brought q) st d (words.Ignored f number window) good refl

  acked_is : (x x' : SendRecord) (count : ℕ) (o : Option (List Segment × List Segment)) → IsSender w.params st.host.me f x → acknowledged w.params number x.left x.outstanding ≡ o → after_split x window o ≡ Some (x', count) → IsSender w.params st.host.me f x'
  acked_is x x' count None h e k = absurd cc
  acked_is x x' count (Some (gone, rest)) h e k =
      let split = split_where w.params number x gone rest e in
      let t : IsSender w.params st.host.me f (record_acked x gone rest window) = record { flow = h.flow; from = h.from; kept = acked_kept w.params x gone rest window h.kept split.0 small } in
      let same : record_acked x gone rest window ≡ x' = ap (first_of x) k in
      subst (λ (y : SendRecord). IsSender w.params st.host.me f y) same t

  settled : (x : SendRecord) (there : sender_at st.host f ≡ Some x) (x' : SendRecord) (count : ℕ) → on_ack w.params x number window ≡ Some (x', count) → Comes (A.Acked count, host_with_sender st.host f (Some x'))
  settled x there x' count e =
      let s = sent_state w n (Brought q) limits st d good f x there in
      let told = words.Settled f count window in
      let host = host_with_sender st.host f (Some x') in
      let noted = note_told (stage w n (Brought q)) told d in
      let before = state_is w n (Brought q) limits st d good f x there in
      let fit : Fits w.params s q = subst (λ (t : FlowState). Fits w.params t q) before fits in
      let k0 : Kept w.params s (after_ack w.params s q window) [] = kept_of w.params s (after_ack w.params s q window) q [] limits (sent_facts w n (Brought q) limits st d good f x there) fit (ack_arrives w.params s q window limits kind alive (sender_idle w.params (reading w n (Brought q)) st.host f x idle there) (sent_facts w n (Brought q) limits st d good f x there) fit) in
      let k1 : Kept w.params s (acked_flow s (on_ack w.params x q.number window)) [] = rw awake at k0 in
      let k2 : Kept w.params s (acked_flow s (on_ack w.params x number window)) [] = subst (λ (m : ℕ). Kept w.params s (acked_flow s (on_ack w.params x m window)) []) num k1 in
      let k3 : Kept w.params s (acked_flow s (Some (x', count))) [] = subst (λ (o : Option (SendRecord × ℕ)). Kept w.params s (acked_flow s o) []) e k2 in
      let after : views w n host noted.ledgers f ≡ acked_flow s (Some (x', count)) = sender_moved w n (Brought q) limits st d good f x there (Some x') told (inl (_, refl)) in
      let m : Moves w.params (views w n st.host d.ledgers) (views w n host noted.ledgers) f [] =
      record {
        kept = subst (λ (t : FlowState). Kept w.params t (views w n host noted.ledgers f) []) (sym before) (subst (λ (t : FlowState). Kept w.params s t []) (sym after) k3);
        others = λ g apart. sender_apart w n (Brought q) limits st d good f x there (Some x') told g (inl (_, refl)) apart;
      } in
      let sender = acked_is x x' count (acknowledged w.params number x.left x.outstanding) (sender_is w n (Brought q) limits st d good f x there) refl e in
      let is : IsHost w.params host = host_with w n (Brought q) limits st d good f x there (Some x') (λ y k. let same : x' ≡ y = cc in subst (λ (y : SendRecord). IsSender w.params st.host.me f y) same sender) in
      record {
        good = good_moves w n (Brought q) st d noted host f [] good is good.me refl m;
        on = moves_on w.params (views w n st.host d.ledgers) (views w n host noted.ledgers) f [] m;
        lifts = moves_lifts w.params (views w n st.host d.ledgers) (views w n host noted.ledgers) f [] m;
        until = refl;
        ins = refl;
        routes = refl;
      }

  by_answer : (x : SendRecord) → sender_at st.host f ≡ Some x → (o : Option (SendRecord × ℕ)) → on_ack w.params x number window ≡ o → Comes (ack_answer st.host f o)
  by_answer x there None e = ignored
  by_answer x there (Some (x', count)) e = settled x there x' count e

  by_sender : (o : Option SendRecord) → sender_at st.host f ≡ o → Comes (ack_answer st.host f (option_and_then (λ x. on_ack w.params x number window) o))
  by_sender None e = ignored
  by_sender (Some x) e = by_answer x e (on_ack w.params x number window) refl

  pub ack_leads : Comes (comes w.params (reading w n (Brought q)) f v st.host)
  ack_leads = by_sender (sender_at st.host f) refl

-- A PACKET FOR THE HOST'S OWN NODE

module _ (w : World) (n : ℕ) (mark : Mark) (limits : IsWithinLimits w.params) (st : Station Mark) (d : Noted) (from : ℕ) (from_node : from < 2 ^ 32) (my_node : st.host.me < 2 ^ 32) (alive : w.now < mark.birth + w.params.mpl) (idle : next_turn w.params (w.now + (placed w n).zero) st.host ≡ None) where
  abbrev Arrives : PacketValue → Type 0
  Arrives v = let c = Brings mark v in let f = flow_of from st.host.me v in let r = arrive w.params (reading w n c) from v st.host in
      Leads w n c st d (play (world_handler (stage w n c)) (Tell (told_arrival f v r.0) (send_off (reading w n c) r.1 (reply_frame w.params f r.0) st.relay)) d)

  awake_leads : (v : PacketValue) → HasPorts v → KeepsRules v → Good w n (Brings mark v) st d → FitsSome w.params (views w n st.host d.ledgers (flow_of from st.host.me v)) (marked_packet mark v) → nat_lt (w.now + (placed w n).zero) st.host.until ≡ false
      → let c = Brings mark v in let f = flow_of from st.host.me v in let r = comes w.params (reading w n c) f v st.host in
      Leads w n c st d (play (world_handler (stage w n c)) (Tell (told_arrival f v r.0) (send_off (reading w n c) r.1 (reply_frame w.params f r.0) st.relay)) d)
  awake_leads (Data from_port to_port number drf begin end octets) ports rules good fits awake =
      let f = flow_between from from_port st.host.me to_port in
      data_leads w n (flow_packet mark (flows.Data drf (marked octets begin end false)) number) limits st d good f (record { from = from_node; from_port = ports.0; to = my_node; to_port = ports.1 }) good.me from_port to_port number drf begin end octets refl refl rules alive
      (receivers_current w.params (w.now + (placed w n).zero) st.host f idle) fits awake
  awake_leads (Meet from_port to_port number) ports rules good fits awake =
      let f = flow_between from from_port st.host.me to_port in
      meet_leads w n (flow_packet mark flows.Meet number) limits st d good f (record { from = from_node; from_port = ports.0; to = my_node; to_port = ports.1 }) good.me from_port to_port number refl refl rules alive
      (receivers_current w.params (w.now + (placed w n).zero) st.host f idle) fits awake
  awake_leads (Ack from_port to_port number window) ports rules good fits awake =
      ack_leads w n (flow_packet mark (flows.Ack window) number) limits st d good (flow_between st.host.me to_port from from_port) from_port to_port number window refl refl alive fits awake idle rules.1
  awake_leads (Close from_port to_port number) ports rules good fits awake = absurd fits

  arrive_leads : (v : PacketValue) → HasPorts v → KeepsRules v → Good w n (Brings mark v) st d → FitsSome w.params (views w n st.host d.ledgers (flow_of from st.host.me v)) (marked_packet mark v) → Arrives v
  arrive_leads v ports rules good fits =
      let c = Brings mark v in
      elim (cases_Bool (nat_lt (w.now + (placed w n).zero) st.host.until)) [
        | inl y ↦ rw y (silent w n c st d (words.Quiet st.host.until) good refl)
        | inr o ↦ rw o (awake_leads v ports rules good fits o)
      ]

  -- what came reads as a packet
  deliver_leads : (v : PacketValue) (r : Result PacketValue LayoutFault) → r ≡ Ok v → HasPorts v → KeepsRules v → Good w n (Brings mark v) st d → FitsSome w.params (views w n st.host d.ledgers (flow_of from st.host.me v)) (marked_packet mark v)
      → let c = Brings mark v in Leads w n c st d (play (world_handler (stage w n c)) (deliver w.params (reading w n c) from r st) d)
  deliver_leads v r e ports rules good fits =
      let c = Brings mark v in
      subst (λ (r : Result PacketValue LayoutFault). Leads w n c st d (play (world_handler (stage w n c)) (deliver w.params (reading w n c) from r st) d)) (sym e) (arrive_leads v ports rules good fits)

-- A COPY

-- a packet at the node that it is for: its nodes are in range, it is alive, it reads as its value, and that fits its flow
pub record ComesHere (w : World) (n : ℕ) (st : Station Mark) (d : Noted) (parcel : Parcel Mark) (e : DeltagramValue) : Type 0 where
  pub from_node : e.from < 2 ^ 32
  pub my_node : st.host.me < 2 ^ 32
  pub alive : w.now < parcel.tag.birth + w.params.mpl
  pub reads : packet_read e ≡ Ok (value_in parcel.octets)
  pub ports : HasPorts (value_in parcel.octets)
  pub rules : KeepsRules (value_in parcel.octets)
  pub fits : FitsSome w.params (views w n st.host d.ledgers (flow_of e.from st.host.me (value_in parcel.octets))) (marked_packet parcel.tag (value_in parcel.octets))

lt_by : (m n : ℕ) → nat_le m n ≡ false → n < m
lt_by m n h = grind (arith, nat_tests)

module _ (w : World) (n : ℕ) (limits : IsWithinLimits w.params) (st : Station Mark) (d : Noted) (parcel : Parcel Mark) (put link : ℕ) (age : Flies w.params.mpl w.now (carried_of parcel put)) (packet : IsPacket w.params (views w n st.host d.ledgers) parcel)
    (good : Good w n (Brings parcel.tag (value_in parcel.octets)) st d) (idle : next_turn w.params (w.now + (placed w n).zero) st.host ≡ None) (held : w.now - put ≤ charge_of link st.relay.ins) where
  abbrev c : Cause
  c = Brings parcel.tag (value_in parcel.octets)

  abbrev charge : ℕ
  charge = charge_of link st.relay.ins

  abbrev low : Parcel Mark
  low = lower_parcel charge parcel

  low_gram : charge < life_of parcel.octets → gram_in low.octets ≡ with_less_life charge (gram_in parcel.octets)
  low_gram below = gram_in_is _ _ (lowered_in charge parcel.octets packet.gram below)

  low_packet : charge < life_of parcel.octets → IsPacket w.params (views w n st.host d.ledgers) low
  low_packet below = lowered_packet w.params (views w n st.host d.ledgers) parcel charge below packet

  low_value : charge < life_of parcel.octets → value_in low.octets ≡ value_in parcel.octets
  low_value below = ap (λ (e : DeltagramValue). packet_in e.body) (low_gram below)

  passes : charge < life_of parcel.octets → Leads w n c st d (play (world_handler (stage w n c)) (come w.params (reading w n c) false low st) d)
  passes below =
      let waits = admitted_waits w.params.mpl w.now charge (carried_of parcel put) age held below in
      let life : life_of low.octets ≡ life_of parcel.octets - charge = (lowers charge parcel.octets packet.gram below).life in
      let one : IsWaiting w.params w.now (placed w n).zero (views w n st.host d.ledgers) (record { parcel = low; since = reading w n c }) =
      record {
        since = w.now;
        reading = refl;
        age = record { born = waits.born; since = waits.since; alive = omega (arith, life, waits.alive); age = omega (arith, life, waits.age) };
        packet = low_packet below;
      } in
      pass_on_leads w n c low st d good one

  pub comes_here : charge < life_of parcel.octets → to_of low.octets ≡ st.host.me → ComesHere w n st d parcel (gram_in low.octets)
  comes_here below mine =
      let k = low_packet below in
      let e = gram_in low.octets in
      let to : e.to ≡ st.host.me = sym (to_of-gram_in low.octets) ∙ mine in
      let value = low_value below in
      let carries : Carries e (value_in parcel.octets) = subst (λ (v : PacketValue). Carries e v) value k.carries in
      let fits0 : FitsSome w.params (views w n st.host d.ledgers (flow_of e.from e.to (value_in low.octets))) (marked_packet parcel.tag (value_in low.octets)) = k.fits in
      let fits1 : FitsSome w.params (views w n st.host d.ledgers (flow_of e.from e.to (value_in parcel.octets))) (marked_packet parcel.tag (value_in parcel.octets)) =
      subst (λ (v : PacketValue). FitsSome w.params (views w n st.host d.ledgers (flow_of e.from e.to v)) (marked_packet parcel.tag v)) value fits0 in
      record {
        from_node = k.gram.fits.from;
        my_node = subst (λ (m : ℕ). m < 2 ^ 32) to k.gram.fits.to;
        alive = arrives_alive w.params.mpl w.now (carried_of parcel put) age (omega (arith, held, below));
        reads = packet_is_read e (value_in parcel.octets) carries;
        ports = carries.pack.ports;
        rules = carries.pack.rules;
        fits = subst (λ (m : ℕ). FitsSome w.params (views w n st.host d.ledgers (flow_of e.from m (value_in parcel.octets))) (marked_packet parcel.tag (value_in parcel.octets))) to fits1;
      }

  delivered : charge < life_of parcel.octets → to_of low.octets ≡ st.host.me → Leads w n c st d (play (world_handler (stage w n c)) (come w.params (reading w n c) true low st) d)
  delivered below mine =
      let h = comes_here below mine in
      let e = gram_in low.octets in
      deliver_leads w n parcel.tag limits st d e.from h.from_node h.my_node h.alive idle (value_in parcel.octets) (packet_read e) h.reads h.ports h.rules good h.fits

  comes_in : (b : Bool) → (to_of low.octets == st.host.me) ≡ b → charge < life_of parcel.octets → Leads w n c st d (play (world_handler (stage w n c)) (come w.params (reading w n c) b low st) d)
  comes_in true e below = delivered below (nat_is _ _ e)
  comes_in false e below = passes below

  -- A COPY THAT COMES KEEPS THE FACTS
  pub arrival_leads : Leads w n c st d (play (world_handler (stage w n c)) (happen w.params (reading w n c) (Arrive link parcel) st) d)
  arrival_leads =
      elim (cases_Bool (nat_le (life_of parcel.octets) charge)) [
        | inl y ↦ rw y (silent w n c st d (words.ExpiredIn link) good refl)
        | inr o ↦ rw o (comes_in (to_of low.octets == st.host.me) refl (lt_by _ _ o))
      ]
