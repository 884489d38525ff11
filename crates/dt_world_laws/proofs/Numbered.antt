-- The packets that hosts meet: the order of their numbers is the order of their places.
use Rattle.std.proofs.Common.{ℕ, ◌+◌, ◌<◌, ◌≡◌, ◌==◌, ◌↔◌, Bool, true, false, List, ◌∷◌, ◌++◌, length, Option, Some, None, refl, sym, ap, subst, inl, inr, ◌∙◌, arith}
use Rattle.std.specs.Prelude.{nat_le}
use Rattle.std.proofs.lemmas.Bool.{cases_Bool}
use Rattle.std.proofs.lemmas.Bool.Decides.{nat_tests}
use Rattle.dt_items.specs.Unread.{marked}
use Rattle.dt_units.specs.declared.parameters.Params.{Params}
use Rattle.dt_units.specs.declared.endpoints.Flow.{Flow}
use Rattle.dt_units.specs.Limits.{IsWithinLimits}
use Rattle.dt_units.specs.Numbers.{relation_of}
use Rattle.dt_layout.specs.Carried.{life_of}
use Rattle.dt_layout.specs.Reading.{gram_in}
use Rattle.dt_layout.specs.Spelling.{Ack, Data, PacketValue}
use Rattle.dt_layout.proofs.CarriedLemmas.{to_of-gram_in}
use Rattle.dt_flow_model.specs.Facts.{Chain, Facts, Fits, FitsSome, OfRun, SendSide}
use Rattle.dt_flow_model.specs.Flow.{FlowState, Packet, Run, place_of, receiver_reading, sender_reading}
use Rattle.dt_flow_model.specs.Flow as flows
use Rattle.dt_flow_model.specs.Frames.{Mark, flow_between, flow_in, flow_of, flow_packet, marked_packet, value_in}
use Rattle.dt_flow_model.specs.Ledger.{top}
use Rattle.dt_flow_model.specs.Numbering.{number_of, order_of}
use Rattle.dt_flow_model.specs.ReceiveRecord.{IsCurrent, IsLive, ReceiveRecord}
use Rattle.dt_flow_model.specs.SendActs.{act_of}
use Rattle.dt_flow_model.specs.SendRecord.{Segment, SendRecord, items_in, next_from, next_of}
use Rattle.dt_flow_model.specs.Steps.{IsAlive}
use Rattle.dt_flow_model.proofs.Chains.{chain_front, chain_next, items_append}
use Rattle.dt_flow_laws.proofs.Ages.{arrives_alive}
use Rattle.dt_flow_laws.proofs.Frame.{alive_present}
use Rattle.dt_flow_laws.proofs.Ordering.{ack_end, data_order}
use Rattle.dt_flow_laws.proofs.SenderSteps.{next_is, taken_length}
use Rattle.dt_world_model.specs.Host.{next_turn, receiver_at, sender_at}
use Rattle.dt_world_model.specs.Relay.{Parcel, admit_for, charge_of, lower_parcel}
use Rattle.dt_world_model.specs.Station.{Station}
use Rattle.dt_world_model.specs.World.{Noted, World, placed, view}
use Rattle.dt_world_model.specs.WorldFacts.{IsPacket, WorldFacts, carried_of}
use Rattle.dt_world_model.specs.WorldStep.{copy_at, noted_at}
use Rattle.dt_world_model.proofs.Tables.{nat_self}
use Rattle.dt_world_laws.specs.Meeting.{IsMet, arrival, end_of, settled, world_when_met}
use Rattle.dt_world_laws.proofs.Books.{Cause, book_of, cause_of, flow_state}
use Rattle.dt_world_laws.proofs.Events.{IsArrival, possible_then}
use Rattle.dt_world_laws.proofs.Flushing.{lowered_packet}
use Rattle.dt_world_laws.proofs.Good.{Good, Leads, reading}
use Rattle.dt_world_laws.proofs.Settled.{receivers_current, sender_idle, settle_done}
use Rattle.dt_world_laws.proofs.Turns.{settle_leads}
use Rattle.dt_world_laws.proofs.Views.{begins_here, ends_here, near_or_receiver, near_or_sender, near_receiver, near_sender, views, world_view}
use Rattle.dt_world_laws.proofs.Worlds.{copy_can_come, possible_here, starts}

-- what is admitted has life left, and is the packet with less of it
lt_by : (m n : ℕ) → nat_le m n ≡ false → n < m
lt_by m n h = grind (arith, nat_tests)

was_admitted : (charge : ℕ) (parcel low : Parcel Mark) → admit_for charge parcel ≡ Some low → (charge < life_of parcel.octets) × (lower_parcel charge parcel ≡ low)
was_admitted charge parcel low h =
    elim (cases_Bool (nat_le (life_of parcel.octets) charge)) [
      | inl y ↦ let none : None ≡ Some low = rw y at h in absurd cc
      | inr o ↦ let some : Some (lower_parcel charge parcel) ≡ Some low = rw o at h in (lt_by _ _ o, cc)
    ]

-- WHAT IS KNOWN where a host meets a packet
pub record Met (p : Params) (views : Flow → FlowState) (now : ℕ) (parcel : Parcel Mark) : Type 0 where
  pub packet : IsPacket p views parcel
  pub alive : now < parcel.tag.birth + p.mpl

module _ (w : World) (k : ℕ) (parcel : Parcel Mark) (limits : IsWithinLimits w.params) (facts : WorldFacts w) (met : IsMet w k parcel) where
  abbrev n : ℕ
  n = end_of w k

  abbrev c : Cause
  c = cause_of (arrival w k)

  abbrev st : Station Mark
  st = (settled w k).1

  abbrev d : Noted
  d = (settled w k).0

  begins : Good w n c (placed w n).station (noted_at w)
  begins = starts w n met.station met.there facts c

  leads : Leads w n c (placed w n).station (noted_at w) (settled w k)
  leads = settle_leads w n c limits (placed w n).station (noted_at w) begins

  good : Good w n c st d
  good = leads.good

  idle : next_turn w.params (reading w n c) st.host ≡ None
  idle = settle_done w n c limits (placed w n).station (noted_at w) begins

  can : IsArrival w n st d (copy_at w k).link (copy_at w k).parcel
  can = possible_then w n limits (arrival w k) (placed w n).station (noted_at w) (settled w k) leads (possible_here w n met.station met.there facts (arrival w k) (copy_can_come w limits facts k met.station met.passes met.there))

  is_met : Met w.params (views w n st.host d.ledgers) w.now parcel
  is_met =
      let charge = charge_of (copy_at w k).link st.relay.ins in
      let a = was_admitted charge (copy_at w k).parcel parcel met.admitted in
      subst (λ (low : Parcel Mark). Met w.params (views w n st.host d.ledgers) w.now low) a.1
      (record { packet = lowered_packet w.params (views w n st.host d.ledgers) (copy_at w k).parcel charge a.0 can.packet; alive = arrives_alive w.params.mpl w.now (carried_of (copy_at w k).parcel can.put) can.age (omega (arith, can.held, a.0)) })

  abbrev from : ℕ
  from = (gram_in parcel.octets).from

  abbrev to : ℕ
  to = (gram_in parcel.octets).to

  here : (n == to) ≡ true
  here = let is : to ≡ n = sym (to_of-gram_in parcel.octets) ∙ met.addressed ∙ good.me in rw is (nat_self n)

  -- a packet of this value fits its flow
  fits_as : (v : PacketValue) → value_in parcel.octets ≡ v → FitsSome w.params (views w n st.host d.ledgers (flow_of from to v)) (marked_packet parcel.tag v)
  fits_as v is = subst (λ (u : PacketValue). FitsSome w.params (views w n st.host d.ledgers (flow_of from to u)) (marked_packet parcel.tag u)) is is_met.packet.fits

  module _ (f : Flow) where
    abbrev seen : FlowState
    seen = views w n st.host d.ledgers f

    seen_is : view (world_when_met w k) f ≡ seen
    seen_is = world_view w n st d f

  -- DATA
  data_here : (from_port to_port number : ℕ) (drf begin end : Bool) (octets : List ℕ) (y : ReceiveRecord) → value_in parcel.octets ≡ Data from_port to_port number drf begin end octets
      → let s = seen (flow_between from from_port to to_port) in s.receiver ≡ Some y → relation_of number y.expected ≡ order_of parcel.tag.place (top s.given)
  data_here from_port to_port number drf begin end octets y is stands =
      let f = flow_between from from_port to to_port in
      let q = flow_packet parcel.tag (flows.Data drf (marked octets begin end false)) number in
      let t : FlowState = flow_state w.now (near_or_sender w n st.host.until (sender_at st.host f) f) (near_receiver w n st.host.until (receiver_at st.host f)) (book_of d.ledgers f) in
      let same : seen f ≡ t = ends_here w n st.host.until (sender_at st.host f) (receiver_at st.host f) (book_of d.ledgers f) f here in
      let stands' : t.receiver ≡ Some y = ap (λ (s : FlowState). s.receiver) (sym same) ∙ stands in
      let live : IsLive w.params (receiver_reading t) y = let current : IsCurrent w.params (receiver_reading t) t.receiver = receivers_current w.params (reading w n c) st.host f idle in
      let k : IsCurrent w.params (receiver_reading t) (Some y) = subst (λ (o : Option ReceiveRecord). IsCurrent w.params (receiver_reading t) o) stands' current in k in
      subst (λ (s : FlowState). relation_of number y.expected ≡ order_of parcel.tag.place (top s.given)) (sym same)
      (data_order w.params t q drf (marked octets begin end false) y refl is_met.alive
      (subst (λ (s : FlowState). Facts w.params s) same (good.flows f))
      (subst (λ (s : FlowState). Fits w.params s q) same (fits_as (Data from_port to_port number drf begin end octets) is)) stands' live)

  -- ACKNOWLEDGEMENTS
  module _ (x : SendRecord) (g : Segment) (gone rest : List Segment) where
    abbrev end : ℕ
    end = next_from x.left (g ∷ gone)

    abbrev InOrder : ℕ → FlowState → Type 0
    InOrder number s = (number ≡ number_of w.params end) ↔ (parcel.tag.place ≡ place_of s x end)

    -- a packet at the end's place has the end's number
    number_at : (t : FlowState) (q : Packet) → t.sender ≡ Some x → x.outstanding ≡ (g ∷ gone) ++ rest → Facts w.params t → Fits w.params t q → IsAlive w.params t q → q.place ≡ place_of t x end → q.number ≡ number_of w.params end
    number_at t q stands split flow fits alive at =
        let side : SendSide w.params t.now t.sender_zero t.sender_until t.sender_life t.run t.taken (Some x) = rw stands at flow.send_side in
        let len = taken_length w.params t.now t.sender_zero t.sender_until t.sender_life t.run t.taken x side in
        let next = next_is w.params t.now t.sender_zero t.sender_until t.sender_life t.run t.taken x side in
        let chain : Chain x.left (g ∷ gone) = chain_front x.left (g ∷ gone) rest (rw split at side.record_facts.chain) in
        let count : items_in x.outstanding ≡ items_in (g ∷ gone) + items_in rest = rw split (items_append (g ∷ gone) rest) in
        let end_is : end ≡ x.left + items_in (g ∷ gone) = chain_next x.left (g ∷ gone) chain in
        let some : 0 < length g.items = chain.1 in
        let present : (r : Run) × (t.run ≡ Some r) × OfRun w.params t.taken t.given q r = alive_present w.params t.now t.receiver_zero t.receiver_until t.sender_life t.run t.taken t.given t.receiver q flow.receive_side fits.facts alive in
        let more : 0 < next_of x = omega (arith, next, count, some) in
        let own = side.record_facts.sending more in
        let same : own.0.base ≡ present.0.base = let e : own.0 ≡ present.0 = cc (own.1, present.1) in ap (λ (z : Run). z.base) e in
        let base = own.2.base in
        let offset : present.2.offset ≡ end = omega (arith, at, present.2.place, base, same, len, next, count, end_is) in
        present.2.number ∙ ap (λ (o : ℕ). number_of w.params o) offset

    ack_here : (from_port to_port number window : ℕ) → value_in parcel.octets ≡ Ack from_port to_port number window
        → let s = seen (flow_between to to_port from from_port) in s.sender ≡ Some x → x.outstanding ≡ (g ∷ gone) ++ rest → InOrder number s
    ack_here from_port to_port number window is stands split =
        let f = flow_between to to_port from from_port in
        let q = flow_packet parcel.tag (flows.Ack window) number in
        let t : FlowState = flow_state w.now (near_sender w n st.host.until (sender_at st.host f)) (near_or_receiver w n st.host.until (receiver_at st.host f) f) (book_of d.ledgers f) in
        let same : seen f ≡ t = begins_here w n st.host.until (sender_at st.host f) (receiver_at st.host f) (book_of d.ledgers f) f here in
        let stands' : t.sender ≡ Some x = ap (λ (s : FlowState). s.sender) (sym same) ∙ stands in
        let quiet : act_of w.params (sender_reading t) x ≡ None = sender_idle w.params (reading w n c) st.host f x idle stands' in
        let flow = subst (λ (s : FlowState). Facts w.params s) same (good.flows f) in
        let fits = subst (λ (s : FlowState). Fits w.params s q) same (fits_as (Ack from_port to_port number window) is) in
        subst (λ (s : FlowState). InOrder number s) (sym same)
        (λ e. ack_end w.params limits t x q window (g ∷ gone) rest stands' quiet refl is_met.alive flow fits split e, λ e. number_at t q stands' split flow fits is_met.alive e)

-- THE LAW, said of the flow in the packet's octets
pub data_in_order : (w : World) (k : ℕ) (parcel : Parcel Mark) (from_port to_port number : ℕ) (drf begin end : Bool) (octets : List ℕ) (y : ReceiveRecord) → IsWithinLimits w.params → WorldFacts w → IsMet w k parcel
    → value_in parcel.octets ≡ Data from_port to_port number drf begin end octets → let s = view (world_when_met w k) (flow_in parcel.octets) in
    s.receiver ≡ Some y → relation_of number y.expected ≡ order_of parcel.tag.place (top s.given)
data_in_order w k parcel from_port to_port number drf begin end octets y limits facts met is stands =
    let d = gram_in parcel.octets in
    let f : Flow = flow_between d.from from_port d.to to_port in
    let flow : flow_in parcel.octets ≡ f = ap (λ (v : PacketValue). flow_of d.from d.to v) is in
    let same = ap (λ (g : Flow). view (world_when_met w k) g) flow ∙ seen_is w k parcel limits facts met f in
    subst (λ (s : FlowState). relation_of number y.expected ≡ order_of parcel.tag.place (top s.given)) (sym same)
    (data_here w k parcel limits facts met from_port to_port number drf begin end octets y is (ap (λ (s : FlowState). s.receiver) (sym same) ∙ stands))

pub ack_in_order : (w : World) (k : ℕ) (parcel : Parcel Mark) (from_port to_port number window : ℕ) (x : SendRecord) (g : Segment) (gone rest : List Segment) → IsWithinLimits w.params → WorldFacts w → IsMet w k parcel
    → value_in parcel.octets ≡ Ack from_port to_port number window → let s = view (world_when_met w k) (flow_in parcel.octets) in
    s.sender ≡ Some x → x.outstanding ≡ (g ∷ gone) ++ rest → (number ≡ number_of w.params (next_from x.left (g ∷ gone))) ↔ (parcel.tag.place ≡ place_of s x (next_from x.left (g ∷ gone)))
ack_in_order w k parcel from_port to_port number window x g gone rest limits facts met is stands split =
    let d = gram_in parcel.octets in
    let f : Flow = flow_between d.to to_port d.from from_port in
    let flow : flow_in parcel.octets ≡ f = ap (λ (v : PacketValue). flow_of d.from d.to v) is in
    let same = ap (λ (g : Flow). view (world_when_met w k) g) flow ∙ seen_is w k parcel limits facts met f in
    subst (λ (s : FlowState). (number ≡ number_of w.params (next_from x.left (g ∷ gone))) ↔ (parcel.tag.place ≡ place_of s x (next_from x.left (g ∷ gone)))) (sym same)
    (ack_here w k parcel limits facts met x g gone rest from_port to_port number window is (ap (λ (s : FlowState). s.sender) (sym same) ∙ stands) split)
