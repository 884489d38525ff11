-- A packet comes to a station: a small step of its flow, or nothing.
use Rattle.std.proofs.Common.{ℕ, ◌^◌, ◌<◌, suc, ◌≡◌, ◌⊎◌, ◌==◌, Bool, true, false, List, [], ◌∷◌, length, Option, Some, None, refl, sym, ap, subst, inl, inr, ◌∙◌, arith}
use Rattle.std.specs.Prelude.{nat_lt}
use Rattle.dt_items.specs.declared.item.Item.{Item}
use Rattle.dt_items.specs.Unread.{marked}
use Rattle.dt_units.specs.declared.parameters.Params.{Params}
use Rattle.dt_units.specs.declared.endpoints.Flow.{Flow}
use Rattle.dt_units.specs.Limits.{IsWithinLimits}
use Rattle.dt_reports.specs.declared.reports.Report.TheVariants as words
use Rattle.dt_layout.specs.Spelling.{KeepsRules, PacketValue, Data, Meet}
use Rattle.dt_flow_model.specs.declared.arrivals.Action.{Action}
use Rattle.dt_flow_model.specs.declared.arrivals.Action.TheVariants.{Accept, Close, Drop, Make, Skip, TellExpected, TellNumber}
use Rattle.dt_flow_model.specs.declared.arrivals.Arrived.{Arrived}
use Rattle.dt_flow_model.specs.declared.arrivals.Arrived.TheVariants as A
use Rattle.dt_flow_model.specs.Acting.{acked_flow, ack_of_record, after_ack, after_data_packet, after_meet_packet, data_flow, made_by_data, made_by_meet, reply_of, with_receiver}
use Rattle.dt_flow_model.specs.Acting as acting
use Rattle.dt_flow_model.specs.Facts.{AllFit, Facts, Fits}
use Rattle.dt_flow_model.specs.Flow.{FlowState, Packet, ack_place, sender_reading, receiver_reading}
use Rattle.dt_flow_model.specs.Flow as flows
use Rattle.dt_flow_model.specs.ReceiveRecord.{IsCurrent, ReceiveRecord, Receiver, action_on, after_data, after_meet, answer_to, answer_to_data, answer_to_meet, free_of, expected_told}
use Rattle.dt_flow_model.specs.Steps.{IsAlive, IsStepOrNothing}
use Rattle.dt_flow_laws.proofs.ArrivalSteps.{data_arrives, meet_arrives}
use Rattle.dt_world_laws.proofs.Lifting.{no_lift}
use Rattle.dt_flow_laws.proofs.Places.{data_tag, meet_tag}
use Rattle.dt_flow_laws.proofs.Records.{data_kept, meet_kept}
use Rattle.dt_flow_model.specs.Frames.{Mark, back, ack_packet}
use Rattle.dt_world_model.specs.Host as H
use Rattle.dt_world_model.specs.Host.{Host, IsHost, IsReceiver, IsSender, ack_answer, arrive, comes, receiver_at, sender_at, told_arrival, host_with_sender}
use Rattle.dt_units.specs.Flows.{IsFlow}
use Rattle.dt_flow_model.specs.Keeping.{HasNumber}
use Rattle.dt_flow_model.specs.Frames.{reply_frame}
use Rattle.dt_world_model.specs.Script.{play, Tell}
use Rattle.dt_world_model.specs.Station.{Station, send_off, station_with}
use Rattle.dt_world_laws.proofs.Books.{Brought, book_after, book_of}
use Rattle.dt_world_model.specs.World.{World, Noted, world_handler, note_told, placed}
use Rattle.dt_world_model.proofs.Tables.{nat_self}
use Rattle.dt_world_laws.proofs.Views.{IsAbout, receiver_set, views}
use Rattle.dt_world_laws.proofs.Follows.{book_in}
use Rattle.dt_world_laws.proofs.Received.{follows_data, follows_meet, receiver_moves}
use Rattle.dt_world_laws.proofs.Spelled.{ack_spelled}
use Rattle.dt_world_laws.proofs.Good.{CanGo, Good, Kept, Leads, leads_then, moves_lifts, moves_on, step_keeps, reading, send_off_leads, stage}
use Rattle.dt_world_laws.proofs.Turns.{can_go, given_facts_now, given_is, given_state, receiver_steps}
use Rattle.dt_world_laws.proofs.Happens.{receiver_is}

-- a step that takes the packet or not, or nothing, keeps the facts
pub kept_of : (p : Params) (s after : FlowState) (q : Packet) (made : List Packet) → IsWithinLimits p → Facts p s → Fits p s q → IsStepOrNothing p s q made after → Kept p s after made
kept_of p s after q made limits f fits (inl step) = step_keeps p s after (q ∷ []) made limits step f (fits, tt)
kept_of p s after q made limits f fits (inr (inl step)) = step_keeps p s after [] made limits step f tt
kept_of p s after q made limits f fits (inr (inr (same, none))) =
    let k : Kept p s s [] = record { facts = f; packets = λ z h. h; made_fit = tt; lift = no_lift p s } in
    subst (λ (t : FlowState). Kept p s t made) (sym same) (subst (λ (qs : List Packet). Kept p s s qs) (sym none) k)

-- a reply has the packet's number or the expected one, and the free room
replies : (standing : Option ReceiveRecord) (number count free n window : ℕ) (action : Action) → answer_to standing number count free action ≡ A.Replied n window → (window ≡ free) × ((n ≡ number) ⊎ ((y : ReceiveRecord) × (standing ≡ Some y) × (n ≡ y.expected)))
replies standing number count free n window Drop e = absurd cc
replies standing number count free n window Make e = absurd cc
replies standing number count free n window Accept e = absurd cc
replies standing number count free n window Skip e = absurd cc
replies standing number count free n window Close e = absurd cc
replies standing number count free n window TellNumber e = (cc, inl cc)
replies (Some y) number count free n window TellExpected e = (cc, inr (y, refl, cc))
replies None number count free n window TellExpected e = (cc, inl cc)

small_number : (standing : Option ReceiveRecord) (number n : ℕ) → HasNumber standing → number < 2 ^ 32 → ((n ≡ number) ⊎ ((y : ReceiveRecord) × (standing ≡ Some y) × (n ≡ y.expected))) → n < 2 ^ 32
small_number standing number n h le (inl e) = omega (arith, e)
small_number standing number n h le (inr (y, is, e)) = let k : HasNumber (Some y) = subst (λ (o : Option ReceiveRecord). HasNumber o) is h in omega (arith, e, k)

marked_count : (octets : List ℕ) (begin end run : Bool) → length (marked octets begin end run) ≡ length octets
marked_count [] begin end run = refl
marked_count (o ∷ []) begin end run = refl
marked_count (o ∷ o' ∷ os) begin end run = ap (λ (k : ℕ). suc k) (marked_count (o' ∷ os) false end false)

module _ (w : World) (n : ℕ) (q : Packet) (limits : IsWithinLimits w.params) (st : Station Mark) (d : Noted) (good : Good w n (Brought q) st d) (f : Flow) (flow : IsFlow f) (to : f.to.0 ≡ n) where
  abbrev p : Params
  p = w.params

  pub here : (n == f.to.0) ≡ true
  here = rw to (nat_self n)

  abbrev s : FlowState
  s = given_state w n (Brought q) limits st d good f here

  abbrev held : Receiver
  held = receiver_at st.host f

  held_is : IsReceiver p st.host.me f held
  held_is = receiver_is w n (Brought q) limits st d good f flow to

  -- a reply can go
  reply_goes : (after : Receiver) (number place : ℕ) (unread : List Item) → let told = words.Replied f number (free_of p unread) in let host = H.host_with_receiver st.host f after in let noted = note_told (stage w n (Brought q)) told d in
      AllFit p (views w n host noted.ledgers f) ((record { kind = flows.Ack (free_of p unread); number = number; birth = w.now; place = place }) ∷ []) → number < 2 ^ 32 → ack_place after.standing (book_of d.ledgers f).given number q.place ≡ place
      → CanGo w n (Brought q) host noted (Some (back p f (ack_packet f number (free_of p unread))))
  reply_goes after number place unread fit le at =
      let told = words.Replied f number (free_of p unread) in
      let host = H.host_with_receiver st.host f after in
      let noted = note_told (stage w n (Brought q)) told d in
      let tag : ack_place (receiver_at host f).standing (book_of noted.ledgers f).given number q.place ≡ place =
      ap (λ (r : Receiver). ack_place r.standing (book_of noted.ledgers f).given number q.place) (receiver_set st.host f after good.host.one_receiver) ∙ at in
      can_go w n (Brought q) host noted f.to.0 f.from.0 (ack_packet f number (free_of p unread)) place (ack_spelled p f unread number limits flow le) tag fit.0

  -- a packet's answer is reported, and the reply goes off
  answered : (v : PacketValue) (a : Arrived) (after : Receiver) (s' : FlowState) (made : List Packet) → IsAbout f (told_arrival f v a) → IsReceiver p st.host.me f after
      → receiver_moves s after (book_after w.params w.now (placed w n).life (Brought q) (told_arrival f v a) (book_in s)) ≡ s' → Kept p s s' made
      → (AllFit p (views w n (H.host_with_receiver st.host f after) (note_told (stage w n (Brought q)) (told_arrival f v a) d).ledgers f) made → CanGo w n (Brought q) (H.host_with_receiver st.host f after) (note_told (stage w n (Brought q)) (told_arrival f v a) d) (reply_frame p f a))
      → Leads w n (Brought q) st d (play (world_handler (stage w n (Brought q))) (Tell (told_arrival f v a) (send_off (reading w n (Brought q)) (H.host_with_receiver st.host f after) (reply_frame p f a) st.relay)) d)
  answered v a after s' made about is e k can =
      let told = told_arrival f v a in
      let host = H.host_with_receiver st.host f after in
      let noted = note_told (stage w n (Brought q)) told d in
      let g = receiver_steps w n (Brought q) limits st d good f here after told s' made about is e k in
      let first : Leads w n (Brought q) st d (noted, station_with host st.relay) =
      record { good = g.0; on = moves_on p (views w n st.host d.ledgers) (views w n host noted.ledgers) f made g.1; lifts = moves_lifts p (views w n st.host d.ledgers) (views w n host noted.ledgers) f made g.1; until = refl; ins = refl; routes = refl } in
      leads_then w n (Brought q) st d (noted, station_with host st.relay) _ first (send_off_leads w n (Brought q) (reply_frame p f a) (station_with host st.relay) noted g.0 (can g.1.kept.made_fit))

  about_data : (from_port to_port number : ℕ) (drf begin end : Bool) (octets : List ℕ) (a : Arrived) → IsAbout f (told_arrival f (Data from_port to_port number drf begin end octets) a)
  about_data from_port to_port number drf begin end octets (A.Quiet until) = inr refl
  about_data from_port to_port number drf begin end octets (A.Accepted run count) = inl (_, refl)
  about_data from_port to_port number drf begin end octets (A.Replied k window) = inr refl
  about_data from_port to_port number drf begin end octets A.Dropped = inr refl
  about_data from_port to_port number drf begin end octets (A.Acked count) = inl (_, refl)
  about_data from_port to_port number drf begin end octets (A.Closing k) = inr refl

  about_meet : (from_port to_port number : ℕ) (a : Arrived) (standing : Option ReceiveRecord) (free k : ℕ) → expected_told standing k free ≡ a → IsAbout f (told_arrival f (Meet from_port to_port number) a)
  about_meet from_port to_port number (A.Quiet until) standing free k e = inr refl
  about_meet from_port to_port number (A.Accepted run count) standing free k e = inl (_, refl)
  about_meet from_port to_port number (A.Replied m window) standing free k e = inr refl
  about_meet from_port to_port number A.Dropped standing free k e = inr refl
  about_meet from_port to_port number (A.Acked count) standing free k e = inl (_, refl)
  about_meet from_port to_port number (A.Closing m) standing free k e = inr refl

  -- DATA
  data_can_go : (v : PacketValue) (drf : Bool) (number : ℕ) (items : List Item) (a : Arrived) → answer_to_data p held drf number items ≡ a → number < 2 ^ 32
      → AllFit p (views w n (H.host_with_receiver st.host f (after_data p (reading w n (Brought q)) held drf number items)) (note_told (stage w n (Brought q)) (told_arrival f v a) d).ledgers f) (reply_of held.standing s q a)
      → CanGo w n (Brought q) (H.host_with_receiver st.host f (after_data p (reading w n (Brought q)) held drf number items)) (note_told (stage w n (Brought q)) (told_arrival f v a) d) (reply_frame p f a)
  data_can_go v drf number items (A.Quiet until) e le fit = tt
  data_can_go v drf number items (A.Accepted run count) e le fit = tt
  data_can_go v drf number items A.Dropped e le fit = tt
  data_can_go v drf number items (A.Acked count) e le fit = tt
  data_can_go v drf number items (A.Closing k) e le fit = tt
  data_can_go v drf number items (A.Replied k window) e le fit =
      let r = replies held.standing number (length items) (free_of p held.unread) k window (action_on p held drf number items) e in
      let small = small_number held.standing number k held_is.kept.expected le r.1 in
      let tag = data_tag p (reading w n (Brought q)) held drf number items k window (book_of d.ledgers f).given q.place e in
      let after = after_data p (reading w n (Brought q)) held drf number items in
      subst
      (λ (u : ℕ). AllFit p (views w n (H.host_with_receiver st.host f after) (note_told (stage w n (Brought q)) (words.Replied f k u) d).ledgers f) (reply_of held.standing s q (A.Replied k u)) → CanGo w n (Brought q) (H.host_with_receiver st.host f after) (note_told (stage w n (Brought q)) (words.Replied f k u) d) (reply_frame p f (A.Replied k u)))
      (sym r.0) (λ fit'. reply_goes after k (ack_place held.standing (book_of d.ledgers f).given k q.place) held.unread fit' small tag) fit

  pub data_leads : (from_port to_port number : ℕ) (drf begin end : Bool) (octets : List ℕ) → q.kind ≡ flows.Data drf (marked octets begin end false) → q.number ≡ number → KeepsRules (Data from_port to_port number drf begin end octets)
      → IsAlive p s q → IsCurrent p (reading w n (Brought q)) held.standing → Fits p (views w n st.host d.ledgers f) q → nat_lt (reading w n (Brought q)) st.host.until ≡ false
      → let v = Data from_port to_port number drf begin end octets in let r = comes p (reading w n (Brought q)) f v st.host in
      Leads w n (Brought q) st d (play (world_handler (stage w n (Brought q))) (Tell (told_arrival f v r.0) (send_off (reading w n (Brought q)) r.1 (reply_frame p f r.0) st.relay)) d)
  data_leads from_port to_port number drf begin end octets kind num rules alive current fits awake =
      let items = marked octets begin end false in
      let v = Data from_port to_port number drf begin end octets in
      let count = marked_count octets begin end false in
      let after = after_data p (reading w n (Brought q)) held drf number items in
      let a = answer_to_data p held drf number items in
      let fit' : Fits p s q = subst (λ (t : FlowState). Fits p t q) (given_is w n (Brought q) limits st d good f here) fits in
      let k0 : Kept p s (after_data_packet p s q drf items) (made_by_data p s q drf items) =
      kept_of p s (after_data_packet p s q drf items) q (made_by_data p s q drf items) limits (given_facts_now w n (Brought q) limits st d good f here) fit' (data_arrives p s q drf items kind (omega (arith, count, rules.0)) alive current (given_facts_now w n (Brought q) limits st d good f here) fit') in
      let k1 : Kept p s (data_flow p s q drf items) (reply_of s.receiver s q (answer_to_data p (flows.receiver_of s) drf q.number items)) = rw awake at k0 in
      let k2 : Kept p s (data_flow p s q drf items) (reply_of s.receiver s q a) = subst (λ (m : ℕ). Kept p s (data_flow p s q drf items) (reply_of s.receiver s q (answer_to_data p (flows.receiver_of s) drf m items))) num k1 in
      answered v a after (data_flow p s q drf items) (reply_of s.receiver s q a) (about_data from_port to_port number drf begin end octets a)
      (record { flow = flow; to = to ∙ sym good.me; kept = data_kept p (reading w n (Brought q)) held drf number items held_is.kept })
      (follows_data p s f q from_port to_port number drf begin end octets items kind num) k2
      (λ fit. data_can_go v drf number items a refl rules.2 fit)

  -- RENDEZVOUS
  meet_can_go : (v : PacketValue) (number : ℕ) (standing : Option ReceiveRecord) → held.standing ≡ standing → number < 2 ^ 32 → let a = expected_told standing number (free_of p held.unread) in
      AllFit p (views w n (H.host_with_receiver st.host f (after_meet p held)) (note_told (stage w n (Brought q)) (told_arrival f v a) d).ledgers f) (reply_of held.standing s q a)
      → CanGo w n (Brought q) (H.host_with_receiver st.host f (after_meet p held)) (note_told (stage w n (Brought q)) (told_arrival f v a) d) (reply_frame p f a)
  meet_can_go v number None e le fit =
      reply_goes (after_meet p held) number (ack_place held.standing (book_of d.ledgers f).given number q.place) held.unread fit le (meet_tag p held number (book_of d.ledgers f).given q.place)
  meet_can_go v number (Some y) e le fit =
      let small : HasNumber (Some y) = subst (λ (o : Option ReceiveRecord). HasNumber o) e held_is.kept.expected in
      reply_goes (after_meet p held) y.expected (ack_place held.standing (book_of d.ledgers f).given y.expected q.place) held.unread fit small (meet_tag p held y.expected (book_of d.ledgers f).given q.place)

  pub meet_leads : (from_port to_port number : ℕ) → q.kind ≡ flows.Meet → q.number ≡ number → number < 2 ^ 32 → IsAlive p s q → IsCurrent p (reading w n (Brought q)) held.standing → Fits p (views w n st.host d.ledgers f) q → nat_lt (reading w n (Brought q)) st.host.until ≡ false
      → let v = Meet from_port to_port number in let r = comes p (reading w n (Brought q)) f v st.host in
      Leads w n (Brought q) st d (play (world_handler (stage w n (Brought q))) (Tell (told_arrival f v r.0) (send_off (reading w n (Brought q)) r.1 (reply_frame p f r.0) st.relay)) d)
  meet_leads from_port to_port number kind num le alive current fits awake =
      let v = Meet from_port to_port number in
      let a = answer_to_meet p held number in
      let fit' : Fits p s q = subst (λ (t : FlowState). Fits p t q) (given_is w n (Brought q) limits st d good f here) fits in
      let k0 : Kept p s (after_meet_packet p s q) (made_by_meet p s q) =
      kept_of p s (after_meet_packet p s q) q (made_by_meet p s q) limits (given_facts_now w n (Brought q) limits st d good f here) fit' (meet_arrives p s q kind alive current) in
      let k1 : Kept p s (acting.with_receiver s (after_meet p (flows.receiver_of s))) (reply_of s.receiver s q (answer_to_meet p (flows.receiver_of s) q.number)) = rw awake at k0 in
      let k2 : Kept p s (acting.with_receiver s (after_meet p (flows.receiver_of s))) (reply_of s.receiver s q a) = subst (λ (m : ℕ). Kept p s (acting.with_receiver s (after_meet p (flows.receiver_of s))) (reply_of s.receiver s q (answer_to_meet p (flows.receiver_of s) m))) num k1 in
      answered v a (after_meet p held) (acting.with_receiver s (after_meet p held)) (reply_of s.receiver s q a) (about_meet from_port to_port number a held.standing (free_of p held.unread) number refl)
      (record { flow = flow; to = to ∙ sym good.me; kept = meet_kept p held held_is.kept })
      (follows_meet p s f (Brought q) from_port to_port number) k2
      (λ fit. meet_can_go v number held.standing refl le fit)
