-- What is reported of a packet that comes passes.
use Rattle.std.proofs.Common.{ℕ, ◌+◌, ◌-◌, ◌^◌, ◌<◌, ◌≤◌, ◌≡◌, ◌==◌, Bool, true, false, List, ◌++◌, length, Option, Some, None, Ok, Result, refl, sym, ap, subst, inl, inr, ◌∙◌, arith}
use Rattle.std.specs.Prelude.{nat_le, nat_lt, option_and_then}
use Rattle.std.proofs.lemmas.Bool.{cases_Bool}
use Rattle.std.proofs.lemmas.Bool.Decides.{nat_tests}
use Rattle.dt_items.specs.declared.item.Item.{Item}
use Rattle.dt_items.specs.Unread.{marked}
use Rattle.dt_units.specs.declared.endpoints.Flow.{Flow}
use Rattle.dt_units.specs.Flows.{IsFlow}
use Rattle.dt_units.specs.Limits.{IsWithinLimits}
use Rattle.dt_reports.specs.Told.{Told}
use Rattle.dt_reports.specs.declared.reports.Report.TheVariants as report
use Rattle.dt_layout.specs.declared.faults.LayoutFault.{LayoutFault}
use Rattle.dt_layout.specs.Spelling.{HasPorts, KeepsRules, PacketValue, Data, Ack, Meet, Close}
use Rattle.dt_layout.specs.Reading.{gram_in, packet_read}
use Rattle.dt_layout.specs.Carried.{life_of, to_of}
use Rattle.dt_flow_model.specs.declared.arrivals.Action.{Action}
use Rattle.dt_flow_model.specs.declared.arrivals.Action.TheVariants as X
use Rattle.dt_flow_model.specs.declared.arrivals.Arrived.{Arrived}
use Rattle.dt_flow_model.specs.declared.arrivals.Arrived.TheVariants as A
use Rattle.dt_flow_model.specs.Acting.{acked_flow, data_flow}
use Rattle.dt_flow_model.specs.Carried.{Flies}
use Rattle.dt_flow_model.specs.Facts.{Facts, Fits, FitsSome}
use Rattle.dt_flow_model.specs.Flow.{FlowState, Packet}
use Rattle.dt_flow_model.specs.Flow as flows
use Rattle.dt_flow_model.specs.Frames.{Mark, flow_between, flow_of, flow_packet, marked_packet, reply_frame, value_in}
use Rattle.dt_flow_model.specs.ReceiveRecord.{ReceiveRecord, action_on, after_data, answer_to, answer_to_data, expected_told, free_of}
use Rattle.dt_flow_model.specs.SendRecord.{Segment, SendRecord, acknowledged, after_split, items_in, on_ack, record_acked}
use Rattle.dt_flow_model.specs.Steps.{IsAlive}
use Rattle.dt_flow_model.proofs.Chains.{items_append}
use Rattle.dt_flow_laws.proofs.Laws.{split_where}
use Rattle.dt_world_model.specs.Host.{Host, ack_answer, arrive, comes, host_with_receiver, host_with_sender, next_turn, receiver_at, sender_at, told_arrival}
use Rattle.dt_world_model.specs.Ledgers.{Ledgers}
use Rattle.dt_world_model.specs.Relay.{Parcel, charge_of, lower_parcel}
use Rattle.dt_world_model.specs.Script.{play, Tell}
use Rattle.dt_world_model.specs.Station.{Arrive, Station, come, deliver, happen, send_off}
use Rattle.dt_world_model.specs.World.{Noted, World, note_told, placed, world_handler}
use Rattle.dt_world_model.specs.WorldFacts.{IsPacket, carried_of}
use Rattle.dt_world_model.proofs.Tables.{nat_is, nat_self}
use Rattle.dt_world_laws.proofs.Arrivals.{data_leads}
use Rattle.dt_world_laws.proofs.Books.{Brings, Brought, Cause}
use Rattle.dt_world_laws.proofs.Delivery.{ack_leads, comes_here}
use Rattle.dt_world_laws.proofs.Good.{Good, Leads, reading, stage}
use Rattle.dt_world_laws.proofs.Received.{follows_data}
use Rattle.dt_world_laws.proofs.Settled.{receivers_current}
use Rattle.dt_world_laws.proofs.Settles.{answers_play, off_same}
use Rattle.dt_world_laws.proofs.Turns.{given_facts_now, given_is, given_state, receiver_apart, receiver_moved, sender_apart, sender_is, sender_moved, sent_facts, sent_state, state_is}
use Rattle.dt_world_laws.proofs.Views as world
use Rattle.dt_world_laws.proofs.Views.{views}
use Rattle.dt_audit.specs.Books.{Book}
use Rattle.dt_audit.specs.LogRows.{FlowLog}
use Rattle.dt_audit.specs.Telling.{IsInRange, fact_by}
use Rattle.dt_audit_laws.specs.Books.{IsAbout}
use Rattle.dt_audit_laws.specs.Following.{Followed, FollowsFlow}
use Rattle.dt_audit_laws.specs.Logs.{LogOf}
use Rattle.dt_audit_laws.specs.Telling.{changes_told}
use Rattle.dt_audit_laws.proofs.Acting.{Logs, books_logs, host_logs, mute_told, off_logs, report_logs}
use Rattle.dt_audit_laws.proofs.Happening.{marked_length}
use Rattle.dt_audit_laws.proofs.Mute.{IsMute, mute_ledgers, mute_log, off_mute, passed_mute}
use Rattle.dt_audit_laws.proofs.Reports.{ack_passes, data_passes}

-- the facts of a flow after a report and a frame that went off are those after the report
told_facts : (w : World) (n : ℕ) (c : Cause) (st : Station Mark) (d : Noted) (told : Told) (host : Host) (frame : Option (List ℕ)) (f : Flow) → Leads w n c st d (play (world_handler (stage w n c)) (Tell told (send_off (reading w n c) host frame st.relay)) d)
    → Facts w.params (views w n host (note_told (stage w n c) told d).ledgers f)
told_facts w n c st d told host frame f l =
    let noted = note_told (stage w n c) told d in
    let r = play (world_handler (stage w n c)) (send_off (reading w n c) host frame st.relay) noted in
    let books : r.0.ledgers ≡ noted.ledgers = mute_ledgers (stage w n c) (send_off (reading w n c) host frame st.relay) noted (off_mute (reading w n c) host frame st.relay) in
    let same : r.1.host ≡ host = answers_play (world_handler (stage w n c)) (λ (after : Station Mark). after.host ≡ host) (send_off (reading w n c) host frame st.relay) noted (off_same (reading w n c) host frame st.relay) in
    subst (λ (h : Host). Facts w.params (views w n h noted.ledgers f)) same (subst (λ (b : Ledgers). Facts w.params (views w n r.1.host b f)) books (l.good.flows f))

-- DATA
data_about : (f : Flow) (from_port to_port number : ℕ) (drf begin end : Bool) (octets : List ℕ) (a : Arrived) → world.IsAbout f (told_arrival f (Data from_port to_port number drf begin end octets) a)
data_about f from_port to_port number drf begin end octets (A.Quiet until) = inr refl
data_about f from_port to_port number drf begin end octets (A.Accepted run count) = inl (_, refl)
data_about f from_port to_port number drf begin end octets (A.Replied k window) = inr refl
data_about f from_port to_port number drf begin end octets A.Dropped = inr refl
data_about f from_port to_port number drf begin end octets (A.Acked count) = inl (_, refl)
data_about f from_port to_port number drf begin end octets (A.Closing k) = inr refl

data_said : (f : Flow) (n from_port to_port number : ℕ) (drf begin end : Bool) (octets : List ℕ) (a : Arrived) → IsAbout f (fact_by n (told_arrival f (Data from_port to_port number drf begin end octets) a))
data_said f n from_port to_port number drf begin end octets (A.Quiet until) = tt
data_said f n from_port to_port number drf begin end octets (A.Accepted run count) = refl
data_said f n from_port to_port number drf begin end octets (A.Replied k window) = tt
data_said f n from_port to_port number drf begin end octets A.Dropped = tt
data_said f n from_port to_port number drf begin end octets (A.Acked count) = refl
data_said f n from_port to_port number drf begin end octets (A.Closing k) = tt

data_in_range : (f : Flow) (from_port to_port number : ℕ) (drf begin end : Bool) (octets : List ℕ) → IsFlow f → number < 2 ^ 32 → (standing : Option ReceiveRecord) (count free : ℕ) → count < 2 ^ 32 → (action : Action) → IsInRange (told_arrival f (Data from_port to_port number drf begin end octets) (answer_to standing number count free action))
data_in_range f from_port to_port number drf begin end octets flow small standing count free few X.Drop = tt
data_in_range f from_port to_port number drf begin end octets flow small standing count free few X.Make = (flow, small, few)
data_in_range f from_port to_port number drf begin end octets flow small standing count free few X.TellNumber = tt
data_in_range f from_port to_port number drf begin end octets flow small None count free few X.TellExpected = tt
data_in_range f from_port to_port number drf begin end octets flow small (Some y) count free few X.TellExpected = tt
data_in_range f from_port to_port number drf begin end octets flow small standing count free few X.Accept = (flow, small, few)
data_in_range f from_port to_port number drf begin end octets flow small standing count free few X.Skip = (flow, small, few)
data_in_range f from_port to_port number drf begin end octets flow small standing count free few X.Close = tt

meet_mute : (f : Flow) (from_port to_port number free : ℕ) (standing : Option ReceiveRecord) → IsMute (told_arrival f (Meet from_port to_port number) (expected_told standing number free))
meet_mute f from_port to_port number free None = (tt, λ node. refl)
meet_mute f from_port to_port number free (Some y) = (tt, λ node. refl)

module _ (w : World) (n : ℕ) (mark : Mark) (number : ℕ) (drf : Bool) (items : List Item) (start : Book FlowLog) (limits : IsWithinLimits w.params) (st : Station Mark) (d : Noted) where
  abbrev q : Packet
  q = flow_packet mark (flows.Data drf items) number

  module _ (good : Good w n (Brought q) st d) (f : Flow) (flow : IsFlow f) (to : f.to.0 ≡ n) (log : Logs w n (Brought q) start st d) where
    data_logs : (from_port to_port : ℕ) (begin end : Bool) (octets : List ℕ) → length items < 2 ^ 32 → number < 2 ^ 32 → IsAlive w.params (given_state w n (Brought q) limits st d good f (rw to (nat_self n))) q → Fits w.params (views w n st.host d.ledgers f) q
        → let v = Data from_port to_port number drf begin end octets in let a = answer_to_data w.params (receiver_at st.host f) drf number items in let host = host_with_receiver st.host f (after_data w.params (reading w n (Brought q)) (receiver_at st.host f) drf number items) in
        Facts w.params (views w n host (note_told (stage w n (Brought q)) (told_arrival f v a) d).ledgers f) → LogOf w.params (views w n host (note_told (stage w n (Brought q)) (told_arrival f v a) d).ledgers) start (note_told (stage w n (Brought q)) (told_arrival f v a) d).lines
    data_logs from_port to_port begin end octets few rules alive fits facts =
        let p = w.params in
        let here : (n == f.to.0) ≡ true = rw to (nat_self n) in
        let s : FlowState = given_state w n (Brought q) limits st d good f here in
        let a = answer_to_data p (receiver_at st.host f) drf number items in
        let told = told_arrival f (Data from_port to_port number drf begin end octets) a in
        let about = data_about f from_port to_port number drf begin end octets a in
        let after = after_data p (reading w n (Brought q)) (receiver_at st.host f) drf number items in
        let host = host_with_receiver st.host f after in
        let before : views w n st.host d.ledgers f ≡ s = given_is w n (Brought q) limits st d good f here in
        let now : views w n host (note_told (stage w n (Brought q)) told d).ledgers f ≡ data_flow p s q drf items =
        receiver_moved w n (Brought q) limits st d good f here after told about ∙ follows_data p s f q from_port to_port number drf begin end octets items refl refl in
        let fit : Fits p s q = subst (λ (t : FlowState). Fits p t q) before fits in
        let had = given_facts_now w n (Brought q) limits st d good f here in
        let has : Facts p (data_flow p s q drf items) = subst (λ (t : FlowState). Facts p t) now facts in
        report_logs w n (Brought q) start st d host f told log (data_in_range f from_port to_port number drf begin end octets flow rules (receiver_at st.host f).standing (length items) (free_of p (receiver_at st.host f).unread) few (action_on p (receiver_at st.host f) drf number items)) (data_said f n from_port to_port number drf begin end octets a)
        (λ g apart. receiver_apart w n (Brought q) limits st d good f here after told g about apart)
        (λ flow_log follows.
        subst (λ (t : FlowState). Followed p t (views w n host (note_told (stage w n (Brought q)) told d).ledgers f) (changes_told n told) flow_log) (sym before)
        (subst (λ (t : FlowState). Followed p s t (changes_told n told) flow_log) (sym now)
        (data_passes p s f n q drf items from_port to_port begin end octets flow_log refl alive fit had (subst (λ (t : FlowState). FollowsFlow p t flow_log) before follows) has)))

-- ACKNOWLEDGEMENTS
module _ (w : World) (n : ℕ) (c : Cause) (start : Book FlowLog) (limits : IsWithinLimits w.params) (st : Station Mark) (d : Noted) (good : Good w n c st d) (f : Flow) (from_port to_port number window : ℕ) (small : window ≤ 65536) (log : Logs w n c start st d) where
  abbrev Comes : Arrived × Host → Noted × Station Mark
  Comes r = play (world_handler (stage w n c)) (Tell (told_arrival f (Ack from_port to_port number window) r.0) (send_off (reading w n c) r.1 (reply_frame w.params f r.0) st.relay)) d

  abbrev GoOn : Arrived × Host → Type 0
  GoOn r = Leads w n c st d (Comes r) → Logs w n c start (Comes r).1 (Comes r).0

  ignored_logs : GoOn (A.Dropped, st.host)
  ignored_logs leads = mute_told w n c start st d st.host (report.Ignored f number window) (tt, λ node. refl) log

  settled_logs : (x : SendRecord) (gone rest : List Segment) → sender_at st.host f ≡ Some x → x.outstanding ≡ gone ++ rest → GoOn (A.Acked (items_in gone), host_with_sender st.host f (Some (record_acked x gone rest window)))
  settled_logs x gone rest there split leads =
      let p = w.params in
      let s : FlowState = sent_state w n c limits st d good f x there in
      let x' = record_acked x gone rest window in
      let sender = sender_is w n c limits st d good f x there in
      let few : items_in gone ≤ items_in x.outstanding = omega (arith, ap items_in split, items_append gone rest) in
      let told = report.Settled f (items_in gone) window in
      let host = host_with_sender st.host f (Some x') in
      let noted = note_told (stage w n c) told d in
      let before = state_is w n c limits st d good f x there in
      let now : views w n host noted.ledgers f ≡ acked_flow s (Some (x', items_in gone)) = sender_moved w n c limits st d good f x there (Some x') told (inl (_, refl)) in
      let has : Facts p (acked_flow s (Some (x', items_in gone))) = subst (λ (t : FlowState). Facts p t) now (leads.good.flows f) in
      report_logs w n c start st d host f told log (sender.flow, omega (arith, few, sender.kept.held, limits.cap), omega (arith, small)) refl (λ g apart. sender_apart w n c limits st d good f x there (Some x') told g (inl (_, refl)) apart)
      (λ flow_log follows.
      subst (λ (t : FlowState). Followed p t (views w n host noted.ledgers f) (changes_told n told) flow_log) (sym before)
      (subst (λ (t : FlowState). Followed p s t (changes_told n told) flow_log) (sym now)
      (ack_passes p s f n x x' gone rest window flow_log refl split (sent_facts w n c limits st d good f x there) has (subst (λ (t : FlowState). FollowsFlow p t flow_log) before follows))))

  by_split : (x : SendRecord) → sender_at st.host f ≡ Some x → (o : Option (List Segment × List Segment)) → acknowledged w.params number x.left x.outstanding ≡ o → GoOn (ack_answer st.host f (after_split x window o))
  by_split x there None e = ignored_logs
  by_split x there (Some (gone, rest)) e = settled_logs x gone rest there (split_where w.params number x gone rest e).0

  by_sender : (o : Option SendRecord) → sender_at st.host f ≡ o → GoOn (ack_answer st.host f (option_and_then (λ x. on_ack w.params x number window) o))
  by_sender None e = ignored_logs
  by_sender (Some x) e = by_split x e (acknowledged w.params number x.left x.outstanding) refl

  ack_logs : GoOn (comes w.params (reading w n c) f (Ack from_port to_port number window) st.host)
  ack_logs = by_sender (sender_at st.host f) refl

-- A PACKET FOR THE HOST'S OWN NODE
module _ (w : World) (n : ℕ) (mark : Mark) (start : Book FlowLog) (limits : IsWithinLimits w.params) (st : Station Mark) (d : Noted) (from : ℕ) (from_node : from < 2 ^ 32) (my_node : st.host.me < 2 ^ 32) (alive : w.now < mark.birth + w.params.mpl) (idle : next_turn w.params (w.now + (placed w n).zero) st.host ≡ None) where
  abbrev Arrives : PacketValue → Arrived × Host → Noted × Station Mark
  Arrives v r = let c = Brings mark v in let f = flow_of from st.host.me v in play (world_handler (stage w n c)) (Tell (told_arrival f v r.0) (send_off (reading w n c) r.1 (reply_frame w.params f r.0) st.relay)) d

  awake_logs : (v : PacketValue) → HasPorts v → KeepsRules v → Good w n (Brings mark v) st d → FitsSome w.params (views w n st.host d.ledgers (flow_of from st.host.me v)) (marked_packet mark v) → nat_lt (w.now + (placed w n).zero) st.host.until ≡ false
      → Logs w n (Brings mark v) start st d → let r = Arrives v (comes w.params (w.now + (placed w n).zero) (flow_of from st.host.me v) v st.host) in Logs w n (Brings mark v) start r.1 r.0
  awake_logs (Data from_port to_port number drf begin end octets) ports rules good fits awake log =
      let f = flow_between from from_port st.host.me to_port in
      let v = Data from_port to_port number drf begin end octets in
      let c = Brings mark v in
      let items = marked octets begin end false in
      let r = comes w.params (reading w n c) f v st.host in
      let leads = data_leads w n (flow_packet mark (flows.Data drf items) number) limits st d good f (record { from = from_node; from_port = ports.0; to = my_node; to_port = ports.1 }) good.me from_port to_port number drf begin end octets refl refl rules alive
      (receivers_current w.params (w.now + (placed w n).zero) st.host f idle) fits awake in
      let facts = told_facts w n c st d (told_arrival f v r.0) r.1 (reply_frame w.params f r.0) f leads in
      off_logs w n c start (reading w n c) r.1 (reply_frame w.params f r.0) st.relay (note_told (stage w n c) (told_arrival f v r.0) d)
      (data_logs w n mark number drf items start limits st d good f (record { from = from_node; from_port = ports.0; to = my_node; to_port = ports.1 }) good.me log from_port to_port begin end octets (let same = marked_length octets begin end false in omega (arith, same, rules.0, rules.1)) rules.2 alive fits facts)
  awake_logs (Meet from_port to_port number) ports rules good fits awake log =
      let f = flow_between from from_port st.host.me to_port in
      let v = Meet from_port to_port number in
      let c = Brings mark v in
      let r = comes w.params (reading w n c) f v st.host in
      off_logs w n c start (reading w n c) r.1 (reply_frame w.params f r.0) st.relay (note_told (stage w n c) (told_arrival f v r.0) d)
      (mute_told w n c start st d r.1 (told_arrival f v r.0) (meet_mute f from_port to_port number (free_of w.params (receiver_at st.host f).unread) (receiver_at st.host f).standing) log)
  awake_logs (Ack from_port to_port number window) ports rules good fits awake log =
      let f = flow_between st.host.me to_port from from_port in
      ack_logs w n (Brings mark (Ack from_port to_port number window)) start limits st d good f from_port to_port number window rules.1 log
      (ack_leads w n (flow_packet mark (flows.Ack window) number) limits st d good f from_port to_port number window refl refl alive fits awake idle rules.1)
  awake_logs (Close from_port to_port number) ports rules good fits awake log = absurd fits

  arrive_logs : (v : PacketValue) → HasPorts v → KeepsRules v → Good w n (Brings mark v) st d → FitsSome w.params (views w n st.host d.ledgers (flow_of from st.host.me v)) (marked_packet mark v) → Logs w n (Brings mark v) start st d
      → let r = Arrives v (arrive w.params (w.now + (placed w n).zero) from v st.host) in Logs w n (Brings mark v) start r.1 r.0
  arrive_logs v ports rules good fits log =
      elim (cases_Bool (nat_lt (w.now + (placed w n).zero) st.host.until)) [
        | inl y ↦ rw y (mute_told w n (Brings mark v) start st d st.host (report.Quiet st.host.until) (tt, λ node. refl) log)
        | inr o ↦ rw o (awake_logs v ports rules good fits o log)
      ]

  -- what came reads as a packet
  deliver_logs : (v : PacketValue) (r : Result PacketValue LayoutFault) → r ≡ Ok v → HasPorts v → KeepsRules v → Good w n (Brings mark v) st d → FitsSome w.params (views w n st.host d.ledgers (flow_of from st.host.me v)) (marked_packet mark v) → Logs w n (Brings mark v) start st d
      → let c = Brings mark v in let t = play (world_handler (stage w n c)) (deliver w.params (reading w n c) from r st) d in Logs w n c start t.1 t.0
  deliver_logs v r e ports rules good fits log =
      let c = Brings mark v in
      subst (λ (r : Result PacketValue LayoutFault). let t = play (world_handler (stage w n c)) (deliver w.params (reading w n c) from r st) d in Logs w n c start t.1 t.0) (sym e) (arrive_logs v ports rules good fits log)

-- A COPY
lt_by : (m n : ℕ) → nat_le m n ≡ false → n < m
lt_by m n h = grind (arith, nat_tests)

module _ (w : World) (n : ℕ) (start : Book FlowLog) (limits : IsWithinLimits w.params) (st : Station Mark) (d : Noted) (parcel : Parcel Mark) (put link : ℕ) (age : Flies w.params.mpl w.now (carried_of parcel put)) (packet : IsPacket w.params (views w n st.host d.ledgers) parcel)
    (good : Good w n (Brings parcel.tag (value_in parcel.octets)) st d) (idle : next_turn w.params (w.now + (placed w n).zero) st.host ≡ None) (held : w.now - put ≤ charge_of link st.relay.ins) (log : Logs w n (Brings parcel.tag (value_in parcel.octets)) start st d) where
  abbrev c : Cause
  c = Brings parcel.tag (value_in parcel.octets)

  abbrev low : Parcel Mark
  low = lower_parcel (charge_of link st.relay.ins) parcel

  abbrev Ended : Noted × Station Mark → Type 0
  Ended r = Logs w n c start r.1 r.0

  passes : Ended (play (world_handler (stage w n c)) (come w.params (reading w n c) false low st) d)
  passes =
      let script = come w.params (reading w n c) false low st in
      let mute = passed_mute (reading w n c) low st.host st.relay in
      let r = play (world_handler (stage w n c)) script d in
      let after = mute_log (stage w n c) w.params (views w n st.host d.ledgers) start script d mute log in
      host_logs w n c start st.host r.1.host r.0.ledgers r.0 (books_logs w n c start st.host d.ledgers r.0.ledgers r.0 (mute_ledgers (stage w n c) script d mute) after)

  delivered : charge_of link st.relay.ins < life_of parcel.octets → to_of low.octets ≡ st.host.me → Ended (play (world_handler (stage w n c)) (come w.params (reading w n c) true low st) d)
  delivered below mine =
      let h = comes_here w n limits st d parcel put link age packet good idle held below mine in
      let e = gram_in low.octets in
      deliver_logs w n parcel.tag start limits st d e.from h.from_node h.my_node h.alive idle (value_in parcel.octets) (packet_read e) h.reads h.ports h.rules good h.fits log

  comes_in : (b : Bool) → (to_of low.octets == st.host.me) ≡ b → charge_of link st.relay.ins < life_of parcel.octets → Ended (play (world_handler (stage w n c)) (come w.params (reading w n c) b low st) d)
  comes_in true e below = delivered below (nat_is _ _ e)
  comes_in false e below = passes

  pub arrival_logs : Ended (play (world_handler (stage w n c)) (happen w.params (reading w n c) (Arrive link parcel) st) d)
  arrival_logs =
      elim (cases_Bool (nat_le (life_of parcel.octets) (charge_of link st.relay.ins))) [
        | inl y ↦ rw y (mute_told w n c start st d st.host (report.ExpiredIn link) (tt, λ node. refl) log)
        | inr o ↦ rw o (comes_in (to_of low.octets == st.host.me) refl (lt_by _ _ o))
      ]
