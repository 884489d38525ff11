-- What a station reports of a flow passes, report by report.
use Rattle.std.proofs.Common.{ℕ, ◌≡◌, ◌≤◌, Bool, true, false, List, [], ◌++◌, length, Option, Some, None, refl, ap, arith, length-append}
use Rattle.dt_items.specs.declared.item.Item.{Item}
use Rattle.dt_units.specs.declared.parameters.Params.{Params}
use Rattle.dt_units.specs.declared.endpoints.Flow.{Flow}
use Rattle.dt_layout.specs.Spelling.{Data as DataPacket}
use Rattle.dt_reports.specs.declared.reports.Report.TheVariants as report
use Rattle.dt_flow_model.specs.declared.arrivals.Action.{Action}
use Rattle.dt_flow_model.specs.declared.arrivals.Action.TheVariants as action
use Rattle.dt_flow_model.specs.declared.arrivals.Arrived.{Arrived}
use Rattle.dt_flow_model.specs.declared.arrivals.Arrived.TheVariants as arrived
use Rattle.dt_flow_model.specs.declared.rows.Fate.TheVariants.{Acked, Uncertain}
use Rattle.dt_flow_model.specs.Acting.{acked_flow, after_act, after_taking, data_flow, given_by}
use Rattle.dt_flow_model.specs.Facts.{Facts, Fits}
use Rattle.dt_flow_model.specs.Flow.{Data, FlowState, Packet, receiver_of, receiver_reading, sender_reading}
use Rattle.dt_flow_model.specs.ReceiveRecord.{ReceiveRecord, Receiver, action_on, after_data, answer_to, answer_to_data, free_of}
use Rattle.dt_flow_model.specs.SendActs.{Act, act_of, give_up, meet, release, renew, resend, send, told_of}
use Rattle.dt_flow_model.specs.SendRecord.{Segment, SendRecord, items_in}
use Rattle.dt_flow_model.specs.Steps.{IsAlive}
use Rattle.dt_flow_model.proofs.Chains.{items_append}
use Rattle.dt_flow_model.proofs.Chosen.{act_is_due, cut_whole}
use Rattle.dt_flow_laws.proofs.SafeOf.{safe_of}
use Rattle.dt_world_model.specs.Host.{told_arrival, told_send}
use Rattle.dt_world_laws.specs.Follow.{at_sender, flow_ledger}
use Rattle.dt_audit.specs.declared.flow_facts.FlowFact.TheVariants as changes
use Rattle.dt_audit.specs.LogRows.{FlowLog}
use Rattle.dt_audit_laws.specs.Following.{Followed, FollowsFlow}
use Rattle.dt_audit_laws.specs.Telling.{changes_told}
use Rattle.dt_audit_laws.proofs.Following.{acknowledged, given_up}
use Rattle.dt_audit_laws.proofs.Keeping.{kept_follows, same_follows}
use Rattle.dt_audit_laws.proofs.Reporting.{open_there, packet_passes}
use Rattle.dt_audit_laws.proofs.SmallSteps.{goes_on, met_next, resent_next, sends_any, settled_follows, silent, told, took_goes}

-- AN ACT OF THE SENDER
pub act_passes : (p : Params) (s : FlowState) (f : Flow) (node : ℕ) (x : SendRecord) (act : Act) (log : FlowLog) → s.sender ≡ Some x → Facts p s → act_of p (sender_reading s) x ≡ Some act → FollowsFlow p s log
    → Followed p s (after_act p s x act) (changes_told node (told_send f (told_of p x act))) log
act_passes p s f node x (give_up g rest) log is h chosen follows =
    let due = act_is_due p (sender_reading s) x (give_up g rest) chosen in
    let le : length g.items ≤ items_in x.outstanding = omega (arith, ap items_in due.0) in
    let line = given_up (at_sender p s 0 [] 0) s.receiver_life (length g.items) (flow_ledger s) log follows.shows (omega (arith, le, open_there p s x log is h follows)) in
    told p s (after_act p s x (give_up g rest)) (changes.Uncertain (length g.items)) log _ line
    (settled_follows p s (after_act p s x (give_up g rest)) x Uncertain (length g.items) log line.next is le h follows refl refl refl line.shows line.edge line.number)
act_passes p s f node x release log is h chosen follows = silent p s (after_act p s x release) log (same_follows p s (after_act p s x release) log refl refl refl follows.numbered follows)
act_passes p s f node x renew log is h chosen follows = silent p s (after_act p s x renew) log (same_follows p s (after_act p s x renew) log refl refl refl follows.numbered follows)
act_passes p s f node x (resend before g behind) log is h chosen follows =
    let due = act_is_due p (sender_reading s) x (resend before g behind) chosen in
    silent p s (after_act p s x (resend before g behind)) log (goes_on p s (after_act p s x (resend before g behind)) x log is (resent_next p s x before behind g is due.0 h) h refl refl refl refl follows)
act_passes p s f node x (send cut rest) log is h chosen follows =
    let due = act_is_due p (sender_reading s) x (send cut rest) chosen in
    let whole : x.waiting ≡ cut ++ rest = rw (due.0, due.1) (cut_whole p x) in
    sends_any p s (after_act p s x (send cut rest)) x (length cut) log is due.2 (omega (arith, ap length whole, length-append cut rest)) h follows refl refl refl refl
act_passes p s f node x meet log is h chosen follows =
    let due = act_is_due p (sender_reading s) x meet chosen in
    silent p s (after_act p s x meet) log (goes_on p s (after_act p s x meet) x log is (met_next p s x is due.2 h) h refl refl refl refl follows)

-- OCTETS ARE TAKEN
pub taking_passes : (p : Params) (s : FlowState) (f : Flow) (node : ℕ) (items : List Item) (log : FlowLog) → FollowsFlow p s log → Followed p s (after_taking p s items) (changes_told node (report.Took f (length items))) log
taking_passes p s f node items log follows = took_goes p s (after_taking p s items) items log refl refl refl refl follows

-- AN ACKNOWLEDGEMENT IS USED
pub ack_passes : (p : Params) (s : FlowState) (f : Flow) (node : ℕ) (x after : SendRecord) (gone rest : List Segment) (window : ℕ) (log : FlowLog) → s.sender ≡ Some x → x.outstanding ≡ gone ++ rest → Facts p s → Facts p (acked_flow s (Some (after, items_in gone)))
    → FollowsFlow p s log → Followed p s (acked_flow s (Some (after, items_in gone))) (changes_told node (report.Settled f (items_in gone) window)) log
ack_passes p s f node x after gone rest window log is split h g follows =
    let t = acked_flow s (Some (after, items_in gone)) in
    let le : items_in gone ≤ items_in x.outstanding = omega (arith, ap items_in split, items_append gone rest) in
    let line = acknowledged (at_sender p s 0 [] 0) s.receiver_life (items_in gone) (flow_ledger s) log follows.shows (omega (arith, le, open_there p s x log is h follows)) (safe_of p (acked_flow s (Some (after, items_in gone))) g).ledger in
    told p s (acked_flow s (Some (after, items_in gone))) (changes.Settled (items_in gone)) log _ line
    (settled_follows p s (acked_flow s (Some (after, items_in gone))) x Acked (items_in gone) log line.next is le h follows refl refl refl line.shows line.edge line.number)

-- DATA COMES
abbrev answered : FlowState → Packet → List Item → Receiver → Arrived → FlowState
answered s q items r answer = record s { receiver = r.standing; unread = r.unread; given = given_by s q items answer }

module _ (p : Params) (s : FlowState) (f : Flow) (node : ℕ) (q : Packet) (drf : Bool) (items : List Item) (from_port to_port : ℕ) (begin end : Bool) (octets : List ℕ) (log : FlowLog)
    (kind : q.kind ≡ Data drf items) (alive : IsAlive p s q) (fits : Fits p s q) (facts : Facts p s) (follows : FollowsFlow p s log) where
  by_action : (r : Receiver) (standing : Option ReceiveRecord) (free : ℕ) (a : Action) → Facts p (answered s q items r (answer_to standing q.number (length items) free a))
      → Followed p s (answered s q items r (answer_to standing q.number (length items) free a)) (changes_told node (told_arrival f (DataPacket from_port to_port q.number drf begin end octets) (answer_to standing q.number (length items) free a))) log
  by_action r standing free action.Drop g = silent p s _ log (same_follows p s _ log refl refl refl follows.numbered follows)
  by_action r standing free action.Make g =
      let t = answered s q items r (arrived.Accepted true (length items)) in
      let line = packet_passes p s q drf true items 0 log kind alive facts fits follows (safe_of p (answered s q items r (arrived.Accepted true (length items))) g).ledger in
      told p s (answered s q items r (arrived.Accepted true (length items))) (changes.Accepted q.number (length items) true) log _ line
      (kept_follows p s (answered s q items r (arrived.Accepted true (length items))) log line.next line.shows refl line.edge line.number (λ place. refl) follows.unsent follows)
  by_action r standing free action.TellNumber g = silent p s _ log (same_follows p s _ log refl refl refl follows.numbered follows)
  by_action r None free action.TellExpected g = silent p s _ log (same_follows p s _ log refl refl refl follows.numbered follows)
  by_action r (Some y) free action.TellExpected g = silent p s _ log (same_follows p s _ log refl refl refl follows.numbered follows)
  by_action r standing free action.Accept g =
      let line = packet_passes p s q drf false items 0 log kind alive facts fits follows (safe_of p (answered s q items r (arrived.Accepted false (length items))) g).ledger in
      told p s (answered s q items r (arrived.Accepted false (length items))) (changes.Accepted q.number (length items) false) log _ line
      (kept_follows p s (answered s q items r (arrived.Accepted false (length items))) log line.next line.shows refl line.edge line.number (λ place. refl) follows.unsent follows)
  by_action r standing free action.Skip g =
      let line = packet_passes p s q drf true items 0 log kind alive facts fits follows (safe_of p (answered s q items r (arrived.Accepted true (length items))) g).ledger in
      told p s (answered s q items r (arrived.Accepted true (length items))) (changes.Accepted q.number (length items) true) log _ line
      (kept_follows p s (answered s q items r (arrived.Accepted true (length items))) log line.next line.shows refl line.edge line.number (λ place. refl) follows.unsent follows)
  by_action r standing free action.Close g = silent p s _ log (same_follows p s _ log refl refl refl follows.numbered follows)

  pub data_passes : Facts p (data_flow p s q drf items) → Followed p s (data_flow p s q drf items) (changes_told node (told_arrival f (DataPacket from_port to_port q.number drf begin end octets) (answer_to_data p (receiver_of s) drf q.number items))) log
  data_passes g = by_action (after_data p (receiver_reading s) (receiver_of s) drf q.number items) (receiver_of s).standing (free_of p (receiver_of s).unread) (action_on p (receiver_of s) drf q.number items) g
