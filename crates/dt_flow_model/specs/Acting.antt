-- What the acts of the records and the arrivals of packets do to the flow, as functions: the flow after them, and the packets that they make.
use Rattle.std.specs.Prelude.{ℕ, ◌+◌, Bool, if◌then◌else◌, nat_lt, List, [], ◌∷◌, ◌++◌, length, Option, Some, None}
use Rattle.dt_items.specs.declared.item.Item.{Item}
use Rattle.dt_units.specs.declared.parameters.Params.{Params}
use Rattle.dt_units.specs.Times.{quiet_time}
use Rattle.dt_flow_model.specs.declared.rows.Fate.TheVariants.{Acked, Uncertain}
use Rattle.dt_flow_model.specs.declared.rows.Given.{Given}
use Rattle.dt_flow_model.specs.declared.acts.RecvKind.{RecvKind}
use Rattle.dt_flow_model.specs.declared.acts.RecvKind.TheVariants as K
use Rattle.dt_flow_model.specs.declared.arrivals.Arrived.{Arrived}
use Rattle.dt_flow_model.specs.declared.arrivals.Arrived.TheVariants as A
use Rattle.dt_flow_model.specs.Numbering.{number_of}
use Rattle.dt_flow_model.specs.Ledger.{settle, note_first, take_rows, given_rows, note_read}
use Rattle.dt_flow_model.specs.SendRecord.{SendRecord, new_record, next_of, put, leads, on_ack}
use Rattle.dt_flow_model.specs.SendActs.{Act, give_up, release, renew, resend, send, meet, record_after}
use Rattle.dt_flow_model.specs.ReceiveRecord.{ReceiveRecord, Receiver, free_of, after_close, after_data, answer_to_data, after_meet, answer_to_meet, after_read, after_recv_act}
use Rattle.dt_flow_model.specs.Flow.{Data, Ack, Meet, Packet, FlowState, sender_reading, receiver_reading, receiver_of, run_after, crossings_after, place_of, ack_place}

-- the packets that a send record makes at now
abbrev pub segment_sent : Params → FlowState → SendRecord → ℕ → List Item → Packet
segment_sent p s x offset items = record { kind = Data (leads x offset) items; number = number_of p offset; birth = s.now; place = place_of s x offset }

abbrev pub meet_sent : Params → FlowState → SendRecord → Packet
meet_sent p s x = record { kind = Meet; number = number_of p x.left; birth = s.now; place = place_of s x x.left }

abbrev pub run_sent : FlowState → SendRecord → FlowState
run_sent s x = record s { run = run_after s.run (place_of s x 0) s.now (next_of x) }

-- an act of the send record x
abbrev pub after_act : Params → FlowState → SendRecord → Act → FlowState
after_act p s x (give_up g rest) = record s { sender = record_after p (sender_reading s) x (give_up g rest); taken = settle s.sender_life Uncertain (length g.items) s.taken }
after_act p s x release = record s { sender = record_after p (sender_reading s) x release }
after_act p s x renew = record s { sender = record_after p (sender_reading s) x renew }
after_act p s x (resend before g after) = record s { sender = record_after p (sender_reading s) x (resend before g after); run = run_after s.run (place_of s x 0) s.now (next_of x) }
after_act p s x (send cut rest) =
    record s {
      sender = record_after p (sender_reading s) x (send cut rest);
      taken = note_first s.now (place_of s x (next_of x)) (length cut) s.taken;
      run = run_after s.run (place_of s x 0) s.now (next_of x);
      crossings = crossings_after p (next_of x) (place_of s x (next_of x)) s.now s.crossings;
    }
after_act p s x meet = record s { sender = record_after p (sender_reading s) x meet; run = run_after s.run (place_of s x 0) s.now (next_of x) }

abbrev pub made_by_act : Params → FlowState → SendRecord → Act → List Packet
made_by_act p s x (give_up g rest) = []
made_by_act p s x release = []
made_by_act p s x renew = []
made_by_act p s x (resend before g after) = segment_sent p s x g.offset g.items ∷ []
made_by_act p s x (send cut rest) = segment_sent p s x (next_of x) cut ∷ []
made_by_act p s x meet = meet_sent p s x ∷ []

-- octets are taken: by the send record, which is made where there is none
abbrev pub record_for : Params → ℕ → Option SendRecord → SendRecord
record_for p now None = new_record p now []
record_for p now (Some x) = x

abbrev pub after_taking : Params → FlowState → List Item → FlowState
after_taking p s items = record s { sender = Some (put items (record_for p (sender_reading s) s.sender)); taken = take_rows s.sender_life items s.taken }

-- an acknowledgement with a number and a window comes to the sender: what it acknowledges gets its fate
abbrev pub acked_flow : FlowState → Option (SendRecord × ℕ) → FlowState
acked_flow s None = s
acked_flow s (Some (after, count)) = record s { sender = Some after; taken = settle s.sender_life Acked count s.taken }

abbrev pub ack_of_record : Params → FlowState → Option SendRecord → ℕ → ℕ → FlowState
ack_of_record p s None number window = s
ack_of_record p s (Some x) number window = acked_flow s (on_ack p x number window)

-- a silent station takes no packet
abbrev pub after_ack : Params → FlowState → Packet → ℕ → FlowState
after_ack p s q window = if nat_lt (sender_reading s) s.sender_until then s else ack_of_record p s s.sender q.number window

-- a receiver's answer to the packet q: what it accepted is given, and a reply is an acknowledgement
abbrev pub given_by : FlowState → Packet → List Item → Arrived → List Given
given_by s q items (A.Quiet until) = s.given
given_by s q items (A.Accepted run count) = s.given ++ given_rows s.receiver_life s.now run q.place items
given_by s q items (A.Replied number window) = s.given
given_by s q items A.Dropped = s.given
given_by s q items (A.Acked count) = s.given
given_by s q items (A.Closing number) = s.given

abbrev pub reply_of : Option ReceiveRecord → FlowState → Packet → Arrived → List Packet
reply_of standing s q (A.Quiet until) = []
reply_of standing s q (A.Accepted run count) = []
reply_of standing s q (A.Replied number window) = (record { kind = Ack window; number = number; birth = s.now; place = ack_place standing s.given number q.place }) ∷ []
reply_of standing s q A.Dropped = []
reply_of standing s q (A.Acked count) = []
reply_of standing s q (A.Closing number) = []

abbrev pub with_receiver : FlowState → Receiver → FlowState
with_receiver s r = record s { receiver = r.standing; unread = r.unread }

-- a data packet comes to the receiver
abbrev pub data_flow : Params → FlowState → Packet → Bool → List Item → FlowState
data_flow p s q drf items =
    let r = after_data p (receiver_reading s) (receiver_of s) drf q.number items in
    record s { receiver = r.standing; unread = r.unread; given = given_by s q items (answer_to_data p (receiver_of s) drf q.number items) }

abbrev pub after_data_packet : Params → FlowState → Packet → Bool → List Item → FlowState
after_data_packet p s q drf items = if nat_lt (receiver_reading s) s.receiver_until then s else data_flow p s q drf items

abbrev pub made_by_data : Params → FlowState → Packet → Bool → List Item → List Packet
made_by_data p s q drf items = if nat_lt (receiver_reading s) s.receiver_until then [] else reply_of s.receiver s q (answer_to_data p (receiver_of s) drf q.number items)

-- a rendezvous packet comes to the receiver
abbrev pub after_meet_packet : Params → FlowState → Packet → FlowState
after_meet_packet p s q = if nat_lt (receiver_reading s) s.receiver_until then s else with_receiver s (after_meet p (receiver_of s))

abbrev pub made_by_meet : Params → FlowState → Packet → List Packet
made_by_meet p s q = if nat_lt (receiver_reading s) s.receiver_until then [] else reply_of s.receiver s q (answer_to_meet p (receiver_of s) q.number)

-- a closing packet with this number comes to the receiver. It is no packet of the flow, since no host makes one. That it changes nothing is a law
abbrev pub after_close_packet : Params → FlowState → ℕ → FlowState
after_close_packet p s number = if nat_lt (receiver_reading s) s.receiver_until then s else with_receiver s (after_close p (receiver_reading s) (receiver_of s) number)

-- a read of so many unread octets
abbrev pub after_reading : Params → FlowState → ℕ → FlowState
after_reading p s count =
    let r = after_read p (receiver_reading s) count (receiver_of s) in
    record s { receiver = r.standing; unread = r.unread; reads = note_read s.receiver_life count s.reads }

-- an act of the receive record y
abbrev pub after_receiver_act : Params → FlowState → RecvKind → FlowState
after_receiver_act p s kind = with_receiver s (after_recv_act p (receiver_of s) kind)

abbrev pub made_by_receiver : Params → FlowState → ReceiveRecord → RecvKind → List Packet
made_by_receiver p s y K.Release = []
made_by_receiver p s y K.Ack = (record { kind = Ack (free_of p s.unread); number = y.expected; birth = s.now; place = ack_place (Some y) s.given y.expected 0 }) ∷ []

-- time passes, and a station starts again: with empty tables, in its next life, silent for a quiet time
abbrev pub later_flow : FlowState → ℕ → FlowState
later_flow s by = record s { now = s.now + by }

abbrev pub sender_again : Params → FlowState → FlowState
sender_again p s = record s { sender = None; sender_life = s.sender_life + 1; sender_until = sender_reading s + quiet_time p }

abbrev pub receiver_again : Params → FlowState → FlowState
receiver_again p s = record s { receiver = None; receiver_life = s.receiver_life + 1; receiver_until = receiver_reading s + quiet_time p; unread = [] }
