-- A host: all records of one node. What is sent, read or comes is of one flow, and is done by that flow's record. Moments are readings of the host's clock.
use Rattle.std.specs.Prelude.{ℕ, ◌+◌, ◌==◌, ◌≡◌, Bool, true, false, ◌&&◌, ◌||◌, if◌then◌else◌, nat_lt, nat_le, List, [], ◌∷◌, ◌++◌, flat_map, fold, is_some, length, option_and_then, option_map, Option, Some, None, unwrap_or}
use Rattle.dt_items.specs.declared.item.Item.{Item}
use Rattle.dt_items.specs.Unread.{marked, first_piece}
use Rattle.dt_units.specs.declared.parameters.Params.{Params}
use Rattle.dt_units.specs.declared.endpoints.Flow.{Flow}
use Rattle.dt_units.specs.Times.{send_time, quiet_time}
use Rattle.dt_layout.specs.Spelling.{PacketValue, Data, Ack, Meet, Close}
use Rattle.dt_reports.specs.declared.faults.Refusal.{Refusal}
use Rattle.dt_reports.specs.declared.faults.Refusal.TheVariants as refusal
use Rattle.dt_reports.specs.declared.reports.Report.TheVariants as report
use Rattle.dt_reports.specs.Told.{Told}
use Rattle.dt_flow_model.specs.declared.acts.SendKind.{SendKind}
use Rattle.dt_flow_model.specs.declared.acts.SendKind.TheVariants as S
use Rattle.dt_flow_model.specs.declared.acts.SendAct.{SendAct}
use Rattle.dt_flow_model.specs.declared.acts.SendAct.TheVariants as A
use Rattle.dt_flow_model.specs.declared.acts.RecvKind.{RecvKind}
use Rattle.dt_flow_model.specs.declared.acts.RecvKind.TheVariants as R
use Rattle.dt_flow_model.specs.declared.acts.RecvAct.{RecvAct}
use Rattle.dt_flow_model.specs.declared.acts.RecvAct.TheVariants as T
use Rattle.dt_flow_model.specs.declared.arrivals.Arrived.{Arrived}
use Rattle.dt_flow_model.specs.declared.arrivals.Arrived.TheVariants as arrived
use Rattle.dt_flow_model.specs.declared.faults.PutFault.{PutFault}
use Rattle.dt_flow_model.specs.declared.faults.PutFault.TheVariants as fault
use Rattle.dt_flow_model.specs.SendRecord.{Segment, SendRecord, put, put_fault, on_ack}
use Rattle.dt_flow_model.specs.SendActs.{Act, act_of, kind_of, due_moment, record_after, told_of, wake_of}
use Rattle.dt_flow_model.specs.ReceiveRecord.{ReceiveRecord, Receiver, after_data, answer_to_data, after_meet, answer_to_meet, answer_to_close, after_read, recv_due_of, after_recv_act, recv_told_of, recv_wake_of}
use Rattle.dt_flow_model.specs.Acting.{record_for}
use Rattle.dt_flow_model.specs.Frames.{flow_of, number_in, frame_of_act, recv_frame}
use Rattle.dt_units.specs.Flows.{IsFlow}
use Rattle.dt_units.specs.Moments.{earlier}
use Rattle.dt_flow_model.specs.Keeping.{IsSendRecord, IsReceiverKept}
use Rattle.dt_world_model.specs.Tables.{same_flow, look, write_or_erase, Distinct, AllEntries, earliest, total}

pub record Host : Type 0 where
  pub me : ℕ
  -- it is silent before this moment
  pub until : ℕ
  -- the records, in the order of their making
  pub senders : List (Flow × SendRecord)
  pub receivers : List (Flow × Receiver)

abbrev pub first_host : ℕ → Host
first_host me = record { me = me; until = 0; senders = []; receivers = [] }

abbrev pub restarted_host : Params → ℕ → ℕ → Host
restarted_host p me now = record { me = me; until = now + quiet_time p; senders = []; receivers = [] }

abbrev pub sender_at : Host → Flow → Option SendRecord
sender_at host f = look same_flow f host.senders

-- what stands for the receiver of a flow that has none
abbrev pub no_receiver : Receiver
no_receiver = record { unread = []; standing = None }

abbrev pub receiver_at : Host → Flow → Receiver
receiver_at host f = unwrap_or (look same_flow f host.receivers) no_receiver

-- a receiver without a record and without unread octets isn't kept
abbrev pub kept_if : List Item → Option ReceiveRecord → Option Receiver
kept_if [] None = None
kept_if [] (Some y) = Some (record { unread = []; standing = Some y })
kept_if (i ∷ is) standing = Some (record { unread = i ∷ is; standing = standing })

abbrev pub host_with_sender : Host → Flow → Option SendRecord → Host
host_with_sender host f x = record host { senders = write_or_erase same_flow f x host.senders }

abbrev pub host_with_receiver : Host → Flow → Receiver → Host
host_with_receiver host f r = record host { receivers = write_or_erase same_flow f (kept_if r.unread r.standing) host.receivers }

-- OCTETS ARE SENT. First the quiet time is tested, then the room. A refusal changes nothing: a record that would have been made isn't.
abbrev pub send_into : Flow → List Item → SendRecord → Host → Option PutFault → Option Refusal × Host
send_into f items x host (Some (fault.Full free)) = (Some (refusal.Full free), host)
send_into f items x host None = (None, host_with_sender host f (Some (put items x)))

abbrev pub send_octets : Params → ℕ → Flow → List Item → Host → Option Refusal × Host
send_octets p now f items host =
    let x = record_for p now (sender_at host f) in
    if nat_lt now host.until then (Some (refusal.Quiet host.until), host) else send_into f items x host (put_fault p x (length items))

-- OCTETS ARE READ, at most so many: the piece, and the host after it. Where nothing is unread nothing changes.
abbrev pub read_piece : Params → ℕ → Flow → List Item → Host → List Item × Host
read_piece p now f [] host = ([], host)
read_piece p now f (i ∷ is) host = (i ∷ is, host_with_receiver host f (after_read p now (length (i ∷ is)) (receiver_at host f)))

abbrev pub read_octets : Params → ℕ → Flow → ℕ → Host → List Item × Host
read_octets p now f most host = read_piece p now f (first_piece most (receiver_at host f).unread) host

-- A PACKET COMES from a node. A host in its quiet time hears nothing.
-- an acknowledgement: the sender after it and how many octets it acknowledged. It is dropped where there is no sender, or where its number is none that the sender waits for
abbrev pub ack_answer : Host → Flow → Option (SendRecord × ℕ) → Arrived × Host
ack_answer host f None = (arrived.Dropped, host)
ack_answer host f (Some (x, count)) = (arrived.Acked count, host_with_sender host f (Some x))

-- a packet of the flow: data, a rendezvous and a closing packet go to its receiver, an acknowledgement to its sender
abbrev pub comes : Params → ℕ → Flow → PacketValue → Host → Arrived × Host
comes p now f (Data from_port to_port number drf begin end octets) host =
    let items = marked octets begin end false in
    (answer_to_data p (receiver_at host f) drf number items, host_with_receiver host f (after_data p now (receiver_at host f) drf number items))
comes p now f (Ack from_port to_port number window) host = ack_answer host f (option_and_then (λ x. on_ack p x number window) (sender_at host f))
comes p now f (Meet from_port to_port number) host = (answer_to_meet p (receiver_at host f) number, host_with_receiver host f (after_meet p (receiver_at host f)))
-- a closing packet is reported or dropped, and changes nothing
comes p now f (Close from_port to_port number) host = (answer_to_close (receiver_at host f) number, host)

abbrev pub arrive : Params → ℕ → ℕ → PacketValue → Host → Arrived × Host
arrive p now from v host = if nat_lt now host.until then (arrived.Quiet host.until, host) else comes p now (flow_of from host.me v) v host

-- what is reported of it. A dropped acknowledgement is reported as ignored
abbrev pub told_dropped : Flow → PacketValue → Told
told_dropped f (Data from_port to_port number drf begin end octets) = report.Dropped f number
told_dropped f (Ack from_port to_port number window) = report.Ignored f number window
told_dropped f (Meet from_port to_port number) = report.Dropped f number
told_dropped f (Close from_port to_port number) = report.Dropped f number

-- the window in an acknowledgement. Nothing else has one, and nothing else is answered with a count of acknowledged octets
abbrev pub window_in : PacketValue → ℕ
window_in (Data from_port to_port number drf begin end octets) = 0
window_in (Ack from_port to_port number window) = window
window_in (Meet from_port to_port number) = 0
window_in (Close from_port to_port number) = 0

abbrev pub told_arrival : Flow → PacketValue → Arrived → Told
told_arrival f v (arrived.Quiet until) = report.Quiet until
told_arrival f v (arrived.Accepted run count) = report.Accepted f (number_in v) count run
told_arrival f v (arrived.Replied number window) = report.Replied f number window
told_arrival f v arrived.Dropped = told_dropped f v
told_arrival f v (arrived.Acked count) = report.Settled f count (window_in v)
told_arrival f v (arrived.Closing number) = report.Closing f number

-- THE ACTS. Each record offers the first of its acts that is due. The act at now is the least by class, then by due moment; of equals the record that was made first goes first.
pub data HostAct : Type 0 where
  send_act : (f : Flow) → (x : SendRecord) → (act : Act) → HostAct
  recv_act : (f : Flow) → (y : ReceiveRecord) → (kind : RecvKind) → HostAct

pub record Offer : Type 0 where
  pub class : ℕ
  pub moment : ℕ
  pub act : HostAct

-- The seven classes: give up; release or renew a sender; release a receiver; acknowledge; send again; send; ask for the window. A class is of senders alone or of receivers alone, so that the order of making is that of one table.
abbrev pub send_class : SendKind → ℕ
send_class S.GiveUp = 0
send_class S.Release = 1
send_class S.Resend = 4
send_class S.Send = 5
send_class S.Meet = 6

abbrev pub recv_class : RecvKind → ℕ
recv_class R.Release = 2
recv_class R.Ack = 3

abbrev pub send_offer : Params → Flow → SendRecord → Option Act → List Offer
send_offer p f x None = []
send_offer p f x (Some act) = (record { class = send_class (kind_of act); moment = due_moment p x act; act = send_act f x act }) ∷ []

abbrev pub recv_offer : Flow → Option ReceiveRecord → Option (RecvKind × ℕ) → List Offer
recv_offer f None due = []
recv_offer f (Some y) None = []
recv_offer f (Some y) (Some (kind, moment)) = (record { class = recv_class kind; moment = moment; act = recv_act f y kind }) ∷ []

abbrev pub send_offers : Params → ℕ → List (Flow × SendRecord) → List Offer
send_offers p now senders = flat_map (λ e. send_offer p e.0 e.1 (act_of p now e.1)) senders

abbrev pub recv_offers : Params → ℕ → List (Flow × Receiver) → List Offer
recv_offers p now receivers = flat_map (λ e. recv_offer e.0 e.1.standing (recv_due_of p now e.1.standing)) receivers

abbrev pub offers : Params → ℕ → Host → List Offer
offers p now host = send_offers p now host.senders ++ recv_offers p now host.receivers

-- whether an offer goes before one that stands earlier
abbrev pub goes_before : Offer → Offer → Bool
goes_before o other = nat_lt o.class other.class || ((o.class == other.class) && nat_lt o.moment other.moment)

abbrev pub least : List Offer → Option Offer
least [] = None
least (o ∷ rest) = Some (fold (λ best other. if goes_before other best then other else best) o rest)

-- an act that was done: what is reported of it, the frame that it made, and the host after it
pub record Turn : Type 0 where
  pub told : Told
  pub frame : Option (List ℕ)
  pub host : Host

abbrev pub told_send : Flow → SendAct → Told
told_send f (A.GaveUp count) = report.Uncertain f count
told_send f A.Released = report.Released f true
told_send f A.Renewed = report.Renewed f
told_send f (A.Resent cut) = report.Resent f cut.number cut.length cut.drf cut.begin cut.end
told_send f (A.Sent cut) = report.Sent f cut.number cut.length cut.drf cut.begin cut.end
told_send f (A.Met number) = report.Met f number

abbrev pub told_recv : Flow → RecvAct → Told
told_recv f T.Released = report.Released f false
told_recv f (T.Acked number window) = report.Acked f number window

abbrev pub turn_of : Params → ℕ → Host → HostAct → Turn
turn_of p now host (send_act f x act) = record { told = told_send f (told_of p x act); frame = frame_of_act p f x act; host = host_with_sender host f (record_after p now x act) }
turn_of p now host (recv_act f y kind) =
    let act = recv_told_of p (receiver_at host f).unread y kind in
    record { told = told_recv f act; frame = recv_frame p f act; host = host_with_receiver host f (after_recv_act p (receiver_at host f) kind) }

abbrev pub next_turn : Params → ℕ → Host → Option Turn
next_turn p now host = option_map (λ o. turn_of p now host o.act) (least (offers p now host))

-- no act is due at now
abbrev pub IsCurrentHost : Params → ℕ → Host → Type 0
IsCurrentHost p now host = offers p now host ≡ []

-- THE WAKE: the least moment at which an act of any record is due, and none where none ever is.
abbrev pub host_wake : Params → Host → Option ℕ
host_wake p host = earlier (earliest (λ e. wake_of p e.1) host.senders) (earliest (λ e. recv_wake_of p e.1.standing) host.receivers)

-- THE WORK THAT IS LEFT AT A MOMENT, a number that each act lowers: no host can do more acts at one moment.
abbrev pub one_if : Bool → ℕ
one_if true = 1
one_if false = 0

-- a segment may be given up, and go again
abbrev pub segment_work : Params → ℕ → Segment → ℕ
segment_work p now g = 1 + one_if (nat_le (g.last + p.rto) now)

-- a record may go, begin anew, ask for the window; each octet that waits may go out in a segment of its own, which may be given up
abbrev pub record_work : Params → ℕ → SendRecord → ℕ
record_work p now x = 1 + one_if (nat_le (x.touched + send_time p) now) + one_if (nat_le (x.touched + p.probe) now) + total (segment_work p now) x.outstanding + (length x.waiting + length x.waiting)

-- a receive record may acknowledge, and go
abbrev pub standing_work : Option ReceiveRecord → ℕ
standing_work None = 0
standing_work (Some y) = 1 + one_if (is_some y.due)

abbrev pub work : Params → ℕ → Host → ℕ
work p now host = total (λ e. record_work p now e.1) host.senders + total (λ e. standing_work e.1.standing) host.receivers

-- WHAT A HOST KEEPS, so that its packets can be spelled, and read again as what they were
pub record IsSender (p : Params) (me : ℕ) (f : Flow) (x : SendRecord) : Type 0 where
  pub flow : IsFlow f
  pub from : f.from.0 ≡ me
  pub kept : IsSendRecord p x

pub record IsReceiver (p : Params) (me : ℕ) (f : Flow) (r : Receiver) : Type 0 where
  pub flow : IsFlow f
  pub to : f.to.0 ≡ me
  pub kept : IsReceiverKept p r

pub record IsHost (p : Params) (host : Host) : Type 0 where
  -- each flow has one sender and one receiver
  pub one_sender : Distinct same_flow host.senders
  pub one_receiver : Distinct same_flow host.receivers
  pub senders : AllEntries (IsSender p host.me) host.senders
  pub receivers : AllEntries (IsReceiver p host.me) host.receivers
