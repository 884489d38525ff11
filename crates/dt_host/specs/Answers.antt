-- What a host answers, by what the model answers.
use Rattle.std.specs.Prelude.{ℕ, ◌≡◌, Bool, false, IfOk, length, List, Option, Some, None, Result, Ok, Err}
use Rattle.dt_items.specs.declared.item.Item.{Item}
use Rattle.dt_items.specs.Unread.{marked}
use Rattle.dt_items.specs.declared.memory.NoMemory.{NoMemory}
use Rattle.dt_units.specs.declared.parameters.Params.{Params}
use Rattle.dt_units.specs.declared.endpoints.Flow.{Flow}
use Rattle.dt_layout.specs.Spelling.{PacketValue, Data, Ack, Meet, Close}
use Rattle.dt_flow_model.specs.declared.faults.PutFault.{PutFault}
use Rattle.dt_flow_model.specs.declared.faults.PutFault.TheVariants as put_fault
use Rattle.dt_flow_model.specs.declared.arrivals.Arrived.{Arrived}
use Rattle.dt_flow_model.specs.Acting.{record_for}
use Rattle.dt_flow_model.specs.Frames.{reply_frame}
use Rattle.dt_flow_model.specs.declared.arrivals.Action.TheVariants.{Make}
use Rattle.dt_flow_model.specs.ReceiveRecord.{action_on, after_data, answer_to_data}
use Rattle.dt_flow_model.specs.SendRecord.{put_fault as put_fault_of}
use Rattle.dt_send.specs.Senders.{SenderValue}
use Rattle.dt_recv.specs.Receivers.{ReceiverValue}
use Rattle.dt_reports.specs.declared.faults.Refusal.{Refusal}
use Rattle.dt_reports.specs.declared.faults.Refusal.TheVariants as refusal
use Rattle.dt_reports.specs.Told.{Told}
use Rattle.dt_world_model.specs.Tables.{same_flow, look}
use Rattle.dt_world_model.specs.Host.{Host, Turn, host_with_receiver, receiver_at, send_into, sender_at, told_recv, told_send}
use Rattle.dt_host.specs.declared.acts.Act.TheVariants as act
use Rattle.dt_host.specs.declared.acts.Act.{Act}
use Rattle.dt_host.specs.declared.acts.Done.{Done}
use Rattle.dt_host.specs.Hosts.{receivers_of, send_records}
use Rattle.dt_host.specs.declared.faults.SendFault.{SendFault}
use Rattle.dt_host.specs.declared.faults.SendFault.TheVariants as fault

abbrev pub send_fault_of : PutFault → SendFault
send_fault_of (put_fault.Full free) = fault.Full free

-- A send is answered as the model answers it. Where there was no memory, it would have been taken.
abbrev pub IsRefusedBy : SendFault → Option Refusal → Type 0
IsRefusedBy (fault.Quiet until) asked = asked ≡ Some (refusal.Quiet until)
IsRefusedBy (fault.Full free) asked = asked ≡ Some (refusal.Full free)
IsRefusedBy fault.NoMemory asked = asked ≡ None

abbrev pub IsAnswerTo : Option Refusal → Result (Unit {0}) SendFault → Type 0
IsAnswerTo asked (Ok done) = asked ≡ None
IsAnswerTo asked (Err fault) = IsRefusedBy fault asked

-- what there is after a call: what the model has where there was memory, else what was there
abbrev pub or_stays : {A E : Type 0} → Result A E → Host → Host → Host
or_stays (Ok done) after before = after
or_stays (Err fault) after before = before

-- the frame that replies, where one does
abbrev pub replied : Params → Flow → Result Arrived NoMemory → Option (List ℕ)
replied p f (Ok answer) = reply_frame p f answer
replied p f (Err fault) = None

-- A receiver is made for this packet: its flow has none, and the table of cases says so.
abbrev pub IsMade : Params → Flow → PacketValue → Host → Type 0
IsMade p f (Data from_port to_port number drf begin end octets) host = (look same_flow f host.receivers ≡ None) × (action_on p (receiver_at host f) drf number (marked octets begin end false) ≡ Make)
IsMade p f (Ack from_port to_port number window) host = ⊥
IsMade p f (Meet from_port to_port number) host = ⊥
IsMade p f (Close from_port to_port number) host = ⊥

-- what is reported of an act, the frame that it made, and the host after it or as it was
abbrev pub told_act : Flow → Act → Told
told_act f (act.Send done) = told_send f done
told_act f (act.Recv done) = told_recv f done

abbrev pub told_done : Done → Told
told_done done = told_act done.flow done.act

abbrev pub frame_made : Option Turn → Option (List ℕ)
frame_made None = None
frame_made (Some turn) = turn.frame

abbrev pub host_after : Host → Option Turn → Host
host_after host None = host
host_after host (Some turn) = turn.host

-- A send on a table of senders: whatever else the host has, it answers and becomes what the model says.
abbrev pub IsSent : Params → ℕ → Flow → List Item → List (Flow × SenderValue) → List (Flow × SenderValue) → Result (Unit {0}) SendFault → Type 0
IsSent p now f items old new result =
    (host : Host) → let before = record host { senders = send_records old } in
    let x = record_for p now (sender_at before f) in
    let done = send_into f items x before (put_fault_of p x (length items)) in
    IsAnswerTo done.0 result × (record host { senders = send_records new } ≡ or_stays result done.1 before)

-- A data packet on a table of receivers: what is answered, and the host after it, whatever else it has.
abbrev pub IsDataAnswer : Params → Flow → Bool → ℕ → List Item → List (Flow × ReceiverValue) → Result Arrived NoMemory → Type 0
IsDataAnswer p f drf number items old result =
    (host : Host) → let before = record host { receivers = receivers_of old } in
    IfOk result (λ answer. answer ≡ answer_to_data p (receiver_at before f) drf number items)

abbrev pub IsDataTaken : Params → ℕ → Flow → Bool → ℕ → List Item → List (Flow × ReceiverValue) → List (Flow × ReceiverValue) → Result Arrived NoMemory → Type 0
IsDataTaken p now f drf number items old new result =
    (host : Host) → let before = record host { receivers = receivers_of old } in
    let r = after_data p now (receiver_at before f) drf number items in
    record host { receivers = receivers_of new } ≡ or_stays result (host_with_receiver before f r) before
