-- A host as its callers see it: its parameters, the greatest moment that it was given, and the host of the model. And what its two tables mean.
use Rattle.std.specs.Prelude.{ℕ, ◌≡◌, List, Some}
use Rattle.dt_units.specs.declared.parameters.Params.{Params}
use Rattle.dt_units.specs.declared.endpoints.Flow.{Flow}
use Rattle.dt_flow_model.specs.SendRecord.{SendRecord}
use Rattle.dt_flow_model.specs.ReceiveRecord.{Receiver}
use Rattle.dt_send.specs.Senders.{SenderValue}
use Rattle.dt_recv.specs.Receivers.{ReceiverValue}
use Rattle.dt_world_model.specs.Tables.{AllEntries}
use Rattle.dt_world_model.specs.Host.{Host, kept_if}
use Rattle.dt_table.specs.Tables.{records_by}

pub record HostValue : Type 0 where
  pub rules : Params
  -- every later moment is no less
  pub latest : ℕ
  pub state : Host

abbrev pub send_record : SenderValue → SendRecord
send_record s = s.state

abbrev pub send_records : List (Flow × SenderValue) → List (Flow × SendRecord)
send_records es = records_by send_record es

abbrev pub receiver_in : ReceiverValue → Receiver
receiver_in r = r.state

abbrev pub receivers_of : List (Flow × ReceiverValue) → List (Flow × Receiver)
receivers_of es = records_by receiver_in es

-- An entry is of its flow, and its record has the host's parameters.
pub record IsSendEntry (p : Params) (f : Flow) (s : SenderValue) : Type 0 where
  pub rules : s.rules ≡ p
  pub flow : s.flow ≡ f

-- A receiver that is kept has a record, or unread octets.
pub record IsReceiveEntry (p : Params) (f : Flow) (r : ReceiverValue) : Type 0 where
  pub rules : r.rules ≡ p
  pub flow : r.flow ≡ f
  pub stays : kept_if r.state.unread r.state.standing ≡ Some r.state

abbrev pub AreSendEntries : Params → List (Flow × SenderValue) → Type 0
AreSendEntries p es = AllEntries (IsSendEntry p) es

abbrev pub AreReceiveEntries : Params → List (Flow × ReceiverValue) → Type 0
AreReceiveEntries p es = AllEntries (IsReceiveEntry p) es
