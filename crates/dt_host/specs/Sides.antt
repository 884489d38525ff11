-- The two sides of a host as it sees them: the parameters, the latest moment, and the records with their flows in the order of their making. And how the records stand in their places, each with its note.
use Rattle.std.specs.Prelude.{ℕ, List, Option}
use Rattle.dt_units.specs.declared.parameters.Params.{Params}
use Rattle.dt_units.specs.declared.endpoints.Flow.{Flow}
use Rattle.dt_send.specs.Senders.{SenderValue}
use Rattle.dt_recv.specs.Receivers.{ReceiverValue}
use Rattle.dt_table.specs.Agendas.{Note, Tables}
use Rattle.dt_host.specs.Notes.{recv_kinds, recv_note_in, send_kinds, send_note_in}
use Rattle.dt_host.specs.Hosts.{IsReceiveEntry, IsSendEntry}
use Rattle.dt_host.specs.Notes.{IsRecvNoted, IsSendNoted}
use Rattle.dt_table.specs.Tables.{IsTable}

pub record SendSideValue : Type 0 where
  pub rules : Params
  pub latest : ℕ
  pub entries : List (Flow × SenderValue)

pub record RecvSideValue : Type 0 where
  pub rules : Params
  pub latest : ℕ
  pub entries : List (Flow × ReceiverValue)

-- A record is of its flow and has the parameters of all, and what is noted of it tells when it may act.
pub record IsSendKept (p : Params) (latest : ℕ) (f : Flow) (s : SenderValue) (n : Note) : Type 0 where
  pub entry : IsSendEntry p f s
  pub noted : IsSendNoted p latest s.state (send_note_in n)

pub record IsRecvKept (p : Params) (f : Flow) (r : ReceiverValue) (n : Note) : Type 0 where
  pub entry : IsReceiveEntry p f r
  pub noted : IsRecvNoted p r.state (recv_note_in n)

abbrev pub IsSendSide : Params → ℕ → List (Option Flow) → List (Option (Flow × SenderValue)) → Tables → Type 0
IsSendSide p latest flows slots t = IsTable (IsSendKept p latest) send_kinds flows slots t

abbrev pub IsRecvSide : Params → List (Option Flow) → List (Option (Flow × ReceiverValue)) → Tables → Type 0
IsRecvSide p flows slots t = IsTable (IsRecvKept p) recv_kinds flows slots t
