-- What is noted of a host's records, and how the notes follow a change of one flow's record.
use Rattle.std.specs.Prelude.{ℕ, ◌≡◌, ◌≤◌, [], ◌∷◌, Option}
use Rattle.dt_units.specs.Moments.{earlier}
use Rattle.dt_units.specs.declared.parameters.Params.{Params}
use Rattle.dt_flow_model.specs.SendRecord.{SendRecord}
use Rattle.dt_flow_model.specs.SendActs.{send_moments, wake_of}
use Rattle.dt_flow_model.specs.declared.acts.SendKind.{SendKind}
use Rattle.dt_flow_model.specs.declared.acts.SendKind.TheVariants as S
use Rattle.dt_flow_model.specs.declared.acts.RecvKind.{RecvKind}
use Rattle.dt_flow_model.specs.declared.acts.RecvKind.TheVariants as R
use Rattle.dt_flow_model.specs.declared.moments.SendMoments.{SendMoments}
use Rattle.dt_flow_model.specs.declared.moments.RecvMoments.{RecvMoments}
use Rattle.dt_flow_model.specs.ReceiveRecord.{Receiver, recv_moments}
use Rattle.dt_table.specs.Agendas.{Note}
use Rattle.dt_table.specs.Places.{slot}

-- OF A SENDER five kinds of acts are noted, and when to wake it
pub record SendNote : Type 0 where
  pub moments : SendMoments
  pub wake : Option ℕ

abbrev pub send_kinds : ℕ
send_kinds = 6

abbrev pub send_place : SendKind → ℕ
send_place S.GiveUp = 0
send_place S.Release = 1
send_place S.Resend = 2
send_place S.Send = 3
send_place S.Meet = 4

abbrev pub wake_place : ℕ
wake_place = 5

abbrev pub send_note_in : Note → SendNote
send_note_in n = record { moments = record { give_up = slot n 0; release = slot n 1; resend = slot n 2; send = slot n 3; meet = slot n 4 }; wake = slot n 5 }

abbrev pub note_of_send : SendNote → Note
note_of_send n = n.moments.give_up ∷ n.moments.release ∷ n.moments.resend ∷ n.moments.send ∷ n.moments.meet ∷ n.wake ∷ []

-- a note with another moment of the resend
abbrev pub with_resend : SendNote → Option ℕ → SendNote
with_resend n moment = record n { moments = record n.moments { resend = moment } }

-- OF A RECEIVER the kinds of its acts are noted: they tell when to wake it
abbrev pub recv_kinds : ℕ
recv_kinds = 2

abbrev pub recv_place : RecvKind → ℕ
recv_place R.Release = 0
recv_place R.Ack = 1

abbrev pub recv_note_in : Note → RecvMoments
recv_note_in n = record { release = slot n 0; ack = slot n 1 }

abbrev pub note_of_recv : RecvMoments → Note
note_of_recv m = m.release ∷ m.ack ∷ []

abbrev pub recv_wake : RecvMoments → Option ℕ
recv_wake m = earlier m.release m.ack

-- A sender's moments are noted as they stood at some moment of the past. All but that of a resend stand as long as the record does.
pub record IsSendNoted (p : Params) (latest : ℕ) (x : SendRecord) (n : SendNote) : Type 0 where
  pub since : ℕ
  pub past : since ≤ latest
  pub moments : n.moments ≡ send_moments p since x
  pub wake : n.wake ≡ wake_of p x

abbrev pub send_noted : Params → ℕ → SendRecord → SendNote
send_noted p now x = record { moments = send_moments p now x; wake = wake_of p x }

abbrev pub recv_noted : Params → Receiver → RecvMoments
recv_noted p r = recv_moments p r.standing

abbrev pub IsRecvNoted : Params → Receiver → RecvMoments → Type 0
IsRecvNoted p r n = n ≡ recv_noted p r
