-- The act of one kind that comes first, by the records that stand; and how many senders missed a resend.
use Rattle.std.specs.Prelude.{ℕ, ◌≡◌, ◌+◌, ◌<◌, ◌≤◌, Bool, ◌&&◌, nat_le, nat_lt, List, slice_get, Option, Some}
use Rattle.std.specs.List.{list_any}
use Rattle.dt_units.specs.declared.parameters.Params.{Params}
use Rattle.dt_units.specs.declared.endpoints.Flow.{Flow}
use Rattle.dt_flow_model.specs.declared.acts.SendKind.{SendKind}
use Rattle.dt_flow_model.specs.declared.acts.RecvKind.{RecvKind}
use Rattle.dt_flow_model.specs.SendRecord.{Segment, SendRecord}
use Rattle.dt_flow_model.specs.SendActs.{send_moment, send_moments}
use Rattle.dt_flow_model.specs.ReceiveRecord.{recv_moment, recv_moments}
use Rattle.dt_send.specs.Senders.{SenderValue}
use Rattle.dt_recv.specs.Receivers.{ReceiverValue}
use Rattle.dt_world_model.specs.Host.{one_if}
use Rattle.dt_world_model.specs.Tables.{total}
use Rattle.dt_host.specs.declared.dues.DueAct.{DueAct}
use Rattle.dt_host.specs.declared.dues.DueKind.{DueKind}

-- A segment's resend was missed: it was to go out again before now, and may do so no more. And how many senders hold such a segment.
abbrev pub is_missed : Params → ℕ → Segment → Bool
is_missed p now g = nat_lt (g.last + p.rto) (g.first + p.r) && nat_le (g.first + p.r) now

abbrev pub has_missed : Params → ℕ → SendRecord → Bool
has_missed p now x = list_any (is_missed p now) x.outstanding

abbrev pub missed_senders : Params → ℕ → List (Flow × SendRecord) → ℕ
missed_senders p now rs = total (λ e. one_if (has_missed p now e.1)) rs

-- ONE KIND, over entries of which each has a moment of that kind or none
module _ {A : Type 0} (moment : A → Option ℕ) (now : ℕ) (es : List (Flow × A)) where
  -- it is due of none
  abbrev pub IsQuiet : Type 0
  IsQuiet = (i : ℕ) (e : Flow × A) (m : ℕ) → slice_get es i ≡ Some e → moment e.1 ≡ Some m → now < m

  -- it is due, and comes first of its kind
  pub record IsSoonest (kind : DueKind) (d : DueAct) : Type 0 where
    pub is : d.kind ≡ kind
    pub index : ℕ
    pub owner : A
    pub entry : slice_get es index ≡ Some (d.flow, owner)
    pub here : moment owner ≡ Some d.moment
    pub come : d.moment ≤ now
    pub least : (i : ℕ) (e : Flow × A) (m : ℕ) → slice_get es i ≡ Some e → moment e.1 ≡ Some m → d.moment ≤ m
    pub before : (i : ℕ) (e : Flow × A) (m : ℕ) → i < index → slice_get es i ≡ Some e → moment e.1 ≡ Some m → d.moment < m

abbrev pub sender_moment : Params → ℕ → SendKind → SenderValue → Option ℕ
sender_moment p now kind s = send_moment (send_moments p now s.state) kind

abbrev pub receiver_moment : Params → RecvKind → ReceiverValue → Option ℕ
receiver_moment p kind r = recv_moment (recv_moments p r.state.standing) kind
