-- The turn that the walk found: what the host is after it, and that the work falls.
use Rattle.std.proofs.Common.{ℕ, ◌≡◌, ◌<◌, List, Option, Some, sym, ap, subst, ◌∙◌}
use Rattle.std.specs.Prelude.{unwrap_or}
use Rattle.dt_units.specs.declared.parameters.Params.{Params}
use Rattle.dt_units.specs.declared.endpoints.Flow.{Flow}
use Rattle.dt_units.specs.Limits.{IsWithinLimits}
use Rattle.dt_flow_model.specs.declared.acts.SendKind.{SendKind}
use Rattle.dt_flow_model.specs.declared.acts.RecvKind.{RecvKind}
use Rattle.dt_flow_model.specs.SendRecord.{SendRecord}
use Rattle.dt_flow_model.specs.SendActs.{Act, record_after}
use Rattle.dt_flow_model.specs.ReceiveRecord.{ReceiveRecord, Receiver, after_recv_act}
use Rattle.dt_world_model.specs.Host.{Host, host_with_receiver, next_turn, no_receiver, recv_act, send_act, turn_of, work}
use Rattle.dt_world_model.specs.Tables.{look, same_flow, write_or_erase}
use Rattle.dt_world_model.proofs.Work.{turn_falls}
use Rattle.dt_host.specs.declared.dues.DueKind.{DueKind}
use Rattle.dt_host.specs.declared.dues.DueKind.TheVariants as due
use Rattle.dt_host.specs.Answers.{host_after}
use Rattle.dt_host.specs.Dues.{HasDue, HasRecvDue, IsNextOf}

module _ (p : Params) (now : ℕ) (host : Host) (f : Flow) (found : DueKind) (next : IsNextOf p now host f found) where
  -- A SENDER'S ACT
  module _ (kind : SendKind) (is : found ≡ due.Send kind) (ss : List (Flow × SendRecord))
      (after : (x : SendRecord) (act : Act) → HasDue p now (look same_flow f host.senders) x act → ss ≡ write_or_erase same_flow f (record_after p now x act) host.senders) where
    pub send_falls : IsWithinLimits p → work p now (record host { senders = ss }) < work p now host
    send_falls limits =
        let n : IsNextOf p now host f (due.Send kind) = subst (λ (k : DueKind). IsNextOf p now host f k) is next in
        subst (λ (us : List (Flow × SendRecord)). work p now (record host { senders = us }) < work p now host) (sym (after n.0 n.1 n.2)) (turn_falls p limits now host (send_act f n.0 n.1) (n.2.there, n.2.chosen))

  -- A RECEIVER'S ACT
  module _ (kind : RecvKind) (is : found ≡ due.Recv kind) (rs : List (Flow × Receiver))
      (after : (r : Receiver) (y : ReceiveRecord) (kind : RecvKind) (moment : ℕ) → HasRecvDue p now (look same_flow f host.receivers) r y kind moment
      → (h : Host) → record h { receivers = rs } ≡ host_with_receiver (record h { receivers = host.receivers }) f (after_recv_act p r kind)) where
    next_recv : IsNextOf p now host f (due.Recv kind)
    next_recv = subst (λ (k : DueKind). IsNextOf p now host f k) is next

    here : unwrap_or (look same_flow f host.receivers) no_receiver ≡ next_recv.0
    here = ap (λ (o : Option Receiver). unwrap_or o no_receiver) next_recv.3.there

    becomes : record host { receivers = rs } ≡ (turn_of p now host (recv_act f next_recv.1 kind)).host
    becomes =
        after next_recv.0 next_recv.1 kind next_recv.2 next_recv.3 host
        ∙ ap (λ (r : Receiver). host_with_receiver host f (after_recv_act p r kind)) (sym here)

    pub recv_after : record host { receivers = rs } ≡ host_after host (next_turn p now host)
    recv_after = becomes ∙ ap (host_after host) (sym next_recv.4)

    pub recv_falls : IsWithinLimits p → work p now (record host { receivers = rs }) < work p now host
    recv_falls limits =
        let stands : (unwrap_or (look same_flow f host.receivers) no_receiver).standing ≡ Some next_recv.1 = ap (λ (r : Receiver). r.standing) here ∙ next_recv.3.stands in
        subst (λ (h : Host). work p now h < work p now host) (sym becomes) (turn_falls p limits now host (recv_act f next_recv.1 kind) (stands, next_recv.2, next_recv.3.chosen))
