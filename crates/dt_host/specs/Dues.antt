-- The first of the acts that a host's records offer, found by one walk over its two tables.
use Rattle.std.specs.Prelude.{ℕ, ◌≡◌, ◌==◌, Bool, ◌&&◌, ◌||◌, if◌then◌else◌, nat_lt, List, [], ◌∷◌, Option, Some, None}
use Rattle.dt_units.specs.declared.parameters.Params.{Params}
use Rattle.dt_units.specs.declared.endpoints.Flow.{Flow}
use Rattle.dt_flow_model.specs.declared.acts.SendKind.{SendKind}
use Rattle.dt_flow_model.specs.declared.acts.RecvKind.{RecvKind}
use Rattle.dt_flow_model.specs.SendRecord.{SendRecord}
use Rattle.dt_flow_model.specs.SendActs.{Act, act_of, due_of}
use Rattle.dt_flow_model.specs.ReceiveRecord.{ReceiveRecord, Receiver, recv_due_of}
use Rattle.dt_send.specs.Senders.{SenderValue}
use Rattle.dt_recv.specs.Receivers.{ReceiverValue}
use Rattle.dt_world_model.specs.Host.{Host, next_turn, offers, recv_act, recv_class, send_act, send_class, sender_at, turn_of}
use Rattle.dt_world_model.specs.Tables.{look, same_flow}
use Rattle.dt_host.specs.declared.dues.DueAct.{DueAct}
use Rattle.dt_host.specs.declared.dues.DueKind.{DueKind}
use Rattle.dt_host.specs.declared.dues.DueKind.TheVariants as due

abbrev pub class_of : DueKind → ℕ
class_of (due.Send kind) = send_class kind
class_of (due.Recv kind) = recv_class kind

-- whether an act goes before one of a record that was made earlier
abbrev pub goes_first : DueAct → DueAct → Bool
goes_first act other = nat_lt (class_of act.kind) (class_of other.kind) || ((class_of act.kind == class_of other.kind) && nat_lt act.moment other.moment)

-- the first of those so far, and of one that follows
abbrev pub sooner_of : Option DueAct → DueAct → DueAct
sooner_of None act = act
sooner_of (Some best) act = if goes_first act best then act else best

abbrev pub or_send : Flow → Option (SendKind × ℕ) → Option DueAct → Option DueAct
or_send f None best = best
or_send f (Some (kind, moment)) best = Some (sooner_of best (record { kind = due.Send kind; moment = moment; flow = f }))

abbrev pub or_recv : Flow → Option (RecvKind × ℕ) → Option DueAct → Option DueAct
or_recv f None best = best
or_recv f (Some (kind, moment)) best = Some (sooner_of best (record { kind = due.Recv kind; moment = moment; flow = f }))

-- the walk over the senders, and the one over the receivers
abbrev pub soonest_send : ℕ → Option DueAct → List (Flow × SenderValue) → Option DueAct
soonest_send now best [] = best
soonest_send now best (e ∷ es) = soonest_send now (or_send e.0 (due_of e.1.rules now e.1.state) best) es

abbrev pub soonest_recv : ℕ → Option DueAct → List (Flow × ReceiverValue) → Option DueAct
soonest_recv now best [] = best
soonest_recv now best (e ∷ es) = soonest_recv now (or_recv e.0 (recv_due_of e.1.rules now e.1.state.standing) best) es

-- The send record that was found, and the act that it has due.
pub record HasDue (p : Params) (now : ℕ) (found : Option SendRecord) (x : SendRecord) (act : Act) : Type 0 where
  pub there : found ≡ Some x
  pub chosen : act_of p now x ≡ Some act

-- The receive record that was found, and the kind of act that it has due.
pub record HasRecvDue (p : Params) (now : ℕ) (found : Option Receiver) (r : Receiver) (y : ReceiveRecord) (kind : RecvKind) (moment : ℕ) : Type 0 where
  pub there : found ≡ Some r
  pub stands : r.standing ≡ Some y
  pub chosen : recv_due_of p now (Some y) ≡ Some (kind, moment)

-- What comes next at now, as the model has it: nothing where the host is current, else the turn of the record that offers the act.
abbrev pub IsNextOf : Params → ℕ → Host → Flow → DueKind → Type 0
IsNextOf p now host f (due.Send kind) = (x : SendRecord) × (act : Act) × HasDue p now (sender_at host f) x act × (next_turn p now host ≡ Some (turn_of p now host (send_act f x act)))
IsNextOf p now host f (due.Recv kind) = (r : Receiver) × (y : ReceiveRecord) × (moment : ℕ) × HasRecvDue p now (look same_flow f host.receivers) r y kind moment × (next_turn p now host ≡ Some (turn_of p now host (recv_act f y kind)))

abbrev pub IsNext : Params → ℕ → Host → Option DueAct → Type 0
IsNext p now host None = (offers p now host ≡ []) × (next_turn p now host ≡ None)
IsNext p now host (Some act) = IsNextOf p now host act.flow act.kind
