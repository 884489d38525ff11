-- What a host keeps stays so: one record of it changes, or goes.
use Rattle.std.proofs.Common.{ℕ, ◌≡◌, List, [], ◌∷◌, Option, Some, None, refl, subst}
use Rattle.std.specs.Prelude.{unwrap_or}
use Rattle.dt_items.specs.declared.item.Item.{Item}
use Rattle.dt_units.specs.declared.parameters.Params.{Params}
use Rattle.dt_units.specs.declared.endpoints.Flow.{Flow}
use Rattle.dt_units.specs.Limits.{IsWithinLimits}
use Rattle.dt_flow_model.proofs.Chosen.{act_is_due}
use Rattle.dt_flow_model.specs.ReceiveRecord.{ReceiveRecord, Receiver, after_recv_act}
use Rattle.dt_flow_model.specs.SendActs.{record_after}
use Rattle.dt_flow_model.specs.SendRecord.{SendRecord}
use Rattle.dt_flow_laws.proofs.Records.{recv_act_kept}
use Rattle.dt_world_model.specs.Host.{Host, HostAct, IsHost, IsReceiver, IsSender, Turn, host_with_receiver, host_with_sender, kept_if, next_turn, receiver_at, recv_act, send_act, turn_of, no_receiver}
use Rattle.dt_world_model.specs.Tables.{AllEntries, look, same_flow}
use Rattle.dt_world_model.proofs.Offers.{IsOf, next_turn_is}
use Rattle.dt_world_laws.proofs.Spelled.{record_kept}
use Rattle.dt_world_model.proofs.Tables.{all_look, all_set, distinct_set, flow_is, flow_self}

pub sender_written : (p : Params) (host : Host) (f : Flow) (after : Option SendRecord) → IsHost p host → ((y : SendRecord) → after ≡ Some y → IsSender p host.me f y) → IsHost p (host_with_sender host f after)
sender_written p host f after h is =
    record {
      one_sender = distinct_set Flow SendRecord same_flow flow_self flow_is f after host.senders h.one_sender;
      one_receiver = h.one_receiver;
      senders = all_set Flow SendRecord same_flow flow_self flow_is (IsSender p host.me) f after host.senders is h.senders;
      receivers = h.receivers;
    }

kept_same : (unread : List Item) (standing : Option ReceiveRecord) (r : Receiver) → kept_if unread standing ≡ Some r → record { unread = unread; standing = standing } ≡ r
kept_same [] None r e = absurd cc
kept_same [] (Some y) r e = cc
kept_same (i ∷ is) None r e = cc
kept_same (i ∷ is) (Some y) r e = cc

pub receiver_written : (p : Params) (host : Host) (f : Flow) (after : Receiver) → IsHost p host → IsReceiver p host.me f after → IsHost p (host_with_receiver host f after)
receiver_written p host f after h is =
    record {
      one_sender = h.one_sender;
      one_receiver = distinct_set Flow Receiver same_flow flow_self flow_is f (kept_if after.unread after.standing) host.receivers h.one_receiver;
      senders = h.senders;
      receivers = all_set Flow Receiver same_flow flow_self flow_is (IsReceiver p host.me) f (kept_if after.unread after.standing) host.receivers (λ r e. let same : after ≡ r = kept_same after.unread after.standing r e in subst (λ (r : Receiver). IsReceiver p host.me f r) same is) h.receivers;
    }

-- a record that stands is that of an entry
pub standing_is : (p : Params) (host : Host) (f : Flow) (y : ReceiveRecord) (o : Option Receiver) → AllEntries (IsReceiver p host.me) host.receivers → look same_flow f host.receivers ≡ o → (unwrap_or o no_receiver).standing ≡ Some y → IsReceiver p host.me f (unwrap_or o no_receiver)
standing_is p host f y None all e stands = absurd cc
standing_is p host f y (Some r) all e stands = all_look Flow Receiver same_flow flow_self flow_is (IsReceiver p host.me) f r host.receivers e all

act_keeps : (p : Params) (now : ℕ) (host : Host) (a : HostAct) → IsWithinLimits p → IsHost p host → IsOf p now host a → IsHost p (turn_of p now host a).host
act_keeps p now host (send_act f x act) limits h is =
    let sender : IsSender p host.me f x = all_look Flow SendRecord same_flow flow_self flow_is (IsSender p host.me) f x host.senders is.0 h.senders in
    sender_written p host f (record_after p now x act) h (λ y e. record_kept p limits host.me f x sender now act y (act_is_due p now x act is.1) e)
act_keeps p now host (recv_act f y kind) limits h is =
    let r = standing_is p host f y (look same_flow f host.receivers) h.receivers refl is.0 in
    receiver_written p host f (after_recv_act p (receiver_at host f) kind) h (record { flow = r.flow; to = r.to; kept = recv_act_kept p (receiver_at host f) kind r.kept })

-- AN ACT KEEPS WHAT A HOST KEEPS
pub turn_keeps : (p : Params) (now : ℕ) (host : Host) (turn : Turn) → IsWithinLimits p → IsHost p host → next_turn p now host ≡ Some turn → IsHost p turn.host
turn_keeps p now host turn limits h e =
    let k = next_turn_is p now host turn h e in
    subst (λ (t : Turn). IsHost p t.host) k.2 (act_keeps p now host k.0 limits h k.1)
