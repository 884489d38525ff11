-- What is done on one flow leaves the records of another.
use Rattle.std.proofs.Common.{ℕ, ◌≡◌, false, List, [], ◌∷◌, Option, Some, None, refl, inl, inr, ap, subst, option_map, unwrap_or}
use Rattle.std.specs.Prelude.{length, nat_lt}
use Rattle.std.specs.Option.{option_and_then}
use Rattle.std.proofs.lemmas.Bool.{cases_Bool}
use Rattle.dt_items.specs.declared.item.Item.{Item}
use Rattle.dt_items.specs.Unread.{first_piece}
use Rattle.dt_units.specs.declared.endpoints.Flow.{Flow}
use Rattle.dt_units.specs.declared.parameters.Params.{Params}
use Rattle.dt_layout.specs.Spelling.{PacketValue, Data, Ack, Meet, Close}
use Rattle.dt_flow_model.specs.declared.faults.PutFault.{PutFault}
use Rattle.dt_flow_model.specs.declared.faults.PutFault.TheVariants.{Full}
use Rattle.dt_flow_model.specs.Acting.{record_for}
use Rattle.dt_flow_model.specs.Frames.{flow_of}
use Rattle.dt_flow_model.specs.ReceiveRecord.{Receiver, after_recv_act, recv_told_of}
use Rattle.dt_flow_model.specs.SendActs.{record_after, told_of}
use Rattle.dt_flow_model.specs.SendRecord.{SendRecord, on_ack, put, put_fault}
use Rattle.dt_world_model.specs.Host.{Host, HostAct, Offer, Turn, ack_answer, arrive, comes, host_with_receiver, host_with_sender, kept_if, least, next_turn, no_receiver, offers, read_octets, read_piece, receiver_at, recv_act, send_act, send_into, send_octets, sender_at, turn_of}
use Rattle.dt_world_model.specs.Tables.{same_flow}
use Rattle.dt_world_model.proofs.Tables.{flow_is, flow_self, look_set_other}
use Rattle.dt_host.specs.Others.{IsActOf, SameAt}

stays : (g : Flow) (host : Host) → SameAt g host host
stays g host = record { sender = refl; receiver = refl }

module _ (f g : Flow) (host : Host) (apart : same_flow f g ≡ false) where
  sender_goes : (x : Option SendRecord) → SameAt g host (host_with_sender host f x)
  sender_goes x = record { sender = look_set_other Flow SendRecord same_flow flow_self flow_is g f x host.senders apart; receiver = refl }

  receiver_goes : (r : Receiver) → SameAt g host (host_with_receiver host f r)
  receiver_goes r = record {
    sender = refl;
    receiver = ap (λ (o : Option Receiver). unwrap_or o no_receiver) (look_set_other Flow Receiver same_flow flow_self flow_is g f (kept_if r.unread r.standing) host.receivers apart);
  }

  into : (items : List Item) (x : SendRecord) (o : Option PutFault) → SameAt g host (send_into f items x host o).1
  into items x (Some (Full free)) = stays g host
  into items x None = sender_goes (Some (put items x))

  pub sent_apart : (p : Params) (now : ℕ) (items : List Item) → SameAt g host (send_octets p now f items host).1
  sent_apart p now items =
      let x = record_for p now (sender_at host f) in
      elim (cases_Bool (nat_lt now host.until)) [ inl y ↦ rw y (stays g host) | inr n ↦ rw n (into items x (put_fault p x (length items))) ]

  piece_apart : (p : Params) (now : ℕ) (piece : List Item) → SameAt g host (read_piece p now f piece host).1
  piece_apart p now [] = stays g host
  piece_apart p now (i ∷ is) = receiver_goes _

  pub read_apart : (p : Params) (now most : ℕ) → SameAt g host (read_octets p now f most host).1
  read_apart p now most = piece_apart p now (first_piece most (receiver_at host f).unread)

  acked_apart : (o : Option (SendRecord × ℕ)) → SameAt g host (ack_answer host f o).1
  acked_apart None = stays g host
  acked_apart (Some (x, count)) = sender_goes (Some x)

  pub comes_apart : (p : Params) (now : ℕ) (v : PacketValue) → SameAt g host (comes p now f v host).1
  comes_apart p now (Data from_port to_port number drf begin end octets) = receiver_goes _
  comes_apart p now (Ack from_port to_port number window) = acked_apart (option_and_then (λ x. on_ack p x number window) (sender_at host f))
  comes_apart p now (Meet from_port to_port number) = receiver_goes _
  comes_apart p now (Close from_port to_port number) = stays g host

pub came_apart : (p : Params) (now from : ℕ) (g : Flow) (v : PacketValue) (host : Host) → same_flow (flow_of from host.me v) g ≡ false → SameAt g host (arrive p now from v host).1
came_apart p now from g v host apart =
    elim (cases_Bool (nat_lt now host.until)) [ inl y ↦ rw y (stays g host) | inr n ↦ rw n (comes_apart (flow_of from host.me v) g host apart p now v) ]

-- AN ACT is of one flow.
abbrev IsOfOne : Host → Turn → Type 0
IsOfOne host turn = (f : Flow) × IsActOf f turn.told × ((g : Flow) → same_flow f g ≡ false → SameAt g host turn.host)

of_one : (p : Params) (now : ℕ) (host : Host) (act : HostAct) → IsOfOne host (turn_of p now host act)
of_one p now host (send_act f x act) = (f, inl (told_of p x act, refl), λ g apart. sender_goes f g host apart (record_after p now x act))
of_one p now host (recv_act f y kind) = (f, inr (recv_told_of p (receiver_at host f).unread y kind, refl), λ g apart. receiver_goes f g host apart (after_recv_act p (receiver_at host f) kind))

of_offer : (p : Params) (now : ℕ) (host : Host) (o : Option Offer) (turn : Turn) → option_map (λ (o : Offer). turn_of p now host o.act) o ≡ Some turn → IsOfOne host turn
of_offer p now host None turn e = absurd cc
of_offer p now host (Some offer) turn e = let same : turn_of p now host offer.act ≡ turn = cc in subst (IsOfOne host) same (of_one p now host offer.act)

pub act_apart : (p : Params) (now : ℕ) (host : Host) (turn : Turn) → next_turn p now host ≡ Some turn → IsOfOne host turn
act_apart p now host turn e = of_offer p now host (least (offers p now host)) turn e
