-- Settling leaves what is unread.
use Rattle.std.proofs.Common.{ℕ, zero, suc, ◌≡◌, Bool, true, false, List, map, Option, Some, None, refl, ap, sym, subst, ◌∙◌}
use Rattle.std.specs.Prelude.{option_map}
use Rattle.dt_units.specs.declared.parameters.Params.{Params}
use Rattle.dt_units.specs.declared.endpoints.Flow.{Flow}
use Rattle.dt_units.specs.Limits.{IsWithinLimits}
use Rattle.dt_flow_model.specs.declared.acts.RecvKind.{RecvKind}
use Rattle.dt_flow_model.specs.declared.acts.RecvKind.TheVariants as K
use Rattle.dt_flow_model.specs.ReceiveRecord.{Receiver, after_recv_act}
use Rattle.dt_world_model.specs.Host.{Host, HostAct, IsHost, Offer, Turn, host_with_receiver, least, next_turn, offers, receiver_at, recv_act, send_act, turn_of, work}
use Rattle.dt_world_model.specs.Relay.{Out, with_outs}
use Rattle.dt_world_model.specs.Script.{Answers}
use Rattle.dt_world_model.specs.Station.{Station, do_turns, flush_links, go_on, settle_station, station_with}
use Rattle.dt_world_model.specs.Tables.{same_flow}
use Rattle.dt_world_model.proofs.Tables.{flow_is}
use Rattle.dt_world_laws.proofs.Hosts.{turn_keeps}
use Rattle.dt_world_laws.proofs.Plays.{do_turn, link_of}
use Rattle.dt_world_laws.proofs.Settles.{answers_then, any_answer, off_same}
use Rattle.dt_calls_laws.specs.HasRead.{unread_at}
use Rattle.dt_world_laws.proofs.Views.{receiver_set, receiver_set_other}

act_leaves : (p : Params) (r : Receiver) (kind : RecvKind) → (after_recv_act p r kind).unread ≡ r.unread
act_leaves p r K.Release = refl
act_leaves p r K.Ack = refl

receiver_leaves : (b : Bool) (p : Params) (host : Host) (f g : Flow) (kind : RecvKind) → IsHost p host → same_flow f g ≡ b → unread_at (host_with_receiver host f (after_recv_act p (receiver_at host f) kind)) g ≡ unread_at host g
receiver_leaves true p host f g kind h e =
    let is : f ≡ g = flow_is f g e in
    let after = after_recv_act p (receiver_at host f) kind in
    subst (λ (k : Flow). unread_at (host_with_receiver host f after) k ≡ unread_at host k) is (ap (λ (r : Receiver). r.unread) (receiver_set host f after h.one_receiver) ∙ act_leaves p (receiver_at host f) kind)
receiver_leaves false p host f g kind h e = ap (λ (r : Receiver). r.unread) (receiver_set_other host f (after_recv_act p (receiver_at host f) kind) g e)

turn_leaves : (p : Params) (now : ℕ) (host : Host) (act : HostAct) (g : Flow) → IsHost p host → unread_at (turn_of p now host act).host g ≡ unread_at host g
turn_leaves p now host (send_act f x act) g h = refl
turn_leaves p now host (recv_act f y kind) g h = receiver_leaves (same_flow f g) p host f g kind h refl

offer_leaves : (p : Params) (now : ℕ) (host : Host) (offer : Option Offer) (turn : Turn) (g : Flow) → IsHost p host → option_map (λ (o : Offer). turn_of p now host o.act) offer ≡ Some turn → unread_at turn.host g ≡ unread_at host g
offer_leaves p now host None turn g h e = absurd cc
offer_leaves p now host (Some o) turn g h e = let is : turn_of p now host o.act ≡ turn = cc in subst (λ (t : Turn). unread_at t.host g ≡ unread_at host g) is (turn_leaves p now host o.act g h)

turn_me : (p : Params) (now : ℕ) (host : Host) (act : HostAct) → (turn_of p now host act).host.me ≡ host.me
turn_me p now host (send_act f x act) = refl
turn_me p now host (recv_act f y kind) = refl

offer_me : (p : Params) (now : ℕ) (host : Host) (offer : Option Offer) (turn : Turn) → option_map (λ (o : Offer). turn_of p now host o.act) offer ≡ Some turn → turn.host.me ≡ host.me
offer_me p now host None turn e = absurd cc
offer_me p now host (Some o) turn e = let is : turn_of p now host o.act ≡ turn = cc in subst (λ (t : Turn). t.host.me ≡ host.me) is (turn_me p now host o.act)

-- it is a host still, of the same node, and what is unread is the same
pub record Leaves {T : Type 0} (p : Params) (st after : Station T) : Type 0 where
  pub kept : IsHost p after.host
  pub me : after.host.me ≡ st.host.me
  pub unread : (g : Flow) → unread_at after.host g ≡ unread_at st.host g

module _ {T : Type 0} (p : Params) (now : ℕ) (limits : IsWithinLimits p) where
  turn_on : (most : ℕ) (first st : Station T) (turn : Option Turn) → Leaves p first st → next_turn p now st.host ≡ turn → ((other : Station T) → Leaves p first other → Answers (Leaves p first) (do_turns most p now other)) → Answers (Leaves p first) (go_on (do_turns most p now) now turn st)
  turn_on most first st None h e again = h
  turn_on most first st (Some turn) h e again =
      let kept = turn_keeps p now st.host turn limits h.kept e in
      answers_then (λ (after : Station T). after.host ≡ turn.host) (Leaves p first) (do_turn now turn st.relay) (do_turns most p now) (off_same now turn.host turn.frame st.relay)
      (λ after same. again after (record {
        kept = subst (IsHost p) (sym same) kept;
        me = ap (λ (host : Host). host.me) same ∙ offer_me p now st.host (least (offers p now st.host)) turn e ∙ h.me;
        unread = λ g. ap (λ (host : Host). unread_at host g) same ∙ offer_leaves p now st.host (least (offers p now st.host)) turn g h.kept e ∙ h.unread g;
      }))

  turns_leave : (most : ℕ) (first st : Station T) → Leaves p first st → Answers (Leaves p first) (do_turns most p now st)
  turns_leave zero first st h = h
  turns_leave (suc most) first st h = turn_on most first st (next_turn p now st.host) h refl (turns_leave most first)

  pub settle_leaves : (st : Station T) → IsHost p st.host → Answers (Leaves p st) (settle_station p now st)
  settle_leaves st h =
      answers_then (λ (outs : List (Out T)). Unit {0}) (Leaves p st) (flush_links now (map link_of st.relay.outs) st.relay.outs) (λ outs. do_turns (work p now st.host) p now (station_with st.host (with_outs st.relay outs))) (any_answer (flush_links now (map link_of st.relay.outs) st.relay.outs))
      (λ outs any. turns_leave (work p now st.host) st (station_with st.host (with_outs st.relay outs)) (record { kept = h; me = refl; unread = λ g. refl }))
