-- What the walk finds is the model's next turn.
use Rattle.std.proofs.Common.{ℕ, ◌≡◌, Option, Some, None, refl, sym, ap, subst}
use Rattle.std.specs.Prelude.{option_map, unwrap_or}
use Rattle.dt_units.specs.declared.parameters.Params.{Params}
use Rattle.dt_flow_model.specs.ReceiveRecord.{Receiver}
use Rattle.dt_world_model.specs.Tables.{same_flow, look, Distinct}
use Rattle.dt_world_model.specs.Host.{Host, HostAct, send_act, recv_act, Offer, least, next_turn, offers, turn_of, no_receiver}
use Rattle.dt_world_model.proofs.Offers.{IsOf, OfH, least_has, none_is_least, offers_are_of}
use Rattle.dt_host.specs.declared.dues.DueAct.{DueAct}
use Rattle.dt_host.specs.Dues.{IsNext, IsNextOf}
use Rattle.dt_host.proofs.Walks.{brief, flow_in_act, kind_in}

module _ (p : Params) (now : ℕ) (host : Host) where
  by_act : (a : HostAct) → IsOf p now host a → next_turn p now host ≡ Some (turn_of p now host a) → IsNextOf p now host (flow_in_act a) (kind_in a)
  by_act (send_act f x act) is turn = (x, act, record { there = is.0; chosen = is.1 }, turn)
  by_act (recv_act f y kind) is turn = found (look same_flow f host.receivers) refl is.0
    where
      found : (o : Option Receiver) → look same_flow f host.receivers ≡ o → (unwrap_or o no_receiver).standing ≡ Some y → IsNextOf p now host f (kind_in (recv_act f y kind))
      found None there stands = absurd cc
      found (Some r) there stands = (r, y, is.1, record { there = there; stands = stands; chosen = is.2 }, turn)

  pub next_is : Distinct same_flow host.senders → Distinct same_flow host.receivers → (d : Option DueAct) → d ≡ option_map brief (least (offers p now host)) → IsNext p now host d
  next_is one_sender one_receiver d e = by (least (offers p now host)) refl e
    where
      turned : (o : Option Offer) → least (offers p now host) ≡ o → next_turn p now host ≡ option_map (λ (k : Offer). turn_of p now host k.act) o
      turned o is = ap (λ (l : Option Offer). option_map (λ (k : Offer). turn_of p now host k.act) l) is

      by : (o : Option Offer) → least (offers p now host) ≡ o → d ≡ option_map brief o → IsNext p now host d
      by None is e = subst (λ (k : Option DueAct). IsNext p now host k) (sym e) (none_is_least (offers p now host) is, turned None is)
      by (Some o) is e =
          let of : IsOf p now host o.act = least_has (OfH p now host) (offers p now host) o (offers_are_of p now host one_sender one_receiver) is in
          subst (λ (k : Option DueAct). IsNext p now host k) (sym e) (by_act o.act of (turned (Some o) is))
