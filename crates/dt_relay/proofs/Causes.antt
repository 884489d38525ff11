-- What the answers of a relay to a packet say.
use Rattle.std.proofs.Common.{◌≡◌, ℕ, ◌==◌, List, [], ◌∷◌, ◌++◌, Bool, true, false, cond, Option, Some, None, length, nat_lt, refl, option_and_then}
use Rattle.dt_layout.specs.Carried.{to_of}
use Rattle.dt_world_model.specs.declared.links.Entered.{Entered}
use Rattle.dt_world_model.specs.declared.links.Entered.TheVariants.{Queued, NoRoute, Full}
use Rattle.dt_world_model.specs.Relay.{Out, Parcel, Relay, enter, enter_by, most_on_link, on_link, push, route_to, with_waits}
use Rattle.dt_relay.specs.Ways.{entered_by, queue_of, way_to}

module _ {T : Type 0} (parcel : Parcel T) (now : ℕ) where
  pushed : (b : Bool) (out : Out T) → (cond {A = Entered × Out T} b (Queued out.link, with_waits out (out.waits ++ (record { parcel = parcel; since = now }) ∷ []) out.last) (Full out.link, out)).0 ≡ cond b (Queued out.link) (Full out.link)
  pushed true out = refl
  pushed false out = refl

  answered : (b : Bool) (to : ℕ) (here : Entered × Out T) (later : Entered × List (Out T)) (out : Out T) (outs : List (Out T)) (rest : Option (Out T)) → here.0 ≡ entered_by to (Some out) → later.0 ≡ entered_by to rest →
      (cond {A = Entered × List (Out T)} b (here.0, here.1 ∷ outs) (later.0, out ∷ later.1)).0 ≡ entered_by to (cond b (Some out) rest)
  answered true to here later out outs rest h k = h
  answered false to here later out outs rest h k = k

  on_cause : (to link : ℕ) (outs : List (Out T)) → (on_link link (NoRoute to) (push parcel now) outs).0 ≡ entered_by to (queue_of link outs)
  on_cause to link [] = refl
  on_cause to link (out ∷ outs) =
      answered (out.link == link) to (push parcel now out) (on_link link (NoRoute to) (push parcel now) outs) out outs (queue_of link outs)
      (pushed (nat_lt (length out.waits) most_on_link) out) (on_cause to link outs)

  by_cause : (link : Option ℕ) (relay : Relay T) → (enter_by link parcel now relay).0 ≡ entered_by (to_of parcel.octets) (option_and_then (λ link. queue_of link relay.outs) link)
  by_cause None relay = refl
  by_cause (Some link) relay = on_cause (to_of parcel.octets) link relay.outs

  -- the answer is known by the queue to which the packet's route leads
  pub enter_cause : (relay : Relay T) → (enter parcel now relay).0 ≡ entered_by (to_of parcel.octets) (way_to (to_of parcel.octets) relay)
  enter_cause relay = by_cause (route_to (to_of parcel.octets) relay.routes) relay
