-- A copy that waited on its machine is as old as its life tells.
use Rattle.std.proofs.Common.{◌≡◌, ℕ, ◌+◌, ◌-◌, Some, arith, ap, min}
use Rattle.dt_units.specs.Limits.{IsWithinLimits}
use Rattle.dt_layout.proofs.CarriedLemmas.{lowers}
use Rattle.dt_layout.specs.Carried.{life_of, lowered}
use Rattle.dt_world_laws.proofs.Flushing.{lowered_packet}
use Rattle.dt_world_laws.proofs.Worlds.{event_keeps, placed_is, possible_here}
use Rattle.dt_world_model.specs.Relay.{charge_of, lower_parcel}
use Rattle.dt_world_model.specs.World.{Copy, Placed, World, placed, view}
use Rattle.dt_world_model.specs.WorldFacts.{CanCome, WorldFacts}
use Rattle.dt_world_model.specs.WorldStep.{event_at}
use Rattle.dt_endpoint.specs.Networks.{ComesLate, late_event}

pub late_can_come : (w : World) (n : ℕ) (at : Placed) (c : Copy) (waited : ℕ) → WorldFacts w → ComesLate w n at c waited → CanCome w n c.link (lower_parcel waited c.parcel)
late_can_come w n at c waited facts h =
    let less : life_of (lowered waited c.parcel.octets) ≡ life_of c.parcel.octets - waited = (lowers waited c.parcel.octets h.copy.packet.gram h.below).life in
    let same : charge_of c.link (placed w n).station.relay.ins ≡ charge_of c.link at.station.relay.ins = ap (λ (a : Placed). charge_of c.link a.station.relay.ins) (placed_is w n at h.there facts) in
    record {
      put = min w.now (c.put + waited);
      age = record {
        born = omega (arith, h.copy.age.born, h.copy.age.since);
        since = omega arith;
        alive = omega (arith, less, h.below);
        age = omega (arith, less, h.below, h.copy.age.age, h.copy.age.born, h.copy.age.since);
      };
      packet = lowered_packet w.params (view w) c.parcel waited h.below h.copy.packet;
      held = omega (arith, same, h.in_time);
    }

pub late_keeps : (w : World) (n : ℕ) (at : Placed) (c : Copy) (waited : ℕ) → IsWithinLimits w.params → WorldFacts w → ComesLate w n at c waited → WorldFacts (event_at w n (late_event c waited) (Some at)).1
late_keeps w n at c waited limits facts h =
    let e = late_event c waited in
    (event_keeps w n at h.there facts limits e (possible_here w n at h.there facts e (late_can_come w n at c waited facts h))).0
