-- A packet that a host meets in a step of the world: a copy comes to the station at its link's end. The station settles first, as in every event; what is left of the packet then comes to the host of its node.
use Rattle.std.specs.Prelude.{ℕ, ◌+◌, ◌≡◌, ◌==◌, Some, None}
use Rattle.dt_layout.specs.Carried.{to_of}
use Rattle.dt_flow_model.specs.Frames.{Mark}
use Rattle.dt_world_model.specs.Relay.{Parcel, admit}
use Rattle.dt_world_model.specs.Script.{play}
use Rattle.dt_world_model.specs.Station.{Arrive, Event, Station, settle_station}
use Rattle.dt_world_model.specs.Tables.{look}
use Rattle.dt_world_model.specs.World.{Noted, Placed, World, placed, world_handler}
use Rattle.dt_world_model.specs.WorldStep.{Arrives, copy_at, first_refusal, link_for, noted_at, occasion, refusals, world_with}

-- the station of the copy, and the event there
abbrev pub end_of : World → ℕ → ℕ
end_of w k = (link_for w k).to

abbrev pub arrival : World → ℕ → Event Mark
arrival w k = Arrive (copy_at w k).link (copy_at w k).parcel

-- what is noted when the station has settled, and the station then
abbrev pub settled : World → ℕ → Noted × Station Mark
settled w k = let at = placed w (end_of w k) in play (world_handler (occasion w (end_of w k) (arrival w k))) (settle_station w.params (w.now + at.zero) at.station) (noted_at w)

-- the world at that point of the step
abbrev pub world_when_met : World → ℕ → World
world_when_met w k = let at = placed w (end_of w k) in world_with w (end_of w k) (record { zero = at.zero; life = at.life; station = (settled w k).1 }) (settled w k).0

-- THE HOST MEETS THE PACKET: the copy isn't refused, its station is there and admits it, and it is for the station's own node
pub record IsMet (w : World) (k : ℕ) (parcel : Parcel Mark) : Type 0 where
  pub passes : first_refusal (refusals w (Arrives k)) ≡ None
  pub station : Placed
  pub there : look ◌==◌ (end_of w k) w.stations ≡ Some station
  pub admitted : admit (copy_at w k).link (copy_at w k).parcel (settled w k).1.relay ≡ Some parcel
  pub addressed : to_of parcel.octets ≡ (settled w k).1.host.me
