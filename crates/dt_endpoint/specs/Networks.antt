-- An endpoint as a station of the world of the definitions, and a datagram that waited on its machine before it was handed in.
use Rattle.std.specs.Prelude.{◌≡◌, ◌==◌, ℕ, ◌+◌, ◌-◌, ◌<◌, ◌≤◌, ◌++◌, All, List, Some, map}
use Rattle.dt_layout.specs.Carried.{life_of}
use Rattle.dt_flow_model.specs.Frames.{Mark}
use Rattle.dt_world_model.specs.Relay.{charge_of, lower_parcel}
use Rattle.dt_world_model.specs.Station.{Arrive, Event, Station, station_event}
use Rattle.dt_world_model.specs.Script.{play}
use Rattle.dt_world_model.specs.Tables.{look}
use Rattle.dt_world_model.specs.Tags.{bare_event, bare_station}
use Rattle.dt_world_model.specs.World.{Copy, Noted, Placed, World, view, world_handler}
use Rattle.dt_world_model.specs.WorldFacts.{IsCopy}
use Rattle.dt_world_model.specs.WorldStep.{noted_at, occasion}
use Rattle.dt_endpoint.specs.Acts.{OutFrameValue, out_frame}
use Rattle.dt_endpoint.specs.Endpoints.{EndpointValue, after_event, moment_of}

-- A COPY COMES to a station, after it waited there: it has more life than that, and was under way no longer than the link's charge and that together.
pub record ComesLate (w : World) (n : ℕ) (at : Placed) (c : Copy) (waited : ℕ) : Type 0 where
  pub there : look ◌==◌ n w.stations ≡ Some at
  pub copy : IsCopy w.params w.now (view w) c
  pub below : waited < life_of c.parcel.octets
  pub in_time : w.now - c.put ≤ charge_of c.link at.station.relay.ins + waited

-- what an endpoint does with it, but for the tag
abbrev pub late_event : Copy → ℕ → Event Mark
late_event c waited = Arrive c.link (lower_parcel waited c.parcel)

-- AN ENDPOINT IS A STATION OF A WORLD: what it keeps is that station without tags, and the moment that an event has is the reading of that station's clock.
pub record IsAt (w : World) (at : Placed) (now : ℕ) (e : EndpointValue) : Type 0 where
  pub rules : e.rules ≡ w.params
  pub state : e.state ≡ bare_station at.station
  pub moment : moment_of now e ≡ w.now + at.zero

-- an event at that station, played before the world: what the world has noted, and the station after it
abbrev pub world_play : World → ℕ → Placed → Event Mark → Noted × Station Mark
world_play w n at event = play (world_handler (occasion w n event)) (station_event w.params (w.now + at.zero) event at.station) (noted_at w)

-- the frame that a copy is handed out as
abbrev pub frame_of : Copy → OutFrameValue
frame_of c = out_frame c.link c.parcel.octets

-- After the event it is that station again, and the frames that left are the copies that the world put on links, in their order.
pub record Follows (w : World) (n : ℕ) (at : Placed) (event : Event Mark) (now : ℕ) (e : EndpointValue) : Type 0 where
  pub state : (after_event now (bare_event event) e).state ≡ bare_station (world_play w n at event).1
  pub copies : List Copy
  pub put : (world_play w n at event).0.copies ≡ w.copies ++ copies
  pub at_once : All (λ c. c.put ≡ w.now) copies
  pub frames : (after_event now (bare_event event) e).frames ≡ e.frames ++ map frame_of copies
