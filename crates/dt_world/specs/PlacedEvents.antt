-- An event at a station of the world, as the definitions have it; when it may come.
use Rattle.std.specs.Prelude.{ℕ, ◌<◌, length}
use Rattle.dt_units.specs.declared.parameters.Params.{Params}
use Rattle.dt_layout.specs.Carried.{IsGram}
use Rattle.dt_flow_model.specs.Frames.{Mark}
use Rattle.dt_world_model.specs.Station.{Event, Send, Read, Tick, Arrive, Station}
use Rattle.dt_station.specs.Events.{MaySend}
use Rattle.dt_world.specs.declared.placed_events.PlacedEvent.{PlacedEvent}
use Rattle.dt_world.specs.declared.placed_events.PlacedEvent.TheVariants as given

abbrev pub event_seen : PlacedEvent → Event Mark
event_seen (given.Send flow octets begin end) = Send flow octets.now begin end
event_seen (given.Read flow buf) = Read flow (length buf.now)
event_seen given.Tick = Tick
event_seen (given.Arrive link frame mark) = Arrive link (record { octets = frame.now; tag = mark })

-- it may come to a station of such a reading
abbrev pub MayCome : Params → ℕ → Station Mark → PlacedEvent → Type 0
MayCome p now station (given.Send flow octets begin end) = MaySend p now station flow (length octets.now)
MayCome p now station (given.Read flow buf) = 0 < length buf.now
MayCome p now station given.Tick = Unit {0}
MayCome p now station (given.Arrive link frame mark) = IsGram frame.now
