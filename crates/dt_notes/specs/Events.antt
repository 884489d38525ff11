-- What happens to a world, as the definitions have it, and what a step asks of it.
use Rattle.std.specs.Prelude.{ℕ, ◌≤◌, length}
use Rattle.dt_world_model.specs.WorldStep.{Arrives, Loses, Passes, Reads, Restarts, Sends, Ticks, WorldEvent}
use Rattle.dt_notes.specs.declared.events.Event.{Event}
use Rattle.dt_notes.specs.declared.events.Event.TheVariants as event

abbrev pub event_of : Event → WorldEvent
event_of (event.Pass by) = Passes by
event_of (event.Send flow octets begin end) = Sends flow octets.now begin end
event_of (event.Read flow max) = Reads flow max
event_of (event.Tick station) = Ticks station.0
event_of (event.Arrive copy) = Arrives copy
event_of (event.Lose copy) = Loses copy
event_of (event.Restart station) = Restarts station.0

-- the most octets of a read
abbrev pub most_read : ℕ
most_read = 65536

-- what a step asks of its event
abbrev pub MayStep : WorldEvent → Type 0
MayStep (Passes by) = Unit {0}
MayStep (Sends f octets begin end) = 1 ≤ length octets
MayStep (Reads f most) = (1 ≤ most) × (most ≤ most_read)
MayStep (Ticks n) = Unit {0}
MayStep (Arrives copy) = Unit {0}
MayStep (Loses copy) = Unit {0}
MayStep (Restarts n) = Unit {0}
