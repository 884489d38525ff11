-- How many octets the send records of a host have taken.
use Rattle.std.specs.Prelude.{ℕ, ◌≤◌, length}
use Rattle.dt_flow_model.specs.Keeping.{taken_by}
use Rattle.dt_world_model.specs.Host.{Host}
use Rattle.dt_world_model.specs.Station.{Arrive, Event, Read, Send, Tick}
use Rattle.dt_world_model.specs.Tables.{AllEntries}

-- no send record of the host has taken more octets than this
abbrev pub HasTakenAtMost : ℕ → Host → Type 0
HasTakenAtMost bound host = AllEntries (λ f x. taken_by x ≤ bound) host.senders

-- the octets of an event
abbrev pub octets_sent : Event (Unit {0}) → ℕ
octets_sent (Send flow octets begin end) = length octets
octets_sent (Read flow most) = 0
octets_sent Tick = 0
octets_sent (Arrive link parcel) = 0
