-- How far an event came that found no memory, and what the world has then.
use Rattle.std.specs.Prelude.{ℕ, ◌+◌, ◌^◌, ◌<◌, ◌≤◌, ◌≡◌, ◌==◌, List, ◌++◌, Option, Some, None, length}
use Rattle.dt_flow_model.specs.declared.rows.Given.{Given}
use Rattle.dt_flow_model.specs.Facts.{KeepsFates}
use Rattle.dt_flow_model.specs.Frames.{Mark}
use Rattle.dt_flow_model.specs.Ledger.{read_in}
use Rattle.dt_flow_model.specs.Keeping.{octets_below}
use Rattle.dt_world_model.specs.Ledgers.{FlowLedger, ledger_of}
use Rattle.dt_world_model.specs.Station.{Arrive, Event, Read, Send, Tick, station_event}
use Rattle.dt_world_model.specs.Tables.{look}
use Rattle.dt_world_model.specs.World.{Noted, Placed, World, placed, world_handler}
use Rattle.dt_world_model.specs.WorldStep.{Arrives, Loses, Passes, Reads, Restarts, Sends, Ticks, WorldEvent, copy_at, link_for, noted_at, occasion}
use Rattle.dt_world_laws.specs.Visits.{IsOnTheWay}
use Rattle.dt_notes.specs.Moments.{most_now}

-- AN EVENT AT A STATION CAME TO A POINT: what was noted is a state on the way of its play. Where nobody is there, nothing was done
abbrev pub CameTo : World → ℕ → Event Mark → Option Placed → Noted → Type 0
CameTo w n e None d = d ≡ noted_at w
CameTo w n e (Some at) d = IsOnTheWay (world_handler (occasion w n e)) (station_event w.params (w.now + at.zero) e at.station) (noted_at w) d

abbrev pub ComesAt : World → ℕ → Event Mark → Noted → Type 0
ComesAt w n e d = CameTo w n e (look ◌==◌ n w.stations) d

-- AN EVENT OF THE WORLD CAME TO A POINT. One that no station plays does nothing where it finds no memory: so a restart that finds none doesn't count
abbrev pub ComesTo : World → WorldEvent → Noted → Type 0
ComesTo w (Passes by) d = d ≡ noted_at w
ComesTo w (Sends f octets begin end) d = ComesAt w f.from.0 (Send f octets begin end) d
ComesTo w (Reads f most) d = ComesAt w f.to.0 (Read f most) d
ComesTo w (Ticks n) d = ComesAt w n Tick d
ComesTo w (Arrives n) d = ComesAt w (link_for w n).to (Arrive (copy_at w n).link (copy_at w n).parcel) d
ComesTo w (Loses n) d = d ≡ noted_at w
ComesTo w (Restarts n) d = d ≡ noted_at w

-- WHERE A COUNT WOULD PASS ITS END an event always finds no memory: the moment above 2^61, the octets of a flow 2^62 or more, the life number 2^32.
abbrev pub IsLastLife : Option Placed → Type 0
IsLastLife None = ⊥
IsLastLife (Some at) = at.life + 1 ≡ 2 ^ 32

abbrev pub IsAtItsEnd : World → WorldEvent → Type 0
IsAtItsEnd w (Passes by) = most_now < w.now + by
IsAtItsEnd w (Sends f octets begin end) = octets_below ≤ length (ledger_of w.ledgers f).taken + length octets
IsAtItsEnd w (Reads f most) = ⊥
IsAtItsEnd w (Ticks n) = ⊥
IsAtItsEnd w (Arrives n) = ⊥
IsAtItsEnd w (Loses n) = ⊥
IsAtItsEnd w (Restarts n) = IsLastLife (look ◌==◌ n w.stations)

-- WHERE AN EVENT MAY FIND NONE. Time that passes and a copy that is lost take no memory.
abbrev pub MayStop : World → WorldEvent → Type 0
MayStop w (Passes by) = most_now < w.now + by
MayStop w (Sends f octets begin end) = Unit {0}
MayStop w (Reads f most) = Unit {0}
MayStop w (Ticks n) = Unit {0}
MayStop w (Arrives n) = Unit {0}
MayStop w (Loses n) = ⊥
MayStop w (Restarts n) = Unit {0}

-- THE WORLD HAS WHAT WAS NOTED: its ledgers and copies are those. Its moment, its links, and of each station the clock and the life number are what they were
pub record HasNoted (w : World) (d : Noted) (world : World) : Type 0 where
  pub params : world.params ≡ w.params
  pub now : world.now ≡ w.now
  pub links : world.links ≡ w.links
  pub copies : world.copies ≡ d.copies
  pub ledgers : world.ledgers ≡ d.ledgers
  pub lives : (n : ℕ) → (placed world n).life ≡ (placed w n).life
  pub zeros : (n : ℕ) → (placed world n).zero ≡ (placed w n).zero

-- A FLOW'S LEDGER KEEPS what it has: no row goes and no fate that isn't open changes, what was given stands in front of all that is given, and in no life less was read.
pub record KeepsLedger (before after : FlowLedger) : Type 0 where
  pub fates : KeepsFates before.taken after.taken
  pub more : List Given
  pub given : after.given ≡ before.given ++ more
  pub reads : (life : ℕ) → read_in life before.reads ≤ read_in life after.reads
