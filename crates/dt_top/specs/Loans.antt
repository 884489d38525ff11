-- What contracts see of the loans that a run has.
use Rattle.std.specs.Borrow.{MutBor}
use Rattle.std.specs.Prelude.{◌≡◌}
use Rattle.dt_edges.specs.Clocks.{ClockSight}
use Rattle.dt_edges.specs.Sinks.{SinkSight}
use Rattle.dt_edges.specs.Sources.{SourceSight}
use Rattle.dt_edges.specs.Wires.{WireSight}
use Rattle.dt_top.specs.declared.streams.Streams.{Streams}
use Rattle.dt_top.specs.Streams.{StreamSights, effects}

-- the loans of a run as a call leaves them, in the order of their fields
abbrev pub Left : (S K W C : Type 0) → Type 0
Left S K W C = MutBor S × (MutBor K × (MutBor W × (MutBor C × Unit {0})))

-- what contracts see of the loans that a call has, as they come and as it leaves them
abbrev pub sights : {S K W C : Type 0} → (S → SourceSight) → (K → SinkSight) → (W → WireSight) → (C → ClockSight) → Streams S K W C → Left S K W C → StreamSights
sights source out wire clock came left = record {
  source_before = source came.source.now;
  source_after = source left.0.now;
  effects = effects (out came.out.now) (out left.1.0.now) (wire came.wire.now) (wire left.1.1.0.now) (clock came.clock.now) (clock left.1.1.1.0.now);
}

-- a call left this one as it was
abbrev pub KeepsSource : {S K W C : Type 0} → Streams S K W C → Left S K W C → Type 0
KeepsSource came left = left.0.now ≡ came.source.now

abbrev pub KeepsWire : {S K W C : Type 0} → Streams S K W C → Left S K W C → Type 0
KeepsWire came left = left.1.1.0.now ≡ came.wire.now

abbrev pub KeepsClock : {S K W C : Type 0} → Streams S K W C → Left S K W C → Type 0
KeepsClock came left = left.1.1.1.0.now ≡ came.clock.now
