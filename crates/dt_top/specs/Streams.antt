-- What a run does to its source, its log, its wire and its clock.
use Rattle.std.specs.Prelude.{ℕ, ◌≡◌, ◌⊎◌, List}
use Rattle.dt_edges.specs.Clocks.{ClockSight}
use Rattle.dt_edges.specs.Sinks.{SinkSight}
use Rattle.dt_edges.specs.Sources.{SourceSight}
use Rattle.dt_edges.specs.Wires.{WireSight}
use Rattle.dt_top.specs.declared.ending.Ending.{Ending}
use Rattle.dt_top.specs.declared.ending.Ending.TheVariants.{Done, Usage, TooLong, Refused, NoMemory, WireFault, ClockStill, ReadFault, WriteFault}
use Rattle.dt_top.specs.declared.input.InputFault.TheVariants as faults
use Rattle.dt_top.specs.Inputs.{IsInput, LacksInput}

-- what contracts see of log, wire and clock, before a run and after it
pub record Effects : Type 0 where
  pub out_before : SinkSight
  pub out_after : SinkSight
  pub wire_before : WireSight
  pub wire_after : WireSight
  pub clock_before : ClockSight
  pub clock_after : ClockSight

abbrev pub effects : SinkSight → SinkSight → WireSight → WireSight → ClockSight → ClockSight → Effects
effects out out_after wire wire_after clock clock_after = record { out_before = out; out_after = out_after; wire_before = wire; wire_after = wire_after; clock_before = clock; clock_after = clock_after }

-- and of the source
pub record StreamSights : Type 0 where
  pub source_before : SourceSight
  pub source_after : SourceSight
  pub effects : Effects

-- none of them was used
pub record NoEffects (e : Effects) : Type 0 where
  pub out : e.out_after ≡ e.out_before
  pub wire : e.wire_after ≡ e.wire_before
  pub clock : e.clock_after ≡ e.clock_before

pub record Untouched (s : StreamSights) : Type 0 where
  pub source : s.source_after ≡ s.source_before
  pub effects : NoEffects s.effects

-- an input was read whole, and this is true of it
pub record Served (owed : List ℕ → Effects → Type 0) (s : StreamSights) : Type 0 where
  pub octets : List ℕ
  pub input : IsInput octets s.source_before s.source_after
  pub owes : owed octets s.effects

-- What a command owes that reads an input, by what it owes for the input: it comes to that only where the input is had.
abbrev pub OwesFor : (Ending → List ℕ → Effects → Type 0) → Ending → StreamSights → Type 0
OwesFor owed Done s = Served (owed Done) s
OwesFor owed Usage s = ⊥
OwesFor owed TooLong s = LacksInput faults.TooLong s.source_before s.source_after × NoEffects s.effects
OwesFor owed Refused s = Served (owed Refused) s
OwesFor owed NoMemory s = NoEffects s.effects ⊎ Served (owed NoMemory) s
OwesFor owed WireFault s = Served (owed WireFault) s
OwesFor owed ClockStill s = Served (owed ClockStill) s
OwesFor owed ReadFault s = LacksInput faults.ReadFault s.source_before s.source_after × NoEffects s.effects
OwesFor owed WriteFault s = Served (owed WriteFault) s
