-- A run that is run again from its script and its trace.
use Rattle.std.specs.Prelude.{◌≡◌, ℕ, ◌++◌, List, codes}
use Rattle.std.specs.Io.KnownBytes.{Appends}
use Rattle.dt_edges.specs.Counts.{HasRisen}
use Rattle.dt_edges.specs.Sinks.{SinkSight}
use Rattle.dt_text.specs.InputLines.{lines_of}
use Rattle.dt_node.specs.declared.outcomes.NodeOutcome.{NodeOutcome}
use Rattle.dt_node.specs.declared.outcomes.NodeOutcome.TheVariants.{Done, Refused, NoMemory, WireFault, ClockStill, WriteFault}
use Rattle.dt_node.specs.InputParts.{text_of}

-- the lines of a script, a line `trace`, and a trace
abbrev pub joined : (script trace : List ℕ) → List ℕ
joined script trace = text_of (lines_of script) ++ (codes "trace\n" ++ trace)

-- the answer is the same, and all of this was written
pub record Writes (text : List ℕ) (outcome again : NodeOutcome) (before after : SinkSight) : Type 0 where
  pub same : again ≡ outcome
  pub log : Appends before.held after.held text
  pub faults : after.faults ≡ before.faults

-- A run that left this answer and this log was run again: it leaves the same, unless memory ran out or a put failed.
abbrev pub Repeats : (log : List ℕ) → (outcome again : NodeOutcome) → (before after : SinkSight) → Type 0
Repeats log outcome Done before after = Writes log outcome Done before after
Repeats log outcome WireFault before after = Writes log outcome WireFault before after
Repeats log outcome ClockStill before after = Writes log outcome ClockStill before after
Repeats log outcome NoMemory before after = after.faults ≡ before.faults
Repeats log outcome WriteFault before after = HasRisen before.faults after.faults
Repeats log outcome Refused before after = ⊥
