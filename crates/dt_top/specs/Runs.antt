-- One run of the program, as contracts see it.
use Rattle.std.specs.Prelude.{ℕ, ◌≡◌, ◌⊎◌, ◌≤◌, List, length, Option, Some, IfSome}
use Rattle.dt_edges.specs.Clocks.{ClockSight}
use Rattle.dt_edges.specs.Counts.{HasRisen}
use Rattle.dt_edges.specs.Sinks.{SinkSight}
use Rattle.dt_edges.specs.Sources.{SourceSight}
use Rattle.dt_edges.specs.Wires.{WireSight}
use Rattle.dt_command.specs.declared.command.Command.{Command}
use Rattle.dt_command.specs.declared.command.Command.TheVariants.{Serve}
use Rattle.dt_command.specs.declared.job.Job.{Job}
use Rattle.dt_top.specs.Inputs.{limit}
use Rattle.dt_top.specs.Streams.{StreamSights, effects}

-- what contracts see at one moment: of source, output, standard error, wire and clock
pub record Sights : Type 0 where
  pub source : SourceSight
  pub out : SinkSight
  pub err : SinkSight
  pub wire : WireSight
  pub clock : ClockSight

-- the same of these five, by what each kind tells
abbrev pub seen_by : {S K E W C : Type 0} → (S → SourceSight) → (K → SinkSight) → (E → SinkSight) → (W → WireSight) → (C → ClockSight) → S → K → E → W → C → Sights
seen_by source out err wire clock s k e w c = record { source = source s; out = out k; err = err e; wire = wire w; clock = clock c }

-- The command that the words name, the status, and what is seen of source, output, wire and clock, and of standard error, before the run and after it.
pub record Run : Type 0 where
  pub command : Option Command
  pub status : ℕ
  pub streams : StreamSights
  pub err_before : SinkSight
  pub err_after : SinkSight

-- the run of this command that ended with this status, by what was seen before it and after it
abbrev pub run_by : Option Command → (status : ℕ) → (before after : Sights) → Run
run_by command status before after = record {
  command = command;
  status = status;
  streams = record {
    source_before = before.source;
    source_after = after.source;
    effects = effects before.out after.out before.wire after.wire before.clock after.clock;
  };
  err_before = before.err;
  err_after = after.err;
}

-- the words name this job
abbrev pub IsFor : Job → Run → Type 0
IsFor job r = r.command ≡ Some (Serve job)

-- this is true of the octets that the source had left, where it told them
abbrev pub OfInput : (List ℕ → Type 0) → Run → Type 0
OfInput P r = IfSome r.streams.source_before.left P

-- this is true of a text and of the output
abbrev pub Leaves : (List ℕ → SinkSight → SinkSight → Type 0) → List ℕ → Run → Type 0
Leaves How text r = How text r.streams.effects.out_before r.streams.effects.out_after

-- what failed
abbrev pub TakeFailed : Run → Type 0
TakeFailed r = HasRisen r.streams.source_before.faults r.streams.source_after.faults

abbrev pub PutFailed : Run → Type 0
PutFailed r = HasRisen r.streams.effects.out_before.faults r.streams.effects.out_after.faults

abbrev pub WireTakeFailed : Run → Type 0
WireTakeFailed r = HasRisen r.streams.effects.wire_before.take_faults r.streams.effects.wire_after.take_faults

-- all was served, or memory ran out
abbrev pub IsServedOrLacksMemory : Run → Type 0
IsServedOrLacksMemory r = (r.status ≡ 0) ⊎ (r.status ≡ 4)

-- After this job and this status this is true of the input.
abbrev pub After : Job → ℕ → (List ℕ → Type 0) → Run → Type 0
After job status P r = IsFor job r → r.status ≡ status → OfInput P r

-- An accepted input is served, if it is within the limit and nothing fails.
abbrev pub Serves : Job → (List ℕ → Type 0) → Run → Type 0
Serves job Accepted r = IsFor job r → OfInput (λ octets. length octets ≤ limit → Accepted octets → (TakeFailed r → ⊥) → (PutFailed r → ⊥) → IsServedOrLacksMemory r) r
