-- WHAT A TRIAL RUNS, and what a run of it leaves.
use Rattle.std.specs.Prelude.{ℕ, ◌≡◌, false, List, [], map, Option, Some, None, string_bytes}
use Rattle.std.specs.Borrow.{Bor}
use Rattle.dt_edges.specs.Clocks.{ClockInMemory, ClockSight, clock_in_memory}
use Rattle.dt_edges.specs.Sinks.{SinkInMemory, sink_in_memory}
use Rattle.dt_edges.specs.Sources.{SourceInMemory, SourceSight, source_in_memory}
use Rattle.dt_edges.specs.Wires.{Datagram, WireInMemory, fresh_wire, wire_in_memory}
use Rattle.dt_top.specs.Answering.{Answers}
use Rattle.dt_command.specs.Commands.{named, uses_wire}
use Rattle.dt_top.specs.Runs.{Run}
use Rattle.dt_top.specs.Streams.{effects}
use Rattle.dt_command.specs.Words.{without_mark}
use Rattle.dt_command.specs.declared.command.Command.{Command}
use Rattle.dt_trial.specs.declared.run_results.RunResult.{RunResult}
use Rattle.dt_trial.specs.declared.run_starts.RunStart.{RunStart}
use Rattle.dt_trial.specs.declared.trials.Trial.{Trial}
use Rattle.dt_trial.specs.declared.untried.Untried.{Untried}
use Rattle.dt_trial.specs.declared.untried.Untried.TheVariants.{NoMemory, NoReading}

-- WHAT IS RUN

-- what a take of the wire finds: a datagram of link 1, or nothing
abbrev pub entry_of : Option (Bor (List ℕ)) → Option Datagram
entry_of None = None
entry_of (Some octets) = Some (record { link = 1; octets = octets.now })

-- the wire of a trial, which isn't open and keeps nothing of what gives take
abbrev pub wire_of : Trial → WireInMemory
wire_of trial = fresh_wire (record { entries = map entry_of trial.takes.now; failing_takes = trial.failing_takes.now; failing_gives = trial.failing_gives.now; open_fails = trial.open_fails }) None

-- a sink that is empty, with this much room, where no put is meant to fail
abbrev pub empty_sink : ℕ → SinkInMemory
empty_sink room = record { held = []; room = room; failing = []; calls = 0; faults = 0 }

-- what contracts see of what a run of the program begins with, beside the wire
pub record StartSeen : Type 0 where
  pub words : List (List ℕ)
  pub source : SourceInMemory
  pub clock : ClockInMemory
  pub out : SinkInMemory
  pub err : SinkInMemory

abbrev pub start_seen : RunStart → StartSeen
start_seen start = record { words = map string_bytes start.words.items; source = start.source; clock = start.clock; out = start.out; err = start.err }

-- that of a trial: nothing was read of the input and of the clock, and nothing was written. What is said of a run tells nothing of the room of its sinks but what they hold, so that each has the room of the trial is seen here alone.
abbrev pub start_of : Trial → StartSeen
start_of trial = record {
  words = map (λ word. word.now) trial.words.now;
  source = record { left = trial.input.now; failing = trial.failing_reads.now; calls = 0; faults = 0 };
  clock = record { plan = trial.readings.now; taken = 0 };
  out = empty_sink trial.out_room;
  err = empty_sink trial.err_room;
}

-- WHAT IS LEFT

-- the command that words name
abbrev pub command_in : List (List ℕ) → Option Command
command_in words = named (without_mark words)

-- one run of the program that begins so: what it left, and the source and the clock after it
abbrev pub run_from : StartSeen → WireInMemory → WireInMemory → RunResult → SourceSight → ClockSight → Run
run_from start wire wire_after left source_after clock_after = record {
  command = command_in start.words;
  status = left.status;
  streams = record {
    source_before = source_in_memory start.source;
    source_after = source_after;
    effects = effects (sink_in_memory start.out) (sink_in_memory left.out) (wire_in_memory wire) (wire_in_memory wire_after) (clock_in_memory start.clock) clock_after;
  };
  err_before = sink_in_memory start.err;
  err_after = sink_in_memory left.err;
}

-- The program ran from this start over this wire, and left that: all that is said of a run of it is true.
pub record IsRunFrom (start : StartSeen) (wire wire_after : WireInMemory) (left : RunResult) : Type 0 where
  pub source_after : SourceSight
  pub clock_after : ClockSight
  pub answers : Answers (run_from start wire wire_after left source_after clock_after)
  pub same_wire : uses_wire (command_in start.words) ≡ false → wire_after ≡ wire

-- It ran the trial over this wire, and left that.
abbrev pub IsRun : Trial → WireInMemory → WireInMemory → RunResult → Type 0
IsRun trial wire wire_after left = IsRunFrom (start_of trial) wire wire_after left

-- It ran the trial over the trial's own wire, and left that.
abbrev pub IsRunOf : Trial → RunResult → Type 0
IsRunOf trial left = (wire_after : WireInMemory) × IsRun trial (wire_of trial) wire_after left

-- What is left has this status, this output and this text on standard error.
pub record HasEnd (status : ℕ) (out said : List ℕ) (left : RunResult) : Type 0 where
  pub status_is : left.status ≡ status
  pub out_is : left.out.held ≡ out
  pub said_is : left.err.held ≡ said

-- why a trial isn't run: it has no reading, or there was no memory, though it has one
abbrev pub Lacks : Untried → Trial → Type 0
Lacks NoReading trial = trial.readings.now ≡ []
Lacks NoMemory trial = trial.readings.now ≡ [] → ⊥
