-- What a run leaves that is run again: a refusal, or what is said of `serve` over the wire and the clock of its trace.
use Rattle.std.specs.Prelude.{◌≡◌, ◌⊎◌, ℕ, ◌+◌, List, length, Option, Some, None, Result, Ok, Err}
use Rattle.dt_edges.specs.Clocks.{ClockSight, clock_in_memory}
use Rattle.dt_edges.specs.Sinks.{SinkSight}
use Rattle.dt_edges.specs.Wires.{WireSight, wire_in_memory}
use Rattle.dt_fold.specs.Folds.{refusal}
use Rattle.dt_reports.specs.declared.faults.Fault.TheVariants as faults
use Rattle.dt_reports.specs.declared.faults.LineFault.{LineFault}
use Rattle.dt_reports.specs.declared.faults.LineFault.TheVariants.{Order}
use Rattle.dt_text.specs.InputLines.{lines_of}
use Rattle.dt_trace.specs.Traces.{Recorded, clock_of, nothing, read_from, wire_of}
use Rattle.dt_node.specs.declared.output_forms.OutputForm.TheVariants.{Log}
use Rattle.dt_node.specs.declared.outcomes.NodeOutcome.{NodeOutcome}
use Rattle.dt_node.specs.declared.outcomes.NodeOutcome.TheVariants.{NoMemory}
use Rattle.dt_node.specs.Answering.{Answers, MayRefuse}
use Rattle.dt_node.specs.Completing.{Completes}
use Rattle.dt_node.specs.Serving.{Edges, Logs, SinkFaults, edges}
use Rattle.dt_node.specs.InputParts.{cut_lines, text_of}

-- the line of a refused line
abbrev pub refused_text : ℕ → LineFault → List ℕ
refused_text line fault = refusal line (faults.Line fault)

-- an input is refused, and that is what is written
pub record RefusesWith (outcome : NodeOutcome) (text : List ℕ) (before after : SinkSight) : Type 0 where
  pub may : MayRefuse outcome
  pub log : Logs outcome text before.held after.held
  pub sink_faults : SinkFaults outcome before.faults after.faults

-- the wire and the clock of a trace, and a sink, before the run and after it
abbrev pub edges_before : Recorded → SinkSight → Edges
edges_before t out = edges (wire_in_memory (wire_of t)) (clock_in_memory (clock_of t)) out

-- a run over them
pub record Reruns (script : List ℕ) (t : Recorded) (outcome : NodeOutcome) (before after : SinkSight) : Type 0 where
  pub wire : WireSight
  pub clock : ClockSight
  pub answers : Answers Log script outcome (edges_before t before) (edges wire clock after)
  pub completes : Completes script outcome (edges_before t before) (edges wire clock after)

-- memory ran out before anything was written
abbrev pub Wants : NodeOutcome → SinkSight → SinkSight → Type 0
Wants outcome before after = (outcome ≡ NoMemory) × (after ≡ before)

-- by what the trace after so many lines says
abbrev pub RerunsBy : (mark : ℕ) → (script : List ℕ) → Result Recorded (ℕ × LineFault) → NodeOutcome → SinkSight → SinkSight → Type 0
RerunsBy mark script (Ok t) outcome before after = Reruns script t outcome before after
RerunsBy mark script (Err (line, fault)) outcome before after = RefusesWith outcome (refused_text (mark + line) fault) before after

-- by the parts of the input
abbrev pub RetracesBy : (lines : ℕ) → Option (List (List ℕ) × List (List ℕ)) → NodeOutcome → SinkSight → SinkSight → Type 0
RetracesBy lines None outcome before after = RefusesWith outcome (refused_text (lines + 1) Order) before after
RetracesBy lines (Some (script, trace)) outcome before after = RerunsBy (length script + 1) (text_of script) (read_from 1 nothing trace) outcome before after

-- An input without a line `trace` is refused after its last line; then the trace's lines are tested, and then the script's. Memory may run out with any.
abbrev pub Retraces : List ℕ → NodeOutcome → SinkSight → SinkSight → Type 0
Retraces octets outcome before after = RetracesBy (length (lines_of octets)) (cut_lines (lines_of octets)) outcome before after ⊎ Wants outcome before after
