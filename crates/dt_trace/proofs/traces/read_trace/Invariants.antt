use Rattle.std.proofs.Common.{◌≡◌, ◌+◌, ◌≤◌, length}
use Rattle.dt_text.specs.InputLines.{lines_of}
use Rattle.dt_trace.specs.Traces.{read_from, trace_of}
use Rattle.dt_trace.proofs.traces.read_trace.Given as goal

abbrev pub invariant-loop-rest : goal.invariant-loop-rest
invariant-loop-rest l = record {
  on : read_from l.number l.trace (lines_of l.rest) ≡ trace_of l.bytes;
  few : l.number + length l.rest ≤ length l.bytes + 1;
}

abbrev pub decreases-loop-rest : goal.decreases-loop-rest
decreases-loop-rest l = length l.rest
