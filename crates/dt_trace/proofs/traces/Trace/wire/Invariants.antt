use Rattle.std.proofs.Common.{◌≡◌, take, map}
use Rattle.std.specs.Option.{option_map}
use Rattle.dt_trace.specs.Traces.{wire_of, taken_seen}
use Rattle.dt_trace.proofs.traces.Trace.wire.Given as goal

abbrev pub invariant-loop-take : goal.invariant-loop-take
invariant-loop-take l = l.wire ≡ record (wire_of l.self) { entries = take l.take-index l.self.takes }
