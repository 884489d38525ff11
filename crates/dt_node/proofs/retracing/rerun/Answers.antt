use Rattle.std.proofs.Common.{subst}
use Rattle.dt_edges.specs.Clocks.{ClockInMemory, clock_in_memory}
use Rattle.dt_edges.specs.Wires.{WireInMemory, wire_in_memory}
use Rattle.dt_node.specs.declared.output_forms.OutputForm.TheVariants.{Log}
use Rattle.dt_node.specs.Answering.{Answers}
use Rattle.dt_node.specs.Completing.{Completes}
use Rattle.dt_node.specs.Serving.{edges}
use Rattle.dt_trace.specs.Traces.{clock_of}
use Rattle.dt_node.proofs.retracing.rerun.Goals as goal

pub returns-clause-runs : goal.returns-clause-runs
returns-clause-runs g c =
    let out = g.K.Sink.sight c.args.out.now in
    let after = edges (wire_in_memory c.serve.new.wire) (clock_in_memory c.serve.new.clock) (g.K.Sink.sight c.serve.new.out) in
    let script = c.args.script.now in
    let outcome = c.serve.result in
    record {
      wire = wire_in_memory c.serve.new.wire;
      clock = clock_in_memory c.serve.new.clock;
      answers = subst (λ (w : WireInMemory). Answers Log script outcome (edges (wire_in_memory w) (clock_in_memory (clock_of c.args.trace.now)) out) after) c.in_ok-wire.ensures
          (subst (λ (k : ClockInMemory). Answers Log script outcome (edges (wire_in_memory c.in_ok-wire.wire) (clock_in_memory k) out) after) c.in_ok-clock.ensures c.serve.ensures.answers);
      completes = subst (λ (w : WireInMemory). Completes script outcome (edges (wire_in_memory w) (clock_in_memory (clock_of c.args.trace.now)) out) after) c.in_ok-wire.ensures
          (subst (λ (k : ClockInMemory). Completes script outcome (edges (wire_in_memory c.in_ok-wire.wire) (clock_in_memory k) out) after) c.in_ok-clock.ensures c.serve.ensures.completes);
    }
