use Rattle.std.proofs.Common.{◌≡◌, ◌≤◌, []}
use Rattle.std.specs.Option.{IfSome}
use Rattle.dt_edges.specs.Wires.{handed}
use Rattle.dt_trace.specs.Lines.{most_taken}
use Rattle.dt_script.specs.Codes.{orders_seen}
use Rattle.dt_turn.specs.Codes.{IsReady, node_seen}
use Rattle.dt_node.specs.Runs.{moment}
use Rattle.dt_node.specs.Serving.{edges}
use Rattle.dt_node.proofs.Watching.{IsWell, left_before}
use Rattle.dt_node.proofs.Served.{Going}
use Rattle.dt_node.proofs.running.run_turns.Given as goal

abbrev pub invariant-turns : goal.invariant-turns
invariant-turns g l =
    record {
      going : Going l.fn.run.recorder.writer.form (orders_seen l.orders) (edges (g.W.Wire.sight l.fn.wire) (g.C.Clock.sight l.fn.clock) (g.K.Sink.sight l.fn.out)) l.reading l.run.recorder.writer.gives l.watch (handed l.came l.octets) (node_seen l.orders l.run.node) (edges (g.W.Wire.sight l.wire) (g.C.Clock.sight l.clock) (g.K.Sink.sight l.out));
      well : IsWell l.watch;
      ready : IsReady l.orders (moment l.watch) l.run.node;
      within : IfSome l.came (λ d. d.1 ≤ most_taken);
      empty : l.run.recorder.buffer ≡ [];
      form : l.run.recorder.writer.form ≡ l.fn.run.recorder.writer.form;
    }

abbrev pub decreases-turns : goal.decreases-turns
decreases-turns g l = left_before l.orders.stop l.watch
