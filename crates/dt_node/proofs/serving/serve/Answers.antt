use Rattle.dt_node.specs.declared.output_forms.OutputForm.TheVariants.{Log}
use Rattle.dt_node.specs.Serving.{edges}
use Rattle.dt_node.proofs.Completed.{completes}
use Rattle.dt_node.proofs.serving.serve.Goals as goal

pub returns-clause-completes : goal.returns-clause-completes
returns-clause-completes g c =
    completes Log c.args.script.now c.serve_script.result (edges (g.W.Wire.sight c.args.wire.now) (g.C.Clock.sight c.args.clock.now) (g.K.Sink.sight c.args.out.now))
    (edges (g.W.Wire.sight c.serve_script.new.wire) (g.C.Clock.sight c.serve_script.new.clock) (g.K.Sink.sight c.serve_script.new.out)) c.serve_script.ensures
