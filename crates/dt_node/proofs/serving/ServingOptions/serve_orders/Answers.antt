use Rattle.std.proofs.Common.{refl}
use Rattle.std.proofs.KnownBytes.{Appends-nil}
use Rattle.dt_fold.specs.declared.stops.Stop.TheVariants as stops
use Rattle.dt_script.specs.Codes.{orders_seen}
use Rattle.dt_node.specs.Serving.{edges}
use Rattle.dt_node.proofs.Endings.{serve_early}
use Rattle.dt_node.proofs.serving.ServingOptions.serve_orders.Goals as goal

pub returns-in-Err : goal.returns-in-Err
returns-in-Err g c =
    let out = g.K.Sink.sight c.args.out.now in
    serve_early c.args.self.form (orders_seen c.args.orders.now) (edges (g.W.Wire.sight c.args.wire.now) (g.C.Clock.sight c.args.clock.now) out) stops.NoMemory out.held out.faults (0, Appends-nil out.held) refl
