use Rattle.std.proofs.Common.{◌∙◌, Bool, ap}
use Rattle.std.specs.Prelude.{cond}
use Rattle.dt_service.specs.Nodes.{FlowStops, node_in}
use Rattle.dt_service.proofs.Steps.{times_stepped}
use Rattle.dt_service.proofs.Stops.{on_err, times_go, times_stop}
use Rattle.dt_service.proofs.service_parts.ServiceParts.read_times.Goals as goal

pub loop-preserved : goal.loop-preserved
loop-preserved c =
    let n = node_in c.loop.self in let m = node_in c.read.new.self in
    record {
      whole = times_stepped c.args.now c.args.flow.now c.args.most c.loop.counter n m _ c.loop-test.true (λ again. c.in_ok-read.ensures.read again ∙ ap (λ (b : Bool). cond b (again m) m) c.if-not-branch.false) c.loop.invariant.whole;
      done = times_go c.args.now c.args.flow.now c.loop.counter (node_in c.args.self.now) n m c.loop.invariant.done (λ again. c.in_ok-read.ensures.read again ∙ ap (λ (b : Bool). cond b (again m) m) c.if-not-branch.false);
    }

pub returns-in_err-read-clause-stops : goal.returns-in_err-read-clause-stops
returns-in_err-read-clause-stops c =
    let n = node_in c.args.self.now in let m = node_in c.read.new.self in
    on_err c.from_residual.result (FlowStops c.args.now c.args.flow.now n m) (times_stop c.args.now c.args.flow.now c.loop.counter n (node_in c.loop.self) m c.loop.invariant.done c.in_err-read.ensures.stops)
