use Rattle.dt_service_model.specs.Stopping.{EndStops}
use Rattle.dt_service_model.specs.Turns.{read_flow}
use Rattle.dt_service.specs.Nodes.{node_in}
use Rattle.dt_service.proofs.Steps.{fold_stepped}
use Rattle.dt_service.proofs.Stops.{flows_stop, fold_taken, on_err}
use Rattle.std.proofs.Common.{◌∙◌}
use Rattle.dt_service.proofs.service_parts.ServiceParts.read_all.Goals as goal

pub loop-flow-preserved : goal.loop-flow-preserved
loop-flow-preserved c =
    let n = node_in c.loop-flow.self in let m = node_in c.read_flow.new.self in
    record {
      whole = fold_stepped (read_flow c.args.now) c.loop-flow.flow-index c.deref-flow-items.result.now _ n m _ c.loop-flow-test.true c.in_ok-read_flow.ensures.read c.loop-flow.invariant.whole;
      done = fold_taken (read_flow c.args.now) c.loop-flow.flow-index c.deref-flow-items.result.now _ (node_in c.args.self.now) n m c.loop-flow-test.true c.loop-flow.invariant.done c.in_ok-read_flow.ensures.read;
    }

pub returns-in_err-read_flow-clause-stops : goal.returns-in_err-read_flow-clause-stops
returns-in_err-read_flow-clause-stops c =
    let n = node_in c.args.self.now in let m = node_in c.loop-flow.self in let k = node_in c.read_flow.new.self in
    on_err c.from_residual-in_err-read_flow.result (EndStops c.args.now n k)
    (flows_stop c.args.now c.loop-flow.flow-index c.deref-flow-items.result.now _ n m k c.loop-flow-test.true (c.deref-flow-items.ensures.value ∙ c.in_ok-flows.ensures) c.loop-flow.invariant.done c.in_err-read_flow.ensures.stops)
