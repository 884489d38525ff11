use Rattle.std.proofs.Common.{◌∙◌, sym}
use Rattle.dt_service_model.specs.Stopping.{ForgetStops}
use Rattle.dt_service.specs.Nodes.{node_in}
use Rattle.dt_service.proofs.Stops.{forget_ends, on_err}
use Rattle.dt_service.proofs.service_parts.ServiceParts.forget.Goals as goal

pub returns-in_err-end_turn-clause-stops : goal.returns-in_err-end_turn-clause-stops
returns-in_err-end_turn-clause-stops c =
    let p = c.args.self.now in let m = node_in c.end_turn.new.self in
    on_err c.from_residual.result (ForgetStops c.args.now c.args.token.now (node_in p) m)
    (forget_ends c.args.now c.args.token.now (node_in p) m c.forget.new.self (sym c.is_closed.ensures ∙ c.if-is_closed.false) (sym c.is_open.ensures ∙ c.if-not-is_open.false) c.forget.ensures c.in_err-end_turn.ensures.stops)
