use Rattle.std.proofs.Common.{◌∙◌, Option, ap, refl, sym}
use Rattle.dt_endpoint.specs.declared.answers.Received.{Received}
use Rattle.dt_endpoint.specs.Calls.{arrive_event}
use Rattle.dt_service_model.specs.Stopping.{ArriveStops, breaks_off, in_event}
use Rattle.dt_service.specs.Nodes.{came_to, node_in, node_of}
use Rattle.dt_service.proofs.Stops.{on_err, turn_rests}
use Rattle.dt_service.proofs.service_parts.ServiceParts.arrive.Goals as goal

pub returns-in_err-refusal-clause-stops : goal.returns-in_err-refusal-clause-stops
returns-in_err-refusal-clause-stops c =
    let p = c.args.self.now in let e = c.receive.new.endpoint in
    on_err c.from_residual.result (ArriveStops c.args.now c.args.link c.args.datagram.now c.args.waited (node_in p) (node_of e p.book))
    (record { clear = sym c.is_closed.ensures ∙ c.if-is_closed.false; unrefused = c.in_err-refusal.ensures.unrefused; turn = in_event (breaks_off e c.in_err-refusal.ensures.cut refl) })

pub returns-in_err-finish-clause-stops : goal.returns-in_err-finish-clause-stops
returns-in_err-finish-clause-stops c =
    let p = c.args.self.now in let e = c.receive.new.endpoint in let m = node_in c.finish.new.self in
    on_err c.from_residual-in_err-finish.result (ArriveStops c.args.now c.args.link c.args.datagram.now c.args.waited (node_in p) m)
    (record {
      clear = sym c.is_closed.ensures ∙ c.if-is_closed.false;
      unrefused = sym c.in_ok-refusal.ensures.refused ∙ c.in_default.is;
      turn = turn_rests c.args.now (arrive_event c.args.link c.args.datagram.now c.args.waited) (node_in p) m e (c.in_ok-refusal.ensures.after ∙ ap (λ (o : Option Received). came_to o c.args.now c.args.link c.args.datagram.now c.args.waited p.endpoint) c.in_default.is) c.in_err-finish.ensures.stops;
    })
