use Rattle.std.proofs.Common.{◌∙◌, refl, sym}
use Rattle.dt_world_model.specs.Station.{Tick}
use Rattle.dt_service_model.specs.Stopping.{TickStops}
use Rattle.dt_service.specs.Nodes.{node_in, node_of}
use Rattle.dt_service.proofs.Stops.{on_err, turn_cut_off, turn_rests}
use Rattle.dt_service.proofs.service_parts.ServiceParts.tick.Goals as goal

pub returns-in_err-pass-clause-stops : goal.returns-in_err-pass-clause-stops
returns-in_err-pass-clause-stops c =
    let p = c.args.self.now in let e = c.pass.new.endpoint in
    on_err c.from_residual.result (TickStops c.args.now (node_in p) (node_of e p.book))
    (record { clear = sym c.is_closed.ensures ∙ c.if-is_closed.false; turn = turn_cut_off c.args.now Tick (λ h. h) (node_in p) (node_of e p.book) e c.in_err-pass.ensures.cut refl })

pub returns-in_err-finish-clause-stops : goal.returns-in_err-finish-clause-stops
returns-in_err-finish-clause-stops c =
    let p = c.args.self.now in let e = c.pass.new.endpoint in let m = node_in c.finish.new.self in
    on_err c.from_residual-in_err-finish.result (TickStops c.args.now (node_in p) m)
    (record { clear = sym c.is_closed.ensures ∙ c.if-is_closed.false; turn = turn_rests c.args.now Tick (node_in p) m e c.in_ok-pass.ensures.after c.in_err-finish.ensures.stops })
