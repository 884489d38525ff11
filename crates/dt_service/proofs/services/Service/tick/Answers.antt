use Rattle.std.proofs.Common.{ap, inr, refl, subst}
use Rattle.dt_service_model.specs.CallBook.{CallBook}
use Rattle.dt_service_model.specs.Stopping.{TickStops}
use Rattle.dt_service_model.specs.Turns.{Node}
use Rattle.dt_service.specs.Nodes.{node_in, node_of}
use Rattle.dt_service.proofs.services.Service.tick.Goals as goal

pub returns-in-Err : goal.returns-in-Err
returns-in-Err c =
    let p = c.tick.new.self in
    record { ends = inr (refl, record { stopped = node_in p; stops = subst (λ (n : Node). TickStops c.args.now n (node_in p)) c.self.view_is c.in-Err.ensures.stops; closed = ap (λ (h : CallBook). node_of p.endpoint h) c.close.ensures }) }
