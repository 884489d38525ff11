use Rattle.std.proofs.Common.{inr, subst}
use Rattle.dt_service_model.specs.Stopping.{EndStops}
use Rattle.dt_service_model.specs.Turns.{Node}
use Rattle.dt_service.specs.Nodes.{node_in}
use Rattle.dt_service.proofs.Stops.{on_error}
use Rattle.dt_service.proofs.service_parts.ServiceParts.finish.Goals as goal

pub returns-clause-stops : goal.returns-clause-stops
returns-clause-stops c = on_error c.end_turn.result (λ stops. inr (subst (λ (n : Node). EndStops c.args.now n (node_in c.end_turn.new.self)) c.in_ok-hear_reports.ensures.heard stops)) c.end_turn.ensures.stops
