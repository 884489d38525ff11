use Rattle.std.proofs.Common.{ap, inl, inr, refl, subst}
use Rattle.dt_service_model.specs.Asked.{reply}
use Rattle.dt_service_model.specs.CallBook.{CallBook}
use Rattle.dt_service_model.specs.Stopping.{ReplyStops}
use Rattle.dt_service_model.specs.Turns.{Node}
use Rattle.dt_service.specs.Nodes.{Is, node_in, node_of}
use Rattle.dt_service.proofs.services.Service.reply.Goals as goal

pub returns-in-Ok : goal.returns-in-Ok
returns-in-Ok c =
    let p = node_in c.reply.new.self in
    record { ends = inl (subst (λ (n : Node). Is c.in-Ok.replied p (reply c.args.now c.args.token c.args.payload.now n)) c.self.view_is c.in-Ok.ensures.done) }

pub returns-in-Err : goal.returns-in-Err
returns-in-Err c =
    let p = c.reply.new.self in
    record { ends = inr (refl, record { stopped = node_in p; stops = subst (λ (n : Node). ReplyStops c.args.now c.args.token c.args.payload.now n (node_in p)) c.self.view_is c.in-Err.ensures.stops; closed = ap (λ (h : CallBook). node_of p.endpoint h) c.close.ensures }) }
