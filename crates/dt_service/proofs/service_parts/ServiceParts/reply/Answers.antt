use Rattle.std.proofs.Common.{◌≡◌, ◌∙◌, sym}
use Rattle.dt_world_model.specs.WorldStep.{first_refusal}
use Rattle.dt_calls_model.specs.Messages.{message_of}
use Rattle.dt_service_model.specs.Asked.{replied_by, reply_refusals}
use Rattle.dt_service_model.specs.Names.{to_u64}
use Rattle.dt_service_model.specs.Stopping.{ReplyStops}
use Rattle.dt_service.specs.Nodes.{node_in, node_of}
use Rattle.dt_service.proofs.Done.{refused_so, reply_done}
use Rattle.dt_service.proofs.Stops.{on_err, reply_cut_off, reply_ends, reply_heard}
use Rattle.dt_service.proofs.service_parts.ServiceParts.reply.Goals as goal

pub returns-in-Some-clause-done : goal.returns-in-Some-clause-done
returns-in-Some-clause-done c =
    let token = c.args.token in let payload = c.args.payload.now in let n = node_in c.args.self.now in
    refused_so (first_refusal (reply_refusals n token payload)) c.in-Some.refusal n (replied_by c.args.now token (message_of (to_u64 token.number) payload) n) c.in-Some.ensures

pub returns-in_err-refused-clause-stops : goal.returns-in_err-refused-clause-stops
returns-in_err-refused-clause-stops c =
    let p = c.args.self.now in let e = c.send_message.new.endpoint in
    let message : c.deref.result.now ≡ message_of (to_u64 c.args.token.number) c.args.payload.now = c.deref.ensures.value ∙ c.in_ok-write_message.ensures in
    let clear = sym c.in_default.ensures in
    on_err c.from_residual-in_err-refused.result (ReplyStops c.args.now c.args.token c.args.payload.now (node_in p) (node_of e p.book))
    (reply_cut_off c.args.now c.args.token c.args.payload.now (node_in p) c.reversed-flow.result c.deref.result.now e clear c.reversed-flow.ensures.flow message c.in_err-refused.ensures.cut)

pub returns-in_err-hear_reports-clause-stops : goal.returns-in_err-hear_reports-clause-stops
returns-in_err-hear_reports-clause-stops c =
    let p = c.args.self.now in let e = c.send_message.new.endpoint in let q = node_in c.hear_reports.new.self in
    let message : c.deref.result.now ≡ message_of (to_u64 c.args.token.number) c.args.payload.now = c.deref.ensures.value ∙ c.in_ok-write_message.ensures in
    let clear = sym c.in_default.ensures in
    on_err c.from_residual-in_err-hear_reports.result (ReplyStops c.args.now c.args.token c.args.payload.now (node_in p) q)
    (reply_heard c.args.now c.args.token c.args.payload.now (node_in p) q c.reversed-flow.result c.deref.result.now e clear c.reversed-flow.ensures.flow message c.in_ok-refused.ensures.after c.in_err-hear_reports.ensures.stops)

pub returns-in_err-end_turn-clause-stops : goal.returns-in_err-end_turn-clause-stops
returns-in_err-end_turn-clause-stops c =
    let p = c.args.self.now in let e = c.send_message.new.endpoint in let q = node_in c.hear_reports.new.self in let k = node_in c.drop_unless.new.self in let m = node_in c.end_turn.new.self in
    let message : c.deref.result.now ≡ message_of (to_u64 c.args.token.number) c.args.payload.now = c.deref.ensures.value ∙ c.in_ok-write_message.ensures in
    let clear = sym c.in_default.ensures in
    on_err c.from_residual-in_err-end_turn.result (ReplyStops c.args.now c.args.token c.args.payload.now (node_in p) m)
    (reply_ends c.args.now c.args.token c.args.payload.now (node_in p) q k m c.reversed-flow.result c.deref.result.now e c.in_ok-refused.refused clear c.reversed-flow.ensures.flow message c.in_ok-refused.ensures.after c.in_ok-hear_reports.ensures.heard c.in_ok-refused.ensures.refused c.drop_unless.ensures c.in_err-end_turn.ensures.stops)

pub returns-clause-done : goal.returns-clause-done
returns-clause-done c =
    let p = c.args.self.now in let e = c.send_message.new.endpoint in let q = node_in c.hear_reports.new.self in let k = node_in c.drop_unless.new.self in let m = node_in c.end_turn.new.self in
    let message : c.deref.result.now ≡ message_of (to_u64 c.args.token.number) c.args.payload.now = c.deref.ensures.value ∙ c.in_ok-write_message.ensures in
    let clear = sym c.in_default.ensures in
    reply_done c.args.now c.args.token c.args.payload.now (node_in p) q k m c.reversed-flow.result c.deref.result.now e c.in_ok-refused.refused c.replied_of.result clear c.reversed-flow.ensures.flow message c.in_ok-refused.ensures.after c.in_ok-hear_reports.ensures.heard c.in_ok-refused.ensures.refused c.drop_unless.ensures c.in_ok-end_turn.ensures.ended c.replied_of.ensures
