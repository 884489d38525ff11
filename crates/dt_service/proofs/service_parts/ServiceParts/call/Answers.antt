use Rattle.std.proofs.Common.{ℕ, ◌+◌, ◌≡◌, ◌∙◌, ap, arith, length, sym}
use Rattle.dt_world_model.specs.WorldStep.{first_refusal}
use Rattle.dt_endpoint.specs.Endpoints.{moment_of}
use Rattle.dt_service_model.specs.declared.names.CallNumber.{CallNumber}
use Rattle.dt_service_model.specs.Asked.{call_refusals, made_by, next_number}
use Rattle.dt_service_model.specs.Turns.{Node}
use Rattle.dt_service_model.proofs.Making.{numbers_heard}
use Rattle.dt_calls_model.specs.Messages.{message_of}
use Rattle.dt_service_model.specs.Names.{to_u64}
use Rattle.dt_service_model.specs.Stopping.{CallStops, message_of_call}
use Rattle.dt_service.specs.Nodes.{node_in, node_of}
use Rattle.dt_service.proofs.Done.{call_done, refused_so}
use Rattle.dt_service.proofs.Stops.{call_cut_off, call_ends, call_heard, on_err}
use Rattle.dt_service.proofs.service_parts.ServiceParts.call.Goals as goal

pub returns-in-Some-clause-done : goal.returns-in-Some-clause-done
returns-in-Some-clause-done c =
    let p = c.args.self.now in let f = c.args.flow in let payload = c.args.payload.now in let n = node_in p in
    refused_so (first_refusal (call_refusals n f payload c.args.patience)) c.in-Some.refusal n (made_by c.args.now f (message_of_call payload p.book) c.args.patience n) c.in-Some.ensures.refusal

pub keep_call-requires : goal.keep_call-requires
keep_call-requires c =
    let p = c.args.self.now in
    let number : next_number c.hear_reports.new.self.book ≡ next_number p.book = ap (λ (x : Node). next_number x.book) c.in_ok-hear_reports.ensures.heard ∙ numbers_heard c.send_message.new.endpoint.reports p.book in
    let count = ap (λ (m : CallNumber). m.count) number in
    omega (arith, count, c.in-Some-next_number.ensures.0)

pub returns-in_err-refused-clause-stops : goal.returns-in_err-refused-clause-stops
returns-in_err-refused-clause-stops c =
    let p = c.args.self.now in let e = c.send_message.new.endpoint in
    let number = c.in-Some-next_number.ensures.1 in
    let message : c.deref.result.now ≡ message_of_call c.args.payload.now p.book = c.deref.ensures.value ∙ c.in_ok-write_message.ensures ∙ ap (λ (k : CallNumber). message_of (to_u64 k) c.args.payload.now) number in
    let clear = sym c.in_default.ensures.refusal in
    on_err c.from_residual-in_err-refused.result (CallStops c.args.now c.args.flow c.args.payload.now c.args.patience (node_in p) (node_of e p.book))
    (call_cut_off c.args.now c.args.flow c.args.payload.now c.args.patience (node_in p) c.deref.result.now e clear message c.in_err-refused.ensures.cut)

pub returns-in_err-hear_reports-clause-stops : goal.returns-in_err-hear_reports-clause-stops
returns-in_err-hear_reports-clause-stops c =
    let p = c.args.self.now in let e = c.send_message.new.endpoint in let q = node_in c.hear_reports.new.self in
    let number = c.in-Some-next_number.ensures.1 in
    let message : c.deref.result.now ≡ message_of_call c.args.payload.now p.book = c.deref.ensures.value ∙ c.in_ok-write_message.ensures ∙ ap (λ (k : CallNumber). message_of (to_u64 k) c.args.payload.now) number in
    let clear = sym c.in_default.ensures.refusal in
    on_err c.from_residual-in_err-hear_reports.result (CallStops c.args.now c.args.flow c.args.payload.now c.args.patience (node_in p) q)
    (call_heard c.args.now c.args.flow c.args.payload.now c.args.patience (node_in p) q c.deref.result.now e clear message c.in_ok-refused.ensures.after c.in_err-hear_reports.ensures.stops)

pub returns-in_err-end_turn-clause-stops : goal.returns-in_err-end_turn-clause-stops
returns-in_err-end_turn-clause-stops c =
    let p = c.args.self.now in let e = c.send_message.new.endpoint in let q = node_in c.hear_reports.new.self in let k = node_in c.keep_call.new.self in let m = node_in c.end_turn.new.self in
    let number = c.in-Some-next_number.ensures.1 in
    let message : c.deref.result.now ≡ message_of_call c.args.payload.now p.book = c.deref.ensures.value ∙ c.in_ok-write_message.ensures ∙ ap (λ (k : CallNumber). message_of (to_u64 k) c.args.payload.now) number in
    let clear = sym c.in_default.ensures.refusal in
    let len : c.len-count.result ≡ length c.deref.result.now = omega (arith, c.len-count.ensures, c.deref.ensures.len) in
    on_err c.from_residual-in_err-end_turn.result (CallStops c.args.now c.args.flow c.args.payload.now c.args.patience (node_in p) m)
    (call_ends c.args.now c.args.flow c.args.payload.now c.args.patience (node_in p) q k m c.deref.result.now e c.in_ok-refused.refused c.len-count.result _ clear message c.in_ok-refused.ensures.after c.in_ok-hear_reports.ensures.heard c.in_ok-refused.ensures.refused
    len (ap (λ (k : ℕ). k + c.from.result) c.moment_at.ensures.moment ∙ ap (λ (k : ℕ). moment_of c.args.now p.endpoint + k) c.from.ensures) c.in_ok-keep_call.ensures.kept c.in_err-end_turn.ensures.stops)

pub returns-clause-done : goal.returns-clause-done
returns-clause-done c =
    let p = c.args.self.now in let e = c.send_message.new.endpoint in let q = node_in c.hear_reports.new.self in let k = node_in c.keep_call.new.self in let m = node_in c.end_turn.new.self in
    let number = c.in-Some-next_number.ensures.1 in
    let message : c.deref.result.now ≡ message_of_call c.args.payload.now p.book = c.deref.ensures.value ∙ c.in_ok-write_message.ensures ∙ ap (λ (k : CallNumber). message_of (to_u64 k) c.args.payload.now) number in
    let clear = sym c.in_default.ensures.refusal in
    let len : c.len-count.result ≡ length c.deref.result.now = omega (arith, c.len-count.ensures, c.deref.ensures.len) in
    call_done c.args.now c.args.flow c.args.payload.now c.args.patience (node_in p) q k m c.deref.result.now e c.in_ok-refused.refused c.len-count.result _ c.made_of.result clear message c.in_ok-refused.ensures.after c.in_ok-hear_reports.ensures.heard c.in_ok-refused.ensures.refused
    len (ap (λ (k : ℕ). k + c.from.result) c.moment_at.ensures.moment ∙ ap (λ (k : ℕ). moment_of c.args.now p.endpoint + k) c.from.ensures) c.in_ok-keep_call.ensures.kept c.in_ok-end_turn.ensures.ended (c.made_of.ensures p.book number)
