use Rattle.std.proofs.Common.{ℕ, subst}
use Rattle.std.proofs.lemmas.Result.{err_from_is_err_and}
use Rattle.dt_calls_model.specs.CallTold as told
use Rattle.dt_calls_model.specs.Reads.{serve_call}
use Rattle.dt_calls.specs.Parts.{calls_seen}
use Rattle.dt_calls.proofs.ReadSides.{stopped_with}
use Rattle.dt_call_parts.proofs.Servings.{serving_stops}
use Rattle.dt_calls.proofs.reading.serve.Goals as goal

pub returns-in_err-reply-clause-goes : goal.returns-in_err-reply-clause-goes
returns-in_err-reply-clause-goes g c =
    let tells = g.L.CallLines.tells in
    let answer = g.H.Handler.answer c.args.parts.now.handler in
    let calls = calls_seen c.args.parts.now in
    let p = err_from_is_err_and c.from_residual.result c.from_residual.ensures.1 in
    let tell = subst (λ (k : ℕ). tells c.args.lines.now (record { moment = k; told = told.Served c.args.call }) c.line.new.self) c.now.ensures c.line.ensures in
    stopped_with tells (serve_call answer c.args.flow.now c.args.call c.args.payload.now) calls c.args.lines.now c.line.new.self _ c.from_residual.result p.0 p.1 (serving_stops tells answer calls c.args.lines.now c.args.flow.now c.args.call c.args.payload.now c.line.new.self tell)
