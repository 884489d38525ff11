use Rattle.std.proofs.Common.{refl}
use Rattle.std.proofs.lemmas.Result.{err_from_is_err_and}
use Rattle.dt_calls_model.specs.CallStep.{judge_all, finish}
use Rattle.dt_calls_model.specs.Reads.{read_all}
use Rattle.dt_call_parts.proofs.Courses.{gone_then, stop_then}
use Rattle.dt_calls.proofs.ReadSides.{stopped_with}
use Rattle.dt_calls.proofs.call_courses.CallCourse.finish.Goals as goal

pub returns-in_err-read_due-clause-goes : goal.returns-in_err-read_due-clause-goes
returns-in_err-read_due-clause-goes g c =
    let tells = g.L.CallLines.tells in
    let first = c.args.self.now in
    let answer = g.H.Handler.answer first.handler in
    let e = err_from_is_err_and c.from_residual.result c.from_residual.ensures.1 in
    stopped_with tells (finish answer) first.calls c.args.lines.now c.read_due.new.lines _ c.from_residual.result e.0 e.1
    (stop_then tells (read_all answer) judge_all (λ told d. refl) first.calls c.args.lines.now c.read_due.new.lines c.in_err-read_due.ensures.goes)

pub returns-clause-goes : goal.returns-clause-goes
returns-clause-goes g c =
    let first = c.args.self.now in
    gone_then g.L.CallLines.tells (read_all (g.H.Handler.answer first.handler)) judge_all (λ told d. refl) first.calls c.read_due.new.self.calls c.mark_unsure.new.self.calls c.args.lines.now c.read_due.new.lines c.mark_unsure.new.lines c.in_ok-read_due.ensures.goes c.mark_unsure.ensures.goes
