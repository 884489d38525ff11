use Rattle.std.proofs.Common.{subst, ◌∙◌}
use Rattle.std.proofs.lemmas.Result.{err_from_is_err_and}
use Rattle.dt_calls_model.specs.Calls.{Client}
use Rattle.dt_calls_model.specs.Reads.{Course, read_all, read_side}
use Rattle.dt_call_parts.specs.Courses.{GoesOn}
use Rattle.dt_call_parts.proofs.Boths.{both_go, both_stop}
use Rattle.dt_calls.proofs.ReadSides.{stopped_with}
use Rattle.dt_call_parts.proofs.Skips.{has_by_keys}
use Rattle.dt_calls.proofs.call_courses.CallCourse.read_both.Goals as goal

pub returns-in_err-read_side-clause-goes : goal.returns-in_err-read_side-clause-goes
returns-in_err-read_side-clause-goes g c =
    let tells = g.L.CallLines.tells in
    let first = c.args.self.now in
    let answer = g.H.Handler.answer first.handler in
    let on = c.read_side.ensures.on in
    let e = err_from_is_err_and c.from_residual.result c.from_residual.ensures.1 in
    stopped_with tells (read_all answer) first.calls c.args.lines.now c.read_side.new.lines _ c.from_residual.result e.0 e.1
    (both_stop tells answer first.calls c.args.lines.now c.read_side.new.lines on.facts on.few c.args.flow.now c.requires.due c.in_err-read_side.ensures.goes)

pub read_side-requires-2-clause-there : goal.read_side-requires-2-clause-there
read_side-requires-2-clause-there g c =
    has_by_keys c.args.flow.now c.read_side.new.self.calls.flows c.args.self.now.calls.flows c.in_ok-read_side.ensures.keys ∙ c.requires.due.there

pub returns-clause-goes : goal.returns-clause-goes
returns-clause-goes g c =
    let tells = g.L.CallLines.tells in
    let first = c.args.self.now in
    let next = c.read_side.new.self in
    let last = c.read_side-2.new.self in
    let answer = g.H.Handler.answer first.handler in
    let on = c.read_side.ensures.on in
    let f = c.args.flow.now in
    let two = subst (λ h. GoesOn tells (λ (r : Course). read_side (g.H.Handler.answer h) Client r f) next.calls c.read_side.new.lines c.read_side-2.new.lines c.read_side-2.result last.calls) c.read_side.ensures.handler c.read_side-2.ensures.goes in
    both_go tells answer first.calls c.args.lines.now c.read_side.new.lines on.facts on.few f c.requires.due c.read_side-2.new.lines next.calls last.calls c.read_side-2.result c.in_ok-read_side.ensures.goes two
