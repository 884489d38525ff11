use Rattle.std.proofs.Common.{subst}
use Rattle.std.proofs.lemmas.Result.{err_from_is_err_and}
use Rattle.dt_calls_model.specs.Calls.{Client}
use Rattle.dt_calls_model.specs.Reads.{read_all, read_sides}
use Rattle.dt_call_parts.specs.declared.dues.Due.{Due}
use Rattle.dt_call_parts.specs.Courses.{GoesOn}
use Rattle.dt_call_parts.specs.Dues.{IsDue}
use Rattle.dt_call_parts.proofs.Boths.{none_goes, sides_go, sides_stop}
use Rattle.dt_calls.proofs.ReadSides.{stopped_with}
use Rattle.dt_calls.proofs.call_courses.CallCourse.read_due.Goals as goal

pub returns-in_err-read_sides-in-All-clause-goes : goal.returns-in_err-read_sides-in-All-clause-goes
returns-in_err-read_sides-in-All-clause-goes g c =
    let tells = g.L.CallLines.tells in
    let first = c.args.self.now in
    let answer = g.H.Handler.answer first.handler in
    let e = err_from_is_err_and c.from_residual.result c.from_residual.ensures.1 in
    stopped_with tells (read_all answer) first.calls c.args.lines.now c.read_sides.new.lines _ c.from_residual.result e.0 e.1
    (sides_stop tells answer first.calls c.args.lines.now c.read_sides.new.lines c.in_err-read_sides-in-All.ensures.goes)

pub returns-in-Nothing-clause-goes : goal.returns-in-Nothing-clause-goes
returns-in-Nothing-clause-goes g c =
    let first = c.args.self.now in
    none_goes g.L.CallLines.tells (g.H.Handler.answer first.handler) first.calls c.args.lines.now
    (subst (λ (d : Due). IsDue d first.calls.world first.calls.flows) c.in-Nothing.is c.requires.due)

pub returns-in_ok-read_sides-in-All-clause-goes : goal.returns-in_ok-read_sides-in-All-clause-goes
returns-in_ok-read_sides-in-All-clause-goes g c =
    let tells = g.L.CallLines.tells in
    let first = c.args.self.now in
    let next = c.read_sides.new.self in
    let last = c.read_sides-in-All.new.self in
    let answer = g.H.Handler.answer first.handler in
    let two = subst (λ h. GoesOn tells (read_sides (g.H.Handler.answer h) Client) next.calls c.read_sides.new.lines c.read_sides-in-All.new.lines c.read_sides-in-All.result last.calls) c.read_sides.ensures.handler c.read_sides-in-All.ensures.goes in
    sides_go tells answer first.calls c.args.lines.now c.read_sides.new.lines c.read_sides-in-All.new.lines next.calls last.calls c.read_sides-in-All.result c.in_ok-read_sides-in-All.ensures.goes two
