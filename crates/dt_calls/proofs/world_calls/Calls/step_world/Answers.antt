use Rattle.std.proofs.Common.{◌≡◌, Ok, ap, sym, subst, ◌∙◌}
use Rattle.std.proofs.lemmas.Result.{err_from_is_err_and}
use Rattle.dt_reports.specs.declared.faults.StepFault.{StepFault}
use Rattle.dt_notes.specs.Events.{event_of}
use Rattle.dt_calls_model.specs.CallFacts.{CallFacts}
use Rattle.dt_calls_model.specs.CallStep.{Happens, finish}
use Rattle.dt_calls.specs.CallCourses.{CourseValue}
use Rattle.dt_calls.specs.CallOutcomes.{CallsValue, IsDone, is_memory, lacks_memory}
use Rattle.dt_call_parts.specs.Courses.{HasGoneOn, HasStopped}
use Rattle.dt_calls.specs.Going.{GoesWrong, HasGone}
use Rattle.dt_call_parts.proofs.DuesLeft.{nothing_due}
use Rattle.dt_calls.proofs.Kept.{answers_so, facts_done}
use Rattle.dt_calls.proofs.Steps.{event_cut, event_ends, event_wrong, fails_with, lacked, lacks_all, refused_same}
use Rattle.dt_calls.proofs.world_calls.Calls.step_world.Given.{Over}
use Rattle.dt_calls.proofs.world_calls.Calls.step_world.Goals.{After-advance_world, After-finish}
use Rattle.dt_calls.proofs.world_calls.Calls.step_world.Goals as goal

pub advance_world-requires-clause-rest : goal.advance_world-requires-clause-rest
advance_world-requires-clause-rest g c =
    let start = c.self.inside.course in
    nothing_due (g.H.Handler.answer start.handler) start.calls (c.self.invariant (ap (λ (v : CallsValue g.row.H.Denot). v.spent) c.self.view_is ∙ c.requires.unspent))

-- the facts that the step begins with
module _ (g : Over) (c : After-advance_world g) where
  facts : CallFacts (g.H.Handler.answer c.self.inside.course.handler) c.self.inside.course.calls
  facts = c.self.invariant (ap (λ (v : CallsValue g.row.H.Denot). v.spent) c.self.view_is ∙ c.requires.unspent)

pub invariant_of-self : goal.invariant_of-self
invariant_of-self g c = λ fine.
    let k = (goal.at.invariant_of-self g c).After-advance_world in
    let same = refused_same (event_of c.args.event.now) c.self.inside.course c.advance_world.new.self c.in_err-due.field-0.0 c.in_err-due.ensures.goes (sym c.in_err-due.ensures.spent ∙ fine) in
    subst (λ (v : CourseValue g.row.H.Denot). CallFacts (g.H.Handler.answer v.handler) v.calls) (sym same) (facts g k)

pub returns-in_err-due : goal.returns-in_err-due
returns-in_err-due g c =
    let k = (goal.at.returns-in_err-due g c).After-advance_world in
    let start = c.self.inside.course in
    let after = c.advance_world.new.self in
    let tells = g.L.CallLines.tells in
    let answer = g.H.Handler.answer start.handler in
    let event = event_of c.args.event.now in
    let l = c.args.lines.now in
    let r = c.from_residual.result in
    let e = err_from_is_err_and r c.from_residual.ensures.1 in
    let wrong = subst (λ (why : StepFault). GoesWrong event start after why) (sym e.2) c.in_err-due.ensures.goes in
    answers_so tells g.H.Handler.answer start after c.args.self.now c.self.view_is (Happens event) l l r (facts g k) c.advance_world.ensures.few c.requires.may
    (fails_with tells answer start.calls (Happens event) l l after.calls r e.0 e.1 (event_wrong event start after tells answer l e.0 wrong))
    c.advance_world.ensures.handler
    (c.in_err-due.ensures.spent ∙ sym (ap lacks_memory e.1 ∙ ap is_memory e.2))
    c.in_err-due.ensures.once

pub returns-in_err-finish : goal.returns-in_err-finish
returns-in_err-finish g c =
    let k = (goal.at.returns-in_err-finish g c).After-advance_world in
    let start = c.self.inside.course in
    let after = c.advance_world.new.self in
    let new = c.finish.new.self in
    let tells = g.L.CallLines.tells in
    let answer = g.H.Handler.answer start.handler in
    let event = event_of c.args.event.now in
    let l = c.args.lines.now in
    let n = c.finish.new.lines in
    let gone = c.in_ok-due.ensures.goes in
    let stop = subst (λ h. HasStopped tells (finish (g.H.Handler.answer h)) after.calls l n) c.advance_world.ensures.handler c.in_err-finish.ensures.goes in
    let r = c.from_residual-in_err-finish.result in
    let e = err_from_is_err_and r c.from_residual-in_err-finish.ensures.1 in
    answers_so tells g.H.Handler.answer start new c.args.self.now c.self.view_is (Happens event) l n r (facts g k) c.advance_world.ensures.few c.requires.may
    (lacked tells answer start.calls (Happens event) l n new.calls r e.0 e.1 e.2 (event_cut event start after tells answer l c.in_ok-due.due gone n stop))
    (c.finish.ensures.handler ∙ c.advance_world.ensures.handler)
    (c.in_err-finish.ensures.spent ∙ sym (lacks_all r e.0 e.1 e.2))
    c.in_err-finish.ensures.once

-- THE STEP IS DONE
module _ (g : Over) (c : After-finish g) (facts : CallFacts (g.H.Handler.answer c.self.inside.course.handler) c.self.inside.course.calls) (gone : HasGone (event_of c.args.event.now) c.self.inside.course c.advance_world.new.self c.in_ok-due.due) (ends : HasGoneOn g.L.CallLines.tells (finish (g.H.Handler.answer c.advance_world.new.self.handler)) c.advance_world.new.self.calls c.args.lines.now c.finish.new.lines c.finish.new.self.calls) where
  abbrev start : CourseValue g.row.H.Denot
  start = c.self.inside.course

  done : IsDone g.L.CallLines.tells (g.H.Handler.answer start.handler) start.calls (Happens (event_of c.args.event.now)) c.args.lines.now c.finish.new.lines c.finish.new.self.calls
  done =
      let after = c.advance_world.new.self in
      let tells = g.L.CallLines.tells in
      let l = c.args.lines.now in
      let n = c.finish.new.lines in
      let new = c.finish.new.self.calls in
      event_ends (event_of c.args.event.now) start after tells (g.H.Handler.answer start.handler) l c.in_ok-due.due gone n new
      (subst (λ h. HasGoneOn tells (finish (g.H.Handler.answer h)) after.calls l n new) c.advance_world.ensures.handler ends)

  handler : c.finish.new.self.handler ≡ start.handler
  handler = c.finish.ensures.handler ∙ c.advance_world.ensures.handler

  facts_then : CallFacts (g.H.Handler.answer start.handler) c.finish.new.self.calls
  facts_then = facts_done g.L.CallLines.tells (g.H.Handler.answer start.handler) start.calls c.finish.new.self.calls (Happens (event_of c.args.event.now)) c.args.lines.now c.finish.new.lines facts c.advance_world.ensures.few c.requires.may done

pub invariant_of-self-2 : goal.invariant_of-self-2
invariant_of-self-2 g c = λ fine.
    let at = goal.at.invariant_of-self-2 g c in
    let k = at.After-finish in
    let facts = facts g at.After-advance_world in
    let gone = c.in_ok-due.ensures.goes in
    let ends = c.in_ok-finish.ensures.goes in
    subst (λ h. CallFacts (g.H.Handler.answer h) c.finish.new.self.calls) (sym (handler g k facts gone ends)) (facts_then g k facts gone ends)

pub returns : goal.returns
returns g c =
    let at = goal.at.returns g c in
    let k = at.After-finish in
    let facts = facts g at.After-advance_world in
    let gone = c.in_ok-due.ensures.goes in
    let ends = c.in_ok-finish.ensures.goes in
    answers_so g.L.CallLines.tells g.H.Handler.answer c.self.inside.course c.finish.new.self c.args.self.now c.self.view_is (Happens (event_of c.args.event.now)) c.args.lines.now c.finish.new.lines (Ok tt) facts c.advance_world.ensures.few c.requires.may
    (done g k facts gone ends)
    (handler g k facts gone ends)
    c.in_ok-finish.ensures.spent
    (facts_then g k facts gone ends).course.once
