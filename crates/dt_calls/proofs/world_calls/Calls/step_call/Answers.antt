use Rattle.std.proofs.Common.{◌≡◌, None, Result, Ok, Err, refl, ap, sym, subst, ◌∙◌}
use Rattle.std.proofs.lemmas.Result.{err_from_is_err_and}
use Rattle.dt_reports.specs.declared.faults.StepFault.{StepFault}
use Rattle.dt_world_model.specs.WorldStep.{first_refusal}
use Rattle.dt_calls_model.specs.CallFacts.{CallFacts}
use Rattle.dt_calls_model.specs.CallStep.{Makes, call_refusals, finish}
use Rattle.dt_calls.specs.CallCourses.{CourseValue}
use Rattle.dt_calls.specs.CallOutcomes.{Answers, CallsValue, IsDone}
use Rattle.dt_call_parts.specs.Courses.{HasGoneOn, HasStopped}
use Rattle.dt_call_parts.proofs.DuesLeft.{nothing_due}
use Rattle.dt_calls.proofs.Kept.{answers_so, facts_done}
use Rattle.dt_calls.proofs.Steps.{call_cut, call_cut_late, call_ends, call_plain, call_refused, lacked, lacks_all}
use Rattle.dt_calls.proofs.world_calls.Calls.step_call.Given.{Over}
use Rattle.dt_calls.proofs.world_calls.Calls.step_call.Goals.{After-finish, After-refusal}
use Rattle.dt_calls.proofs.world_calls.Calls.step_call.Goals as goal

-- the facts that the step begins with
module _ (g : Over) (c : After-refusal g) where
  facts : CallFacts (g.H.Handler.answer c.self.inside.course.handler) c.self.inside.course.calls
  facts = c.self.invariant (ap (λ (v : CallsValue g.row.H.Denot). v.spent) c.self.view_is ∙ c.requires.unspent)

pub returns-in-Some : goal.returns-in-Some
returns-in-Some g c =
    let facts = facts g (goal.at.returns-in-Some g c).After-refusal in
    let start = c.self.inside.course in
    let tells = g.L.CallLines.tells in
    let f = c.args.flow in
    let payload = c.args.payload.now in
    let l = c.args.lines.now in
    let is = sym c.refusal.ensures.refusal ∙ c.in-Some.is in
    let result : Result (Unit {0}) StepFault = Err c.in-Some.fault in
    let unspent = ap (λ (v : CallsValue g.row.H.Denot). v.spent) c.self.view_is ∙ c.requires.unspent in
    subst (λ (v : CallsValue g.row.H.Denot). Answers tells g.H.Handler.answer c.args.self.now (Makes f payload) l l v result) c.self.view_is
    (answers_so tells g.H.Handler.answer start start c.args.self.now c.self.view_is (Makes f payload) l l result facts c.refusal.ensures.few c.refusal.ensures.range
    (call_refused start.calls f c.in-Some.fault is tells (g.H.Handler.answer start.handler) payload l)
    refl
    (unspent ∙ sym (call_plain start.calls f c.in-Some.fault is))
    facts.course.once)

pub make-requires-clause-rest : goal.make-requires-clause-rest
make-requires-clause-rest g c =
    let start = c.self.inside.course in
    nothing_due (g.H.Handler.answer start.handler) start.calls (facts g (goal.at.make-requires-clause-rest g c).After-refusal)

pub returns-in_err-make : goal.returns-in_err-make
returns-in_err-make g c =
    let facts = facts g (goal.at.returns-in_err-make g c).After-refusal in
    let start = c.self.inside.course in
    let new = c.make.new.self in
    let tells = g.L.CallLines.tells in
    let answer = g.H.Handler.answer start.handler in
    let f = c.args.flow in
    let payload = c.args.payload.now in
    let l = c.args.lines.now in
    let m = c.make.new.lines in
    let fine : first_refusal (call_refusals start.calls f) ≡ None = sym c.refusal.ensures.refusal ∙ c.in_default.is in
    let r = c.from_residual.result in
    let e = err_from_is_err_and r c.from_residual.ensures.1 in
    answers_so tells g.H.Handler.answer start new c.args.self.now c.self.view_is (Makes f payload) l m r facts c.refusal.ensures.few c.refusal.ensures.range
    (lacked tells answer start.calls (Makes f payload) l m new.calls r e.0 e.1 e.2 (call_cut tells answer start.calls l f payload fine m c.in_err-make.ensures.goes))
    c.make.ensures.handler
    (c.in_err-make.ensures.spent ∙ sym (lacks_all r e.0 e.1 e.2))
    c.in_err-make.ensures.once

pub returns-in_err-finish : goal.returns-in_err-finish
returns-in_err-finish g c =
    let facts = facts g (goal.at.returns-in_err-finish g c).After-refusal in
    let start = c.self.inside.course in
    let made = c.make.new.self in
    let new = c.finish.new.self in
    let tells = g.L.CallLines.tells in
    let answer = g.H.Handler.answer start.handler in
    let f = c.args.flow in
    let payload = c.args.payload.now in
    let l = c.args.lines.now in
    let m = c.make.new.lines in
    let n = c.finish.new.lines in
    let fine : first_refusal (call_refusals start.calls f) ≡ None = sym c.refusal.ensures.refusal ∙ c.in_default.is in
    let stop = subst (λ h. HasStopped tells (finish (g.H.Handler.answer h)) made.calls m n) c.make.ensures.handler c.in_err-finish.ensures.goes in
    let r = c.from_residual-in_err-finish.result in
    let e = err_from_is_err_and r c.from_residual-in_err-finish.ensures.1 in
    answers_so tells g.H.Handler.answer start new c.args.self.now c.self.view_is (Makes f payload) l n r facts c.refusal.ensures.few c.refusal.ensures.range
    (lacked tells answer start.calls (Makes f payload) l n new.calls r e.0 e.1 e.2 (call_cut_late tells answer start.calls l f payload fine made.calls m n c.in_ok-make.ensures.goes stop))
    (c.finish.ensures.handler ∙ c.make.ensures.handler)
    (c.in_err-finish.ensures.spent ∙ sym (lacks_all r e.0 e.1 e.2))
    c.in_err-finish.ensures.once

-- THE STEP IS DONE
module _ (g : Over) (c : After-finish g) (facts : CallFacts (g.H.Handler.answer c.self.inside.course.handler) c.self.inside.course.calls) (gone : HasGoneOn g.L.CallLines.tells (finish (g.H.Handler.answer c.make.new.self.handler)) c.make.new.self.calls c.make.new.lines c.finish.new.lines c.finish.new.self.calls) where
  abbrev start : CourseValue g.row.H.Denot
  start = c.self.inside.course

  done : IsDone g.L.CallLines.tells (g.H.Handler.answer start.handler) start.calls (Makes c.args.flow c.args.payload.now) c.args.lines.now c.finish.new.lines c.finish.new.self.calls
  done =
      let tells = g.L.CallLines.tells in
      let made = c.make.new.self in
      let m = c.make.new.lines in
      let n = c.finish.new.lines in
      let new = c.finish.new.self.calls in
      let fine : first_refusal (call_refusals start.calls c.args.flow) ≡ None = sym c.refusal.ensures.refusal ∙ c.in_default.is in
      let goes = subst (λ h. HasGoneOn tells (finish (g.H.Handler.answer h)) made.calls m n new) c.make.ensures.handler gone in
      call_ends tells (g.H.Handler.answer start.handler) start.calls c.args.lines.now c.args.flow c.args.payload.now fine made.calls m n c.in_ok-make.ensures.goes new goes

  handler : c.finish.new.self.handler ≡ start.handler
  handler = c.finish.ensures.handler ∙ c.make.ensures.handler

  facts_then : CallFacts (g.H.Handler.answer start.handler) c.finish.new.self.calls
  facts_then = facts_done g.L.CallLines.tells (g.H.Handler.answer start.handler) start.calls c.finish.new.self.calls (Makes c.args.flow c.args.payload.now) c.args.lines.now c.finish.new.lines facts c.refusal.ensures.few c.refusal.ensures.range done

pub invariant_of-self-2 : goal.invariant_of-self-2
invariant_of-self-2 g c = λ fine.
    let at = goal.at.invariant_of-self-2 g c in
    let facts = facts g at.After-refusal in
    let gone = c.in_ok-finish.ensures.goes in
    subst (λ h. CallFacts (g.H.Handler.answer h) c.finish.new.self.calls) (sym (handler g at.After-finish facts gone)) (facts_then g at.After-finish facts gone)

pub returns : goal.returns
returns g c =
    let at = goal.at.returns g c in
    let k = at.After-finish in
    let facts = facts g at.After-refusal in
    let gone = c.in_ok-finish.ensures.goes in
    answers_so g.L.CallLines.tells g.H.Handler.answer c.self.inside.course c.finish.new.self c.args.self.now c.self.view_is (Makes c.args.flow c.args.payload.now) c.args.lines.now c.finish.new.lines (Ok tt) facts c.refusal.ensures.few c.refusal.ensures.range
    (done g k facts gone)
    (handler g k facts gone)
    c.in_ok-finish.ensures.spent
    (facts_then g k facts gone).course.once
