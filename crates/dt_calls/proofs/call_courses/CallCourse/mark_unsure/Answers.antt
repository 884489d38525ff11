use Rattle.std.proofs.Common.{ap, sym, subst, ◌∙◌}
use Rattle.dt_calls_model.specs.CallFacts.{CourseFacts}
use Rattle.dt_calls_model.specs.Calls.{Calls}
use Rattle.dt_calls_laws.proofs.States.{judge_course}
use Rattle.dt_calls.specs.CallCourses.{CourseValue}
use Rattle.dt_call_parts.specs.Kept.{AreShort, IsKeptWorld}
use Rattle.dt_calls.specs.Parts.{calls_seen}
use Rattle.dt_call_parts.specs.Waiting.{Covers}
use Rattle.dt_call_parts.proofs.Requests.{judged_short}
use Rattle.dt_calls.proofs.call_courses.CallCourse.mark_unsure.Goals as goal

pub invariant_of-self : goal.invariant_of-self
invariant_of-self g c =
    let p = c.self.inside.parts in
    let answer = g.H.Handler.answer p.handler in
    let on = c.self.invariant.on (ap (λ (v : CourseValue g.row.H.Denot). v.spent) c.self.view_is ∙ c.requires.unspent) in
    let same = c.mark_waiting_unsure.ensures.same in
    let judged = c.mark_waiting_unsure.ensures.goes.calls in
    let facts = subst (λ (x : Calls). CourseFacts answer x) (sym judged) (judge_course answer (calls_seen p) on.course) in
    let course = subst (λ h. CourseFacts (g.H.Handler.answer h) (calls_seen c.mark_waiting_unsure.new.parts)) (sym (ap (λ x. x.handler) same)) facts in
    record {
      once = course.once;
      on = λ fine. record {
        whole = record {
          unspent = ap (λ x. x.world.spent) same ∙ on.whole.unspent;
          heard = ap (λ x. x.heard.failed) same ∙ on.whole.heard;
          world = subst IsKeptWorld (sym (ap (λ x. x.world.state) same)) on.whole.world;
          waiting = subst (λ cs. Covers 0 c.drop_settled.new.waiting.items cs) c.deref.ensures.value c.drop_settled.ensures.covers;
          requests = subst AreShort (sym (ap (λ (x : Calls). x.calls) judged)) (judged_short p.world.state p.calls.items on.whole.requests);
        };
        course = course;
      };
    }
