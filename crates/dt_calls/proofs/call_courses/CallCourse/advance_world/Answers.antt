use Rattle.std.proofs.Common.{◌≡◌, false, List, refl, ap, sym, subst, ◌∙◌}
use Rattle.dt_units.specs.declared.endpoints.Flow.{Flow}
use Rattle.dt_world.specs.Outcomes.{IsDone}
use Rattle.dt_notes.specs.Events.{event_of}
use Rattle.dt_calls_model.specs.CallFacts.{CourseFacts}
use Rattle.dt_calls_model.specs.Calls.{Begun, Calls}
use Rattle.dt_call_parts.specs.declared.dues.Due.TheVariants as due
use Rattle.dt_calls.specs.CallCourses.{CourseValue}
use Rattle.dt_call_parts.specs.Dues.{IsDue}
use Rattle.dt_call_parts.specs.Flows.{flows_seen}
use Rattle.dt_calls.specs.Going.{HasGone}
use Rattle.dt_call_parts.specs.Hearing.{HeardValue, Hears, for_event}
use Rattle.dt_calls.specs.Parts.{calls_seen}
use Rattle.dt_calls.proofs.Goings.{due_then, world_after}
use Rattle.dt_calls.proofs.Kept.{event_kept}
use Rattle.dt_calls.proofs.call_courses.CallCourse.advance_world.Goals as goal

pub invariant_of-self-2 : goal.invariant_of-self-2
invariant_of-self-2 g c =
    let p = c.self.inside.parts in
    let answer = g.H.Handler.answer p.handler in
    let on = c.self.invariant.on (ap (λ (v : CourseValue g.row.H.Denot). v.spent) c.self.view_is ∙ c.requires.unspent) in
    let e = event_of c.args.event.now in
    let world = c.step-answer.new.self in
    let t = c.step-answer.new.lines in
    let done : IsDone Hears p.world e (for_event p.heard) t world = subst (λ (s : HeardValue). IsDone Hears p.world e s t world) c.begin_event.ensures c.in_ok-answer.ensures in
    let heard : t.failed ≡ false = sym c.has_failed-self-inside.ensures ∙ c.if-self.false in
    let course = subst (λ (fs : List (Flow × Begun)). let x : Calls = record { world = world.state; calls = p.calls.items; flows = fs } in CourseFacts answer x) (sym c.drop_begun.ensures) (event_kept answer (calls_seen p) e done.told world.state on.course c.requires.may done.step) in
    record {
      once = c.self.invariant.once;
      on = λ fine. record {
        whole = record { unspent = done.unspent; heard = heard; world = world_after e p on.whole world t done c.requires.may heard; waiting = on.whole.waiting; requests = on.whole.requests };
        course = course;
      };
    }

pub returns-clause-goes : goal.returns-clause-goes
returns-clause-goes g c =
    let p = c.self.inside.parts in
    let on = c.self.invariant.on (ap (λ (v : CourseValue g.row.H.Denot). v.spent) c.self.view_is ∙ c.requires.unspent) in
    let e = event_of c.args.event.now in
    let world = c.step-answer.new.self in
    let t = c.step-answer.new.lines in
    let done : IsDone Hears p.world e (for_event p.heard) t world = subst (λ (s : HeardValue). IsDone Hears p.world e s t world) c.begin_event.ensures c.in_ok-answer.ensures in
    let heard : t.failed ≡ false = sym c.has_failed-self-inside.ensures ∙ c.if-self.false in
    let fs = flows_seen c.drop_begun.new.flows.entries in
    let after : CourseValue g.row.H.Denot = record { calls = record { world = world.state; calls = p.calls.items; flows = fs }; waiting = p.waiting.items; handler = p.handler; spent = c.has_failed-self-inside.result } in
    let rest = subst (λ (v : CourseValue g.row.H.Denot). IsDue due.Nothing v.calls.world v.calls.flows) (sym c.self.view_is) c.requires.rest in
    let due = due_then e p on.whole world t done c.requires.may heard fs c.due_after_event.result rest c.drop_begun.ensures c.due_after_event.ensures in
    subst (λ (v : CourseValue g.row.H.Denot). HasGone e v after c.due_after_event.result) c.self.view_is
    record { lines = done.told; step = done.step; calls = refl; flows = c.drop_begun.ensures; due = due }
