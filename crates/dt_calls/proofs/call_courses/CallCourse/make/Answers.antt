use Rattle.std.proofs.Common.{◌≡◌, ◌<◌, ◌≤◌, ◌^◌, None, length, sym, ap, subst, ◌∙◌, rules}
use Rattle.dt_world_model.specs.WorldStep.{first_refusal}
use Rattle.dt_calls_model.specs.CallFacts.{CourseFacts}
use Rattle.dt_calls_model.specs.Calls.{Calls, with_flow}
use Rattle.dt_calls_model.specs.CallStep.{call_refusals}
use Rattle.dt_call_parts.specs.declared.dues.Due.TheVariants as due
use Rattle.dt_calls.specs.CallCourses.{CourseValue}
use Rattle.dt_call_parts.specs.Courses.{HasGoneOn}
use Rattle.dt_call_parts.specs.Dues.{IsDue}
use Rattle.dt_call_parts.specs.Flows.{flows_seen}
use Rattle.dt_call_parts.specs.Kept.{AreShort, IsKeptWorld}
use Rattle.dt_calls.specs.Parts.{calls_seen}
use Rattle.dt_call_parts.specs.Waiting.{Covers}
use Rattle.dt_calls.proofs.Kept.{made_kept}
use Rattle.dt_calls.proofs.Makings.{Adding, handed_in, made_due_in, made_world, makes}
use Rattle.dt_call_parts.proofs.Requests.{posted_short}
use Rattle.dt_calls.proofs.call_courses.CallCourse.make.Goals as goal

pub invariant_of-self-2 : goal.invariant_of-self-2
invariant_of-self-2 g c =
    let tells = g.L.CallLines.tells in
    let p = c.self.inside.parts in
    let on = c.self.invariant.on (ap (λ (v : CourseValue g.row.H.Denot). v.spent) c.self.view_is ∙ c.requires.unspent) in
    let f = c.args.flow in
    let payload = c.args.payload.now in
    let request = c.in_ok-request.request in
    let posted = c.in_ok-request.ensures in
    let w = c.post.new.parts.world.state in
    let l = c.args.lines.now in
    let m = c.add_call.new.lines in
    let q = c.add_call.new.parts in
    let same = c.add_call.ensures.same in
    let range = c.add_call.ensures.range in
    let is = handed_in f payload c.write_message.new.message.items c.len-call.result (calls_seen p) (request, w) (search rules) c.in_ok-write_message.ensures posted.posts in
    let octets : length c.write_message.new.message.items ≤ 65536 = search rules in
    let few : length p.calls.items < 2 ^ 64 = search rules in
    let fine = subst (λ (v : CourseValue g.row.H.Denot). first_refusal (call_refusals v.calls f) ≡ None) (sym c.self.view_is) c.requires.fine in
    let added = subst (λ (x : Calls). HasGoneOn tells (Adding f (length payload) request) x l m (calls_seen q)) (ap calls_seen posted.same) c.in_ok-add_call.ensures.goes in
    let gone = makes f payload (calls_seen p) request w is tells l m (calls_seen q) added in
    let made = made_kept (g.H.Handler.answer p.handler) (calls_seen p) (calls_seen q) f payload on.course few range fine gone.calls in
    let handler = ap (λ x. x.handler) same ∙ ap (λ x. x.handler) posted.same in
    let course = subst (λ h. CourseFacts (g.H.Handler.answer h) (calls_seen q)) (sym handler) made.course in
    record {
      once = course.once;
      on = λ unspent. record {
        whole = record {
          unspent = ap (λ x. x.world.spent) same ∙ posted.unspent;
          heard = ap (λ x. x.heard.failed) same ∙ posted.heard;
          world = subst IsKeptWorld (sym (ap (λ x. x.world.state) same)) (made_world f payload (calls_seen p) request w is range on.whole.world);
          waiting = c.in_ok-add_call.ensures.waiting (subst (λ x. Covers 0 x.waiting.items x.calls.items) (sym posted.same) on.whole.waiting);
          requests = c.in_ok-add_call.ensures.requests (posted_short f c.write_message.new.message.items p.world.state request w posted.posts octets) (subst (λ x. AreShort x.calls.items) (sym posted.same) on.whole.requests);
        };
        course = course;
      };
    }

pub returns-clause-due : goal.returns-clause-due
returns-clause-due g c =
    let p = c.self.inside.parts in
    let on = c.self.invariant.on (ap (λ (v : CourseValue g.row.H.Denot). v.spent) c.self.view_is ∙ c.requires.unspent) in
    let f = c.args.flow in
    let payload = c.args.payload.now in
    let request = c.in_ok-request.request in
    let posted = c.in_ok-request.ensures in
    let w = c.post.new.parts.world.state in
    let q = c.add_call.new.parts in
    let is = handed_in f payload c.write_message.new.message.items c.len-call.result (calls_seen p) (request, w) (search rules) c.in_ok-write_message.ensures posted.posts in
    let rest = subst (λ (v : CourseValue g.row.H.Denot). IsDue due.Nothing v.calls.world v.calls.flows) (sym c.self.view_is) c.requires.rest in
    let here : q.world.state ≡ w = ap (λ x. x.world.state) c.add_call.ensures.same in
    let named = c.in_ok-add_call.ensures.flows ∙ ap (λ x. with_flow f (flows_seen x.flows.entries)) posted.same in
    made_due_in f payload (calls_seen p) request w is q.world.state (flows_seen q.flows.entries) here named c.add_call.ensures.range on.whole.world rest
