use Rattle.std.proofs.Common.{◌≡◌, true, Some, ap, sym, subst, ◌∙◌}
use Rattle.std.specs.Prelude.{is_some, slice_get}
use Rattle.dt_world_model.specs.Tables.{has_key, same_flow}
use Rattle.dt_calls.specs.CallCourses.{CourseValue}
use Rattle.dt_call_parts.specs.Kept.{keys_in}
use Rattle.dt_call_parts.proofs.FlowTables.{key_at, key_found}
use Rattle.dt_calls.proofs.call_courses.CallCourse.flow_at.Goals as goal

pub returns-clause-at : goal.returns-clause-at
returns-clause-at g c =
    let f = c.in-Some.flow.now in
    subst (λ (v : CourseValue g.row.H.Denot). slice_get (keys_in v.calls.flows) c.args.place ≡ Some f) c.self.view_is
    (key_at c.self.inside.parts.flows.entries c.args.place f c.in-Some.field-0-1.now (sym c.in-Some.ensures.entry))

pub returns-clause-there : goal.returns-clause-there
returns-clause-there g c =
    let f = c.in-Some.flow.now in
    subst (λ (v : CourseValue g.row.H.Denot). has_key same_flow f v.calls.flows ≡ true) c.self.view_is
    (key_found f c.self.inside.parts.flows.entries ∙ ap is_some c.in-Some.ensures.value)
