use Rattle.std.proofs.Common.{ap, sym, subst, ◌∙◌}
use Rattle.std.specs.Prelude.{◌≡◌}
use Rattle.std.specs.List.{list_any}
use Rattle.dt_units.specs.declared.endpoints.Flow.{Flow}
use Rattle.dt_world_model.specs.Tables.{same_flow}
use Rattle.dt_calls_model.specs.declared.calls.Call.{Call}
use Rattle.dt_calls_model.specs.Messages.{reversed}
use Rattle.dt_calls.specs.CallCourses.{CourseValue}
use Rattle.dt_calls.specs.Parts.{calls_seen}
use Rattle.dt_call_parts.proofs.FlowTables.{key_found}
use Rattle.dt_call_parts.proofs.Ways.{calls_along}
use Rattle.dt_calls.proofs.call_courses.CallCourse.is_way_of_replies.Goals as goal

pub returns : goal.returns
returns g c =
    let p = c.self.inside.parts in
    let unspent = ap (λ (v : CourseValue g.row.H.Denot). v.spent) c.self.view_is ∙ c.requires.unspent in
    subst (λ (v : CourseValue g.row.H.Denot). c.contains_key.result ≡ list_any (λ (call : Call). same_flow call.flow (reversed c.args.flow)) v.calls.calls) c.self.view_is
    (c.contains_key.ensures
    ∙ sym (key_found c.reversed.result p.flows.entries)
    ∙ calls_along (g.H.Handler.answer p.handler) (calls_seen p) (c.self.invariant.on unspent).course c.reversed.result
    ∙ ap (λ (f : Flow). list_any (λ (call : Call). same_flow call.flow f) p.calls.items) c.reversed.ensures.flow)
