use Rattle.std.proofs.Common.{sym, subst}
use Rattle.dt_calls_model.specs.CallFacts.{CallFacts}
use Rattle.dt_calls.specs.CallCourses.{CourseValue}
use Rattle.dt_calls.proofs.Beginnings.{new_facts}
use Rattle.dt_calls.proofs.world_calls.Calls.new.Goals as goal

pub invariant_of-result : goal.invariant_of-result
invariant_of-result g c = λ unspent.
    subst (λ (v : CourseValue g.row.H.Denot). CallFacts (g.H.Handler.answer v.handler) v.calls) (sym c.new.ensures) (new_facts (g.H.Handler.answer c.args.handler) c.args.world.state c.requires.new)
