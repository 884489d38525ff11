use Rattle.std.proofs.Common.{ap}
use Rattle.dt_calls.proofs.Beginnings.{begins_on}
use Rattle.dt_calls.proofs.call_courses.CallCourse.new.Goals as goal

pub invariant_of-result : goal.invariant_of-result
invariant_of-result g c =
    let on = begins_on (g.H.Handler.answer c.args.handler) _ c.requires.new c.new.ensures.items c.new-2.ensures.items c.new-3.ensures.empty c.requires.unspent (ap (λ h. h.failed) c.new-4.ensures) in
    record { once = on.course.once; on = λ unspent. on }
