use Rattle.std.proofs.Common.{subst, ◌∙◌}
use Rattle.std.proofs.lemmas.Result.{err_from_is_err_and}
use Rattle.dt_calls_model.specs.Reads.{Course, read_side, read_sides}
use Rattle.dt_call_parts.specs.Courses.{HasGoneOn, HasStopped}
use Rattle.dt_call_parts.specs.Kept.{keys_in}
use Rattle.dt_call_parts.specs.Sides.{side_seen}
use Rattle.dt_calls.proofs.ReadSides.{stopped_with}
use Rattle.dt_call_parts.proofs.SidesRead.{flow_there, next, stopped}
use Rattle.dt_calls.proofs.call_courses.CallCourse.read_sides.Goals as goal

pub returns-in_err-read_side-clause-goes : goal.returns-in_err-read_side-clause-goes
returns-in_err-read_side-clause-goes g c =
    let tells = g.L.CallLines.tells in
    let first = c.args.self.now in
    let answer = g.H.Handler.answer first.handler in
    let side = side_seen c.args.side in
    let f = c.flow_at-flow.result in
    let now = c.loop-place.self in
    let here = flow_there c.loop-place.place (keys_in now.calls.flows) (keys_in first.calls.flows) f c.loop-place.invariant.keys c.flow_at-flow.ensures.at in
    let stop = subst (λ h. HasStopped tells (λ (r : Course). read_side (g.H.Handler.answer h) side r f) now.calls c.loop-place.lines c.read_side.new.lines) c.loop-place.invariant.handler c.in_err-read_side.ensures.goes in
    let e = err_from_is_err_and c.from_residual.result c.from_residual.ensures.1 in
    stopped_with tells (read_sides answer side) first.calls c.args.lines.now c.read_side.new.lines _ c.from_residual.result e.0 e.1
    (stopped tells answer side first.calls c.args.lines.now c.loop-place.place now.calls c.loop-place.lines c.loop-place.invariant.on f here c.read_side.new.lines stop)

pub loop-place-preserved : goal.loop-place-preserved
loop-place-preserved g c =
    let tells = g.L.CallLines.tells in
    let first = c.args.self.now in
    let answer = g.H.Handler.answer first.handler in
    let side = side_seen c.args.side in
    let f = c.flow_at-flow.result in
    let now = c.loop-place.self in
    let new = c.read_side.new.self in
    let here = flow_there c.loop-place.place (keys_in now.calls.flows) (keys_in first.calls.flows) f c.loop-place.invariant.keys c.flow_at-flow.ensures.at in
    let gone = subst (λ h. HasGoneOn tells (λ (r : Course). read_side (g.H.Handler.answer h) side r f) now.calls c.loop-place.lines c.read_side.new.lines new.calls) c.loop-place.invariant.handler c.in_ok-read_side.ensures.goes in
    record {
      on = next tells answer side first.calls c.args.lines.now c.loop-place.place now.calls c.loop-place.lines c.loop-place.invariant.on f here c.read_side.new.lines new.calls gone;
      keys = c.in_ok-read_side.ensures.keys ∙ c.loop-place.invariant.keys;
      unspent = c.in_ok-read_side.ensures.spent;
      handler = c.read_side.ensures.handler ∙ c.loop-place.invariant.handler;
    }
