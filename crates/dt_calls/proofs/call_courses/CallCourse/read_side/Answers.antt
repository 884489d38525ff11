use Rattle.std.proofs.Common.{ℕ, ◌≡◌, ◌≤◌, ◌^◌, true, false, List, length, Some, refl, ap, sym, subst, ◌∙◌, rules}
use Rattle.std.specs.Prelude.{OnErr, option_map}
use Rattle.std.specs.List.{All}
use Rattle.std.proofs.lemmas.Result.{err_from_is_err_and}
use Rattle.dt_world_model.specs.Tables.{has_key, same_flow}
use Rattle.dt_calls_model.specs.Promises.{IsServedOnce}
use Rattle.dt_calls_model.specs.Reads.{Course, read_side, take_whole}
use Rattle.dt_calls.specs.CallCourses.{CourseValue, IsOnCourse}
use Rattle.dt_call_parts.specs.Courses.{HasGoneOn, HasStopped}
use Rattle.dt_calls.specs.Parts.{calls_seen}
use Rattle.dt_call_parts.specs.Sides.{side_seen}
use Rattle.dt_calls.proofs.ReadSides.{IsReading, OneRead, message_is_short, none_stays, none_taken, one_read, piece_lost, reading_begins, reading_ends, reading_falls, reading_goes, reading_on, reading_stops, still_served_once, stopped_with, taken_by, with_read}
use Rattle.dt_calls.proofs.call_courses.CallCourse.read_side.Given.{Over}
use Rattle.dt_calls.proofs.call_courses.CallCourse.read_side.Goals.{After-piece}
use Rattle.dt_calls.proofs.call_courses.CallCourse.read_side.Goals as goal

-- THE READ that was tried, from the parts before it to the world and to what was heard of it
module _ (g : Over) (c : After-piece g) where
  abbrev one : OneRead g.L.CallLines.tells (g.H.Handler.answer c.args.self.now.handler) (side_seen c.args.side) c.args.flow.now g.row.H.Denot
  one = one_read g.L.CallLines.tells (g.H.Handler.answer c.args.self.now.handler) (side_seen c.args.side) c.args.flow.now c.args.self.now c.args.lines.now c.loop-self.self-inside.parts c.loop-self.lines c.loop-self.invariant.reading c.flow_read.result c.try_event.new.world c.try_event.new.heard c.flow_read.ensures.flow c.flow_read.ensures.range c.in_ok-try_event.ensures

pub loop-self-init : goal.loop-self-init
loop-self-init g c =
    let p = c.self.inside.parts in
    let tells = g.L.CallLines.tells in
    let unspent = ap (λ (v : CourseValue g.row.H.Denot). v.spent) c.self.view_is ∙ c.requires.unspent in
    let few : length p.calls.items ≤ 2 ^ 64 = search rules in
    let there = subst (λ (v : CourseValue g.row.H.Denot). has_key same_flow c.args.flow.now v.calls.flows ≡ true) (sym c.self.view_is) c.requires.there in
    record {
      reading = subst (λ (v : CourseValue g.row.H.Denot). IsReading tells (g.H.Handler.answer v.handler) (side_seen c.args.side) c.args.flow.now v c.args.lines.now p c.args.lines.now) c.self.view_is
          (reading_begins tells (g.H.Handler.answer p.handler) (side_seen c.args.side) c.args.flow.now p c.self.inside.spent c.args.lines.now there (c.self.invariant.on unspent) few);
      spent = refl;
    }

pub returns-then-is_none-clause-goes : goal.returns-then-is_none-clause-goes
returns-then-is_none-clause-goes g c =
    let k = (goal.at.returns-then-is_none-clause-goes g c).After-piece in
    reading_ends (one g k) (piece_lost _ c.piece.result c.try_event.new.heard.piece c.piece.ensures c.if-is_none.ensures)

pub invariant_of-self-then-is_none : goal.invariant_of-self-then-is_none
invariant_of-self-then-is_none g c =
    let k = (goal.at.invariant_of-self-then-is_none g c).After-piece in
    let on = subst (λ h. IsOnCourse (g.H.Handler.answer h) (with_read (one g k))) (sym k.loop-self.invariant.reading.handler) (reading_on (one g k) c.requires.there (piece_lost _ c.piece.result c.try_event.new.heard.piece c.piece.ensures c.if-is_none.ensures)) in
    record { once = on.course.once; on = λ fine. on }

pub returns-in_err-take_message-clause-goes : goal.returns-in_err-take_message-clause-goes
returns-in_err-take_message-clause-goes g c =
    let k = (goal.at.returns-in_err-take_message-clause-goes g c).After-piece in
    let j = c.in_ok-message.ensures.joined in
    let some = ap (option_map (λ m. m.items)) c.in-Some.is ∙ ap (λ (os : List ℕ). Some os) (sym c.deref.ensures.value) in
    let stop = taken_by (one g k) c.join.new.parts _ j g.H.Handler.answer refl (λ a o. HasStopped g.L.CallLines.tells (take_whole a (side_seen c.args.side) c.args.flow.now o) (calls_seen c.join.new.parts) c.loop-self.lines c.take_message.new.lines) c.deref.result.now some c.in_err-take_message.ensures.goes in
    let e = err_from_is_err_and c.from_residual-in_err-take_message.result c.from_residual-in_err-take_message.ensures.1 in
    stopped_with g.L.CallLines.tells (λ (r : Course). read_side (g.H.Handler.answer c.args.self.now.handler) (side_seen c.args.side) r c.args.flow.now) c.args.self.now.calls c.args.lines.now c.take_message.new.lines _ c.from_residual-in_err-take_message.result e.0 e.1
    (reading_stops (one g k) c.join.new.parts _ j c.take_message.new.lines stop)

pub invariant_of-self-in_err-take_message : goal.invariant_of-self-in_err-take_message
invariant_of-self-in_err-take_message g c =
    let k = (goal.at.invariant_of-self-in_err-take_message g c).After-piece in
    record {
      once = subst (λ cs. All IsServedOnce cs) (sym c.in_err-take_message.ensures.stays) (still_served_once (one g k) c.join.new.parts _ c.in_ok-message.ensures.joined);
      on = λ fine. absurd (let wrong : true ≡ false = sym c.loop-self.invariant.spent ∙ fine in cc);
    }

pub returns-in_err-take_message-clause-once : goal.returns-in_err-take_message-clause-once
returns-in_err-take_message-clause-once g c =
    let k = (goal.at.returns-in_err-take_message-clause-once g c).After-piece in
    let e = err_from_is_err_and c.from_residual-in_err-take_message.result c.from_residual-in_err-take_message.ensures.1 in
    subst (λ r. OnErr r (All IsServedOnce c.take_message.new.parts.calls.items)) (sym e.1)
    (subst (λ cs. All IsServedOnce cs) (sym c.in_err-take_message.ensures.stays) (still_served_once (one g k) c.join.new.parts _ c.in_ok-message.ensures.joined))

pub take_message-requires-clause-served : goal.take_message-requires-clause-served
take_message-requires-clause-served g c =
    let k = (goal.at.take_message-requires-clause-served g c).After-piece in
    still_served_once (one g k) c.join.new.parts _ c.in_ok-message.ensures.joined

pub take_message-requires-clause-short : goal.take_message-requires-clause-short
take_message-requires-clause-short g c =
    let k = (goal.at.take_message-requires-clause-short g c).After-piece in
    let some = ap (option_map (λ m. m.items)) c.in-Some.is ∙ ap (λ (os : List ℕ). Some os) (sym c.deref.ensures.value) in
    message_is_short (one g k) c.join.new.parts _ c.in_ok-message.ensures.joined c.deref.result.now some

pub loop-self-smaller-in-Some : goal.loop-self-smaller-in-Some
loop-self-smaller-in-Some g c =
    let k = (goal.at.loop-self-smaller-in-Some g c).After-piece in
    let j = c.in_ok-message.ensures.joined in
    let some = ap (option_map (λ m. m.items)) c.in-Some.is ∙ ap (λ (os : List ℕ). Some os) (sym c.deref.ensures.value) in
    let gone = taken_by (one g k) c.join.new.parts _ j g.H.Handler.answer refl (λ a o. HasGoneOn g.L.CallLines.tells (take_whole a (side_seen c.args.side) c.args.flow.now o) (calls_seen c.join.new.parts) c.loop-self.lines c.take_message.new.lines (calls_seen c.take_message.new.parts)) c.deref.result.now some c.in_ok-take_message.ensures.goes in
    reading_falls (one g k) c.join.new.parts _ j c.take_message.new.lines c.take_message.new.parts gone

pub loop-self-preserved-in-Some : goal.loop-self-preserved-in-Some
loop-self-preserved-in-Some g c =
    let k = (goal.at.loop-self-preserved-in-Some g c).After-piece in
    let j = c.in_ok-message.ensures.joined in
    let some = ap (option_map (λ m. m.items)) c.in-Some.is ∙ ap (λ (os : List ℕ). Some os) (sym c.deref.ensures.value) in
    let gone = taken_by (one g k) c.join.new.parts _ j g.H.Handler.answer refl (λ a o. HasGoneOn g.L.CallLines.tells (take_whole a (side_seen c.args.side) c.args.flow.now o) (calls_seen c.join.new.parts) c.loop-self.lines c.take_message.new.lines (calls_seen c.take_message.new.parts)) c.deref.result.now some c.in_ok-take_message.ensures.goes in
    let reading = reading_goes (one g k) c.join.new.parts _ j c.take_message.new.lines c.take_message.new.parts gone
    (record { unspent = c.in_ok-take_message.ensures.unspent; heard = c.in_ok-take_message.ensures.heard; waiting = c.take_message.ensures.waiting; flows = c.take_message.ensures.flows; handler = c.take_message.ensures.handler }) in
    record { reading = reading; spent = c.loop-self.invariant.spent }

pub loop-self-smaller : goal.loop-self-smaller
loop-self-smaller g c =
    let k = (goal.at.loop-self-smaller g c).After-piece in
    let j = c.in_ok-message.ensures.joined in
    let none = none_taken (one g k) c.join.new.parts _ j (ap (option_map (λ m. m.items)) c.in_default.is) in
    reading_falls (one g k) c.join.new.parts _ j c.loop-self.lines c.join.new.parts none

pub loop-self-preserved : goal.loop-self-preserved
loop-self-preserved g c =
    let k = (goal.at.loop-self-preserved g c).After-piece in
    let j = c.in_ok-message.ensures.joined in
    let none = none_taken (one g k) c.join.new.parts _ j (ap (option_map (λ m. m.items)) c.in_default.is) in
    record { reading = reading_goes (one g k) c.join.new.parts _ j c.loop-self.lines c.join.new.parts none (none_stays (one g k) c.join.new.parts _ j); spent = c.loop-self.invariant.spent }
