use Rattle.std.proofs.Common.{◌≡◌, true}
use Rattle.dt_calls.specs.Parts.{calls_seen}
use Rattle.dt_call_parts.specs.Sides.{side_seen}
use Rattle.dt_calls.proofs.ReadSides.{IsReading}
use Rattle.dt_call_parts.proofs.Readings.{left_unread}
use Rattle.dt_calls.proofs.call_courses.CallCourse.read_side.Given as goal

abbrev pub invariant-loop-self : goal.invariant-loop-self
invariant-loop-self g l = record {
  reading : IsReading g.L.CallLines.tells (g.H.Handler.answer l.fn.self.handler) (side_seen l.side) l.flow l.fn.self l.fn.lines l.self-inside.parts l.lines;
  spent : l.self-inside.spent ≡ true;
}

abbrev pub decreases-loop-self : goal.decreases-loop-self
decreases-loop-self g l = left_unread g.L.CallLines.tells (g.H.Handler.answer l.fn.self.handler) (side_seen l.side) l.flow (calls_seen l.self-inside.parts)
