use Rattle.std.proofs.Common.{◌≡◌, false}
use Rattle.dt_call_parts.specs.Kept.{keys_in}
use Rattle.dt_call_parts.specs.Sides.{side_seen}
use Rattle.dt_call_parts.proofs.SidesRead.{SidesOn}
use Rattle.dt_calls.proofs.call_courses.CallCourse.read_sides.Given as goal

abbrev pub invariant-loop-place : goal.invariant-loop-place
invariant-loop-place g l = record {
  on : SidesOn g.L.CallLines.tells (g.H.Handler.answer l.fn.self.handler) (side_seen l.side) l.fn.self.calls l.fn.lines l.place l.self.calls l.lines;
  keys : keys_in l.self.calls.flows ≡ keys_in l.fn.self.calls.flows;
  unspent : l.self.spent ≡ false;
  handler : l.self.handler ≡ l.fn.self.handler;
}
