use Rattle.std.proofs.Common.{◌≡◌, drop}
use Rattle.dt_call_parts.specs.Waiting.{Covers}
use Rattle.dt_call_parts.proofs.JudgeWaiting.{JudgesTo}
use Rattle.dt_calls.proofs.unsure_calls.mark_waiting_unsure.Given as goal

abbrev pub invariant-loop-place : goal.invariant-loop-place
invariant-loop-place g l = record {
  to : JudgesTo g.L.CallLines.tells l.fn.parts.world.state l.fn.parts.calls.items l.fn.lines (drop l.place l.fn.parts.waiting.items) l.parts.calls.items l.lines;
  same : l.parts ≡ record l.fn.parts { calls = l.parts.calls };
  covers : Covers 0 l.fn.parts.waiting.items l.parts.calls.items;
}
