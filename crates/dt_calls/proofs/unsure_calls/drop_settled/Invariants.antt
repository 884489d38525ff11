use Rattle.std.proofs.Common.{◌≡◌, ◌≤◌, ◌++◌, drop, length, take}
use Rattle.dt_call_parts.specs.Waiting.{Covers}
use Rattle.dt_call_parts.proofs.WaitingLeft.{Wait}
use Rattle.dt_calls.proofs.unsure_calls.drop_settled.Given as goal

abbrev pub invariant-loop-place : goal.invariant-loop-place
invariant-loop-place l = record {
  order : l.kept ≤ l.place;
  long : length l.waiting.items ≡ length l.fn.waiting.items;
  covers : Covers 0 (take l.kept l.waiting.items ++ drop l.place l.waiting.items) l.calls;
  wait : Wait 0 (take l.kept l.waiting.items) l.calls;
}
