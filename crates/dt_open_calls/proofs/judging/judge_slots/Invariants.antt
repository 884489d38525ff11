use Rattle.std.proofs.Common.{◌≡◌, ◌++◌, ◌+◌, ◌-◌, ◌≤◌, drop, length, map, filter_map, deque_len, deque_capacity}
use Rattle.dt_open_calls.specs.Slots.{AreDue, judged_slot, unsure_slot}
use Rattle.dt_open_calls.proofs.Lists.{on_rest}
use Rattle.dt_open_calls.proofs.judging.judge_slots.Given as goal

abbrev pub invariant-loop-place : goal.invariant-loop-place
invariant-loop-place l = record {
  judged : on_rest l.place (map (judged_slot l.now)) l.slots.items ≡ map (judged_slot l.fn.now) l.fn.slots.items;
  told : l.happenings.items ++ filter_map (unsure_slot l.now) (drop l.place l.slots.items) ≡ l.fn.happenings.items ++ filter_map (unsure_slot l.fn.now) l.fn.slots.items;
  room : deque_len l.happenings + length (filter_map (unsure_slot l.now) (drop l.place l.slots.items)) ≤ deque_capacity l.happenings;
  due : AreDue l.dues l.slots.items;
}

abbrev pub decreases-loop-place : goal.decreases-loop-place
decreases-loop-place l = length l.slots.items - l.place
