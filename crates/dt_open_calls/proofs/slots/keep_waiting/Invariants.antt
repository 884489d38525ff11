use Rattle.std.proofs.Common.{◌≡◌, length, map}
use Rattle.dt_open_calls.specs.Slots.{waiting_slot}
use Rattle.dt_open_calls.proofs.Lists.{on_rest}
use Rattle.dt_open_calls.proofs.slots.keep_waiting.Given as goal

abbrev pub invariant-loop-place : goal.invariant-loop-place
invariant-loop-place l = record {
  kept : on_rest l.place (map waiting_slot) l.slots.items ≡ map waiting_slot l.fn.slots.items;
  long : length l.slots.items ≡ length l.fn.slots.items;
}
