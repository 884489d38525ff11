use Rattle.std.proofs.Common.{ℕ, ◌≡◌, ◌<◌, ◌≤◌, false, is_some}
use Rattle.dt_table.specs.Places.{slot}
use Rattle.dt_open_calls.proofs.slots.next_taken.Given as goal

abbrev pub invariant-loop-place : goal.invariant-loop-place
invariant-loop-place l = (i : ℕ) → l.from ≤ i → i < l.place → is_some (slot l.slots i) ≡ false
