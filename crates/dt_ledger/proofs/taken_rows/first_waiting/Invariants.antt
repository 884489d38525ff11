use Rattle.std.proofs.Common.{length, ◌-◌, ◌≤◌}
use Rattle.dt_ledger.specs.Rows.{NoneBelow, waits_in}
use Rattle.dt_ledger.proofs.taken_rows.first_waiting.Given as goal

abbrev pub invariant-loop-place : goal.invariant-loop-place
invariant-loop-place l = (l.place ≤ length l.rows) × NoneBelow (waits_in l.from.life) l.place l.rows

abbrev pub decreases-loop-place : goal.decreases-loop-place
decreases-loop-place l = length l.rows - l.place
