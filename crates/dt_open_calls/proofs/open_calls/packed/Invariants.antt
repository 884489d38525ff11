use Rattle.std.proofs.Common.{◌≡◌, ◌++◌, drop}
use Rattle.dt_table.specs.Places.{present}
use Rattle.dt_open_calls.proofs.open_calls.packed.Given as goal

abbrev pub invariant-loop-place : goal.invariant-loop-place
invariant-loop-place l = l.packed ++ present (drop l.place l.slots) ≡ present l.fn.slots
