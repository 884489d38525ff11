use Rattle.std.proofs.Common.{◌≡◌, ◌<◌, ◌≤◌}
use Rattle.dt_open_calls.specs.Slots.{Each, IsNoLater}
use Rattle.dt_open_calls.proofs.judging.least_due.Given as goal

abbrev pub invariant-loop-place : goal.invariant-loop-place
invariant-loop-place l = Each (λ i call. l.begin ≤ i → i < l.place → IsNoLater l.least call) l.slots
