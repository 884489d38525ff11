use Rattle.std.proofs.Common.{◌≡◌, drop}
use Rattle.dt_host.specs.Dues.{soonest_recv}
use Rattle.dt_table.specs.Places.{present}
use Rattle.dt_host.proofs.recv_side.RecvSide.soonest.Given as goal

-- the walk over what is left, from the best so far, is the walk over all
abbrev pub invariant-loop-slot : goal.invariant-loop-slot
invariant-loop-slot g l = soonest_recv l.now l.best (present (drop l.slot-index l.slot-items)) ≡ soonest_recv l.now l.initial.best (present l.slot-items)
