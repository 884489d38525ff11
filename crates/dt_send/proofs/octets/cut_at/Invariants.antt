use Rattle.std.proofs.Common.{◌≤◌, ◌-◌, ◌+◌, length, drop}
use Rattle.dt_send.proofs.Cuts.{so_far}
use Rattle.dt_send.proofs.octets.cut_at.Given as goal

-- the items that were passed go into the segment, with those that follow them
abbrev pub invariant-loop-i : goal.invariant-loop-i
invariant-loop-i l = record {
  full : l.i ≤ l.most;
  there : l.from + l.i ≤ length l.items.items;
  so_far : so_far l.most l.i (drop l.from l.items.items);
}

abbrev pub decreases-loop-i : goal.decreases-loop-i
decreases-loop-i l = length l.items.items - (l.from + l.i)
