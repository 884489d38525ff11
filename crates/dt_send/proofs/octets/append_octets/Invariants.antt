use Rattle.std.proofs.Common.{◌≡◌, ◌≤◌, ◌-◌, ◌++◌, drop, take}
use Rattle.dt_items.specs.Unread.{octets_of}
use Rattle.dt_send.proofs.octets.append_octets.Given as goal

-- the octets of the items that were passed stand after what was there
abbrev pub invariant-loop-done : goal.invariant-loop-done
invariant-loop-done l = (l.done ≤ l.count) × (l.frame ≡ l.initial.frame ++ octets_of (take l.done (drop l.from l.items.items)))

abbrev pub decreases-loop-done : goal.decreases-loop-done
decreases-loop-done l = l.count - l.done
