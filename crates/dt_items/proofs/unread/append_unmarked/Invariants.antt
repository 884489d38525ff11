use Rattle.std.proofs.Common.{◌≡◌, ◌≤◌, ◌-◌, ◌++◌, length, take}
use Rattle.circular_buffer.specs.Buffer.{buffer}
use Rattle.dt_items.specs.Unread.{unmarked}
use Rattle.dt_items.proofs.unread.append_unmarked.Given as goal

abbrev pub invariant-loop-done : goal.invariant-loop-done
invariant-loop-done l = (l.done ≤ length l.octets) × (l.ring ≡ buffer (l.initial.ring.items ++ unmarked (take l.done l.octets)) l.initial.ring.capacity)

abbrev pub decreases-loop-done : goal.decreases-loop-done
decreases-loop-done l = length l.octets - l.done
