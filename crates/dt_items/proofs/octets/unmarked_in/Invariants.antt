use Rattle.std.proofs.Common.{◌≡◌, ◌≤◌, ◌-◌, ◌+◌, length, drop}
use Rattle.dt_items.specs.Unmarked.{unmarked_count}
use Rattle.dt_items.proofs.octets.unmarked_in.Given as goal

abbrev pub invariant-loop-done : goal.invariant-loop-done
invariant-loop-done l = (l.done ≤ length l.items) × (unmarked_count l.items ≡ l.done + unmarked_count (drop l.done l.items))

abbrev pub decreases-loop-done : goal.decreases-loop-done
decreases-loop-done l = length l.items - l.done

abbrev pub invariant-loop-i : goal.invariant-loop-i
invariant-loop-i l = unmarked_count l.items ≡ l.i + unmarked_count (drop l.i l.items)
