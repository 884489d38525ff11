use Rattle.std.proofs.Common.{◌≡◌, ◌<◌, take}
use Rattle.dt_items.specs.Unmarked.{unmarked_count}
use Rattle.dt_items.proofs.octets.are_unmarked.Given as goal

abbrev pub invariant-loop-i : goal.invariant-loop-i
invariant-loop-i l = l.greatest < 256 → unmarked_count (take l.i l.items) ≡ l.i
