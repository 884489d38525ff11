use Rattle.std.proofs.Common.{◌≡◌, take}
use Rattle.dt_items.specs.Unread.{unmarked}
use Rattle.dt_items.proofs.unread.fill_unmarked.Given as goal

abbrev pub invariant-loop-i : goal.invariant-loop-i
invariant-loop-i l = take l.i l.stage ≡ unmarked (take l.i l.octets)
