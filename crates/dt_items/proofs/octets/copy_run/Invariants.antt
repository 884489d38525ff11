use Rattle.std.proofs.Common.{◌≡◌, ◌++◌, take, drop}
use Rattle.dt_items.specs.Unread.{octets_of}
use Rattle.dt_items.proofs.octets.copy_run.Given as goal

abbrev pub invariant-loop-i : goal.invariant-loop-i
invariant-loop-i l = l.room ≡ octets_of (take l.i l.items) ++ drop l.i l.initial.room
