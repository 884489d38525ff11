use Rattle.std.proofs.Common.{◌≡◌, ◌≤◌, length, vec_capacity}
use Rattle.dt_shelf.proofs.shelves.empty_frames.Given as goal

abbrev pub invariant-loop-frame : goal.invariant-loop-frame
invariant-loop-frame l = (length l.frames.items ≡ l._frame) × (l.count ≤ vec_capacity l.frames)
