use Rattle.std.proofs.Common.{◌≡◌, ◌-◌}
use Rattle.dt_ledger.specs.Rows.{change_at}
use Rattle.dt_ledger.proofs.Passing.{noted}
use Rattle.dt_ledger.proofs.taken_rows.note_first_at.Given as goal

-- with the rows that are left noted too, all are
abbrev pub invariant-loop-i : goal.invariant-loop-i
invariant-loop-i l = change_at (noted l.at.milliseconds) l.i (l.i-end - l.i) l.rows ≡ change_at (noted l.at.milliseconds) l.place l.count l.initial.rows
