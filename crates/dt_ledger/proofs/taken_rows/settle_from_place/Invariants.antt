use Rattle.std.proofs.Common.{◌≡◌, ◌-◌}
use Rattle.dt_ledger.specs.Rows.{fates_in, settle_at}
use Rattle.dt_ledger.proofs.taken_rows.settle_from_place.Given as goal

-- with the rows that are left settled too, all are
abbrev pub invariant-loop-i : goal.invariant-loop-i
invariant-loop-i l =
    (settle_at l.fate l.i (l.i-end - l.i) l.rows ≡ settle_at l.fate l.place l.count l.initial.rows) × (l.counts ≡ fates_in l.rows)
