use Rattle.std.proofs.Common.{◌≡◌, ◌-◌, ◌≤◌, length}
use Rattle.dt_flow_model.specs.Ledger.{is_open_in, settle}
use Rattle.dt_ledger.specs.Rows.{NoneBelow, fates_in}
use Rattle.dt_ledger.proofs.taken_rows.settle_leftmost.Given as goal

-- with the rows that are left settled too, all are
abbrev pub invariant-loop-left : goal.invariant-loop-left
invariant-loop-left l = record {
  same : settle l.from.life l.fate l.left l.rows ≡ settle l.from.life l.fate l.count l.initial.rows;
  counted : l.counts ≡ fates_in l.rows;
  within : l.below ≤ length l.rows;
  passed : NoneBelow (is_open_in l.from.life) l.below l.rows;
}

abbrev pub decreases-loop-left : goal.decreases-loop-left
decreases-loop-left l = length l.rows - l.below
