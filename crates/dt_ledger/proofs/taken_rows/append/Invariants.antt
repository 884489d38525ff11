use Rattle.std.proofs.Common.{◌≡◌, ◌+◌, ◌++◌, map, None, take, vec_capacity, vec_len}
use Rattle.dt_items.specs.Unread.{items_of}
use Rattle.dt_flow_model.specs.Ledger.{open_row}
use Rattle.dt_ledger.proofs.taken_rows.append.Given as goal

abbrev pub invariant-loop-place : goal.invariant-loop-place
invariant-loop-place l = record {
  rows : l.rows.items ≡ l.initial.rows.items ++ map (open_row l.life None) (take l.place (items_of l.taken));
  len : vec_len l.rows ≡ vec_len l.initial.rows + l.place;
  room : vec_capacity l.rows ≡ vec_capacity l.initial.rows;
}
