-- What is closed stays closed, commit by commit.
use Rattle.std.proofs.Common.{◌≤◌, ◌<◌, ℕ, inl, inr, arith}
use Rattle.std.specs.Prelude.{Option, Some, None}
use Rattle.dt_orders_model.specs.declared.registers.Row.{Row}
use Rattle.dt_orders_model.specs.declared.registers.RowState.{RowState}
use Rattle.dt_orders_model.specs.Closing.{IsClosed, IsOpen}
use Rattle.dt_orders_model.specs.Stores.{Entry, put, row_of}
use Rattle.dt_orders_model.specs.Writing.{horizon_after, row_after, row_finished, row_touched}
use Rattle.dt_orders_laws.proofs.Lists.{at_put}

-- open and closed at once
pub open_is_not_closed : (horizon : ℕ) (row : Option Row) (number shared : ℕ) → IsOpen horizon row number shared → IsClosed horizon row number shared → ⊥
open_is_not_closed horizon None number shared o c = omega arith
open_is_not_closed horizon (Some r) number shared o (inl c) = omega (arith, o.0, c.0)
open_is_not_closed horizon (Some r) number shared o (inr c) = omega (arith, o.1, c)

-- the horizon rises
pub closed_higher : (horizon more : ℕ) (row : Option Row) (number shared : ℕ) → horizon ≤ more → IsClosed horizon row number shared → IsClosed more row number shared
closed_higher horizon more None number shared h c = omega arith
closed_higher horizon more (Some r) number shared h c = c

-- a row is written for an order that is open, of a greater number then
pub closed_written : (clock horizon : ℕ) (row : Option Row) (taken tag : ℕ) (state : RowState) (open_at number shared : ℕ) → IsOpen horizon row taken open_at → shared < clock → IsClosed horizon row number shared → IsClosed horizon (Some (row_after clock horizon row taken tag state)) number shared
closed_written clock horizon None taken tag state open_at number shared o h c = inr c
closed_written clock horizon (Some r) taken tag state open_at number shared o h (inl c) = inl (omega (arith, o.0, c.0), h)
closed_written clock horizon (Some r) taken tag state open_at number shared o h (inr c) = inr c

-- its own number is closed for all that was heard until then
pub closed_by_itself : (clock horizon : ℕ) (row : Option Row) (taken tag : ℕ) (state : RowState) (shared : ℕ) → shared < clock → IsClosed horizon (Some (row_after clock horizon row taken tag state)) taken shared
closed_by_itself clock horizon row taken tag state shared h = inl (omega arith, h)

-- a row is touched
pub closed_touched : (clock horizon : ℕ) (r : Row) (number shared : ℕ) → shared < clock → IsClosed horizon (Some r) number shared → IsClosed horizon (Some (row_touched clock r)) number shared
closed_touched clock horizon r number shared h (inl c) = inl (c.0, h)
closed_touched clock horizon r number shared h (inr c) = inr c

-- its order is finished
pub closed_finished : (clock horizon : ℕ) (r : Row) (number shared : ℕ) → shared < clock → IsClosed horizon (Some r) number shared → IsClosed horizon (Some (row_finished clock r)) number shared
closed_finished clock horizon r number shared h (inl c) = inl (c.0, h)
closed_finished clock horizon r number shared h (inr c) = inr c

-- a row is forgotten
pub closed_forgotten : (horizon : ℕ) (r : Row) (number shared : ℕ) → r.born ≤ horizon → IsClosed horizon (Some r) number shared → IsClosed (horizon_after horizon r) None number shared
closed_forgotten horizon r number shared h (inl c) = omega (arith, c.1)
closed_forgotten horizon r number shared h (inr c) = omega (arith, c)

-- WHAT IS CLOSED at one table of rows is closed at the other
pub record KeepsClosed (clock before : ℕ) (rows : ℕ → Option Entry) (after : ℕ) (later : ℕ → Option Entry) : Type 0 where
  pub keeps : (lane number shared : ℕ) → shared ≤ clock → IsClosed before (row_of (rows lane)) number shared → IsClosed after (row_of (later lane)) number shared

-- by the one row that changes
pub keeps_put : (clock before after : ℕ) (rows : ℕ → Option Entry) (lane : ℕ) (entry : Option Entry) → before ≤ after → ((number shared : ℕ) → shared ≤ clock → IsClosed before (row_of (rows lane)) number shared → IsClosed after (row_of entry) number shared) → KeepsClosed clock before rows after (put rows lane entry)
keeps_put clock before after rows lane entry higher here = record {
  keeps = at_put (λ l o. (number shared : ℕ) → shared ≤ clock → IsClosed before (row_of (rows l)) number shared → IsClosed after (row_of o) number shared) rows lane entry here
      (λ l other number shared within c. closed_higher before after (row_of (rows l)) number shared higher c);
}
