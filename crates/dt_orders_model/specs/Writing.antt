-- What is written.
use Rattle.std.specs.Prelude.{ℕ, max, Option, Some, None}
use Rattle.dt_orders_model.specs.declared.registers.Row.{Row}
use Rattle.dt_orders_model.specs.declared.registers.RowState.{RowState}
use Rattle.dt_orders_model.specs.declared.registers.RowState.TheVariants.{Done}

-- the floor of a lane: the horizon when it got its row, or the present one where it has none
abbrev pub floor_of : ℕ → Option Row → ℕ
floor_of horizon None = horizon
floor_of horizon (Some r) = r.born

-- A ROW THAT IS WRITTEN for an order, by a commit of this clock
abbrev pub row_after : ℕ → ℕ → Option Row → ℕ → ℕ → RowState → Row
row_after clock horizon before number tag state = record { number = number; tag = tag; state = state; stamp = clock; born = floor_of horizon before }

-- A ROW THAT IS TOUCHED gets the stamp
abbrev pub row_touched : ℕ → Row → Row
row_touched clock r = record r { stamp = clock }

-- A ROW WHOSE ORDER IS FINISHED is done, and gets the stamp
abbrev pub row_finished : ℕ → Row → Row
row_finished clock r = record r { state = Done; stamp = clock }

-- A ROW IS FORGOTTEN: the horizon rises to its stamp
abbrev pub horizon_after : ℕ → Row → ℕ
horizon_after horizon r = max horizon r.stamp
