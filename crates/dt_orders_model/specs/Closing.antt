-- When a number is closed.
use Rattle.std.specs.Prelude.{ℕ, ◌≤◌, ◌<◌, ◌⊎◌, Option, Some, None}
use Rattle.dt_orders_model.specs.declared.registers.Row.{Row}

-- A NUMBER IS CLOSED on a lane, for an order that is shared up to a clock: it isn't executed
abbrev pub IsClosed : ℕ → Option Row → (number shared : ℕ) → Type 0
IsClosed horizon None number shared = shared < horizon
IsClosed horizon (Some r) number shared = ((number ≤ r.number) × (shared < r.stamp)) ⊎ (shared < r.born)

-- it is open: what a server executes or cancels
abbrev pub IsOpen : ℕ → Option Row → (number shared : ℕ) → Type 0
IsOpen horizon None number shared = horizon ≤ shared
IsOpen horizon (Some r) number shared = (r.number < number) × (r.born ≤ shared)
