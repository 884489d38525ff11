-- What is reported of calls.
use Rattle.std.specs.Prelude.{ℕ, List}
use Rattle.dt_units.specs.declared.endpoints.Flow.{Flow}

pub data CallTold : Type 0 where
  -- a call is made, with so many octets
  Made : (call : ℕ) (flow : Flow) (count : ℕ) → CallTold
  -- the client's host refused it
  Declined : (call : ℕ) → CallTold
  Served : (call : ℕ) → CallTold
  -- its answer came
  Answered : (call : ℕ) (answer : List ℕ) → CallTold
  Unsure : (call : ℕ) → CallTold

-- when it was told: the moment of the world in milliseconds
pub record CallEntry : Type 0 where
  pub moment : ℕ
  pub told : CallTold
