-- What the queue of a link keeps in memory.
use Rattle.std.specs.Prelude.{All, List, ℕ, Option}
use Rattle.dt_flow_model.specs.Keeping.{IsBy, most_moment}
use Rattle.dt_relay.specs.declared.queues.Waiting.{Waiting}
use Rattle.dt_relay.specs.Carrying.{WaitsAsGram}

-- What waits reads as Deltagrams. The last moment out is in its range.
pub record IsQueue {T : Type 0} (waits : List (Waiting T)) (last : Option ℕ) : Type 0 where
  pub grams : All WaitsAsGram waits
  pub last_out : IsBy most_moment last
