-- What became of an order, by the history of a store.
use Rattle.std.specs.Prelude.{◌≡◌, ℕ, List}
use Rattle.dt_orders_model.specs.Stores.{Among, Name, Store, Withdrawn, executions, results_of}

-- IT WAS EXECUTED exactly once, and this is its one result
pub record WasExecuted (s : Store) (o : Name) (result : List ℕ) : Type 0 where
  pub once : executions o s.log ≡ 1
  pub given : Among (record { name = o; result = result }) s.results
  pub alone : results_of o s.results ≡ 1

-- IT WAS WITHDRAWN
pub record WasWithdrawn (s : Store) (o : Name) : Type 0 where
  pub stamp : ℕ
  pub there : Among (record { name = o; stamp = stamp; act = Withdrawn }) s.log
