-- How calls go on within a step, and over steps.
use Rattle.std.specs.Prelude.{ℕ, ◌<◌, ◌≡◌, ◌≤◌, true, false, List, [], ◌++◌, length}
use Rattle.dt_items.specs.declared.item.Item.{Item}
use Rattle.dt_units.specs.declared.endpoints.Flow.{Flow}
use Rattle.dt_world_model.specs.Tables.{has_key, same_flow}
use Rattle.dt_world_model.specs.World.{World, view}
use Rattle.dt_calls_model.specs.Calls.{Calls, call_at}
use Rattle.dt_calls_model.specs.declared.calls.Call.{Call}
use Rattle.dt_calls_model.specs.CallStep.{is_waiting}
use Rattle.dt_calls_model.specs.Rests.{RestsIn}
use Rattle.dt_calls_laws.specs.Calm.{items_taken}

-- A CALL goes on with its flow and its request. What became of it stays, and it isn't served less often.
pub record CallGoesOn (call after : Call) : Type 0 where
  pub flow : after.flow ≡ call.flow
  pub request : after.request ≡ call.request
  pub fate : is_waiting call.state ≡ false → after.state ≡ call.state
  pub served : call.served ≤ after.served

-- ALL CALLS go on: flows take octets at their ends alone, and no flow goes
pub record Onward (c after : Calls) : Type 0 where
  pub calls : (n : ℕ) → n < length c.calls → CallGoesOn (call_at c n) (call_at after n)
  pub items : (k : Flow) → (more : List Item) × (items_taken after.world k ≡ items_taken c.world k ++ more)
  pub keys : (k : Flow) → has_key same_flow k c.flows ≡ true → has_key same_flow k after.flows ≡ true
  pub count : length c.calls ≤ length after.calls

-- What rests goes on to rest, and where nothing is unread nothing becomes unread.
pub record StaysQuiet (w after : World) : Type 0 where
  pub rests : (m : ℕ) → RestsIn w m → RestsIn after m
  pub read : (g : Flow) → (view w g).unread ≡ [] → (view after g).unread ≡ []
