-- Which sides must be read after an event, by what was heard of it; and what is known of the others.
use Rattle.std.specs.Prelude.{◌≡◌, ◌⊎◌, Bool, true, false, ◌||◌, if◌then◌else◌, is_some, List, Option, Some, None}
use Rattle.dt_units.specs.declared.endpoints.Flow.{Flow}
use Rattle.dt_world_model.specs.Tables.{has_key, same_flow}
use Rattle.dt_world_model.specs.World.{World}
use Rattle.dt_world_model.specs.WorldStep.{Arrives, Loses, Passes, Reads, Restarts, Sends, Ticks, WorldEvent}
use Rattle.dt_calls_model.specs.Calls.{Begun, Side, flow_read}
use Rattle.dt_calls_model.specs.Messages.{reversed}
use Rattle.dt_call_parts.specs.declared.dues.Due.{Due}
use Rattle.dt_call_parts.specs.declared.dues.Due.TheVariants as due
use Rattle.dt_call_parts.specs.Hearing.{HeardValue}
use Rattle.dt_call_parts.specs.Resting.{RestsAt}

-- by whether requests go on the flow, and whether replies do
abbrev pub due_with : Bool → Bool → Flow → Due
due_with false false f = due.Nothing
due_with true false f = due.Flow f
due_with false true f = due.Flow (reversed f)
due_with true true f = due.All

abbrev pub due_of : List (Flow × Begun) → Option Flow → Due
due_of flows None = due.Nothing
due_of flows (Some f) = due_with (has_key same_flow f flows) (has_key same_flow (reversed f) flows) f

abbrev pub due_after : List (Flow × Begun) → HeardValue → Due
due_after flows h = if is_some h.piece || h.several then due.All else due_of flows h.accepted

abbrev pub due_after_event : WorldEvent → List (Flow × Begun) → HeardValue → Due
due_after_event (Passes by) flows h = due.All
due_after_event (Sends f octets begin end) flows h = due.All
due_after_event (Reads f most) flows h = due.All
due_after_event (Ticks n) flows h = due_after flows h
due_after_event (Arrives copy) flows h = due_after flows h
due_after_event (Loses copy) flows h = due_after flows h
due_after_event (Restarts n) flows h = due.Nothing

-- NOTHING NEED BE READ at the sides of a flow
abbrev pub BothRest : World → Flow → Type 0
BothRest w f = (side : Side) → RestsAt w (flow_read side f)

abbrev pub RestsBut : Due → World → Flow → Type 0
RestsBut due.Nothing w k = BothRest w k
RestsBut (due.Flow f) w k = (k ≡ f) ⊎ BothRest w k
RestsBut due.All w k = Unit {0}

-- a flow that must be read is there
abbrev pub IsThere : Due → List (Flow × Begun) → Type 0
IsThere due.Nothing flows = Unit {0}
IsThere (due.Flow f) flows = has_key same_flow f flows ≡ true
IsThere due.All flows = Unit {0}

-- what is known of all flows with a call, before they are read
pub record IsDue (due : Due) (w : World) (flows : List (Flow × Begun)) : Type 0 where
  pub rest : (k : Flow) → has_key same_flow k flows ≡ true → RestsBut due w k
  pub there : IsThere due flows
