-- The flows with a call, as the definitions have them.
use Rattle.std.specs.Prelude.{List, map, unwrap_or}
use Rattle.dt_units.specs.declared.endpoints.Flow.{Flow}
use Rattle.dt_world_model.specs.Tables.{look, same_flow, write}
use Rattle.dt_calls_model.specs.Calls as model
use Rattle.dt_calls_model.specs.Calls.{no_call, none_begun}
use Rattle.dt_call_parts.specs.declared.flow_sides.FlowSides.{FlowSides}

abbrev pub begun_of : FlowSides → model.Begun
begun_of s = record { request = s.request; reply = s.reply }

abbrev pub flows_seen : List (Flow × FlowSides) → List (Flow × model.Begun)
flows_seen flows = map (λ (e : Flow × FlowSides). (e.0, begun_of e.1)) flows

-- what the sides of a flow have begun, and what they have then
abbrev pub begun_in : Flow → List (Flow × model.Begun) → model.Begun
begun_in f flows = unwrap_or (look same_flow f flows) none_begun

abbrev pub with_sides_in : Flow → model.Begun → List (Flow × model.Begun) → List (Flow × model.Begun)
with_sides_in f b flows = write same_flow f b flows

-- what stands for an entry that isn't there
abbrev pub no_entry : Flow × model.Begun
no_entry = (no_call.flow, none_begun)
