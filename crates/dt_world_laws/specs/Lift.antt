-- The lift: what happens in the world is, for each flow, a list of the small steps of one flow.
use Rattle.std.specs.Prelude.{List, [], ◌++◌}
use Rattle.dt_units.specs.declared.parameters.Params.{Params}
use Rattle.dt_flow_model.specs.Facts.{AllFit}
use Rattle.dt_flow_model.specs.Flow.{FlowState, Packet}
use Rattle.dt_flow_model.specs.Steps.{Step}

-- nothing, a small step with packets that fit the flow, or both parts: the packets that came in it, and those that it made
pub data Lifts (p : Params) : FlowState → List Packet → List Packet → FlowState → Type 0 where
  nothing : {s : FlowState} → Lifts p s [] [] s
  one : {s after : FlowState} {ins made : List Packet} → AllFit p s ins → Step p s ins made after → Lifts p s ins made after
  both : {s mid after : FlowState} {ins made ins' made' : List Packet} → Lifts p s ins made mid → Lifts p mid ins' made' after → Lifts p s (ins ++ ins') (made ++ made') after

pub record IsLifted (p : Params) (s after : FlowState) : Type 0 where
  pub ins : List Packet
  pub made : List Packet
  pub steps : Lifts p s ins made after
