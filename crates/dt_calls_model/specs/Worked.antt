-- Worked calls over literals: the definitions compute them.
use Rattle.std.specs.Prelude.{ℕ, List, [], ◌∷◌, replicate, reverse}
use Rattle.dt_units.specs.declared.endpoints.Flow.{Flow}
use Rattle.dt_world_model.specs.Worked.{main_flow, world_two}
use Rattle.dt_calls_model.specs.Calls.{Calls, new_calls}
use Rattle.dt_calls_model.specs.CallTold.{CallEntry, CallTold}
use Rattle.dt_calls_model.specs.CallStep.{CallEvent, Happens, Makes, Outcome, call_step}
use Rattle.dt_calls_model.specs.CallRuns.{CallTotals, call_run, totals_of}

-- two stations with a link each way, and the answer of a call is its payload in reversed order
abbrev pub told_of : List CallEvent → List CallEntry
told_of es = (call_run reverse es (new_calls (world_two 0 0))).0

abbrev pub calls_after : List CallEvent → Calls
calls_after es = (call_run reverse es (new_calls (world_two 0 0))).1

abbrev pub outcome_after : List CallEvent → CallEvent → Outcome
outcome_after es e = call_step reverse (calls_after es) e

abbrev pub counted : List CallEvent → CallTotals
counted es = totals_of (calls_after es)

abbrev pub at : ℕ → CallTold → CallEntry
at moment told = record { moment = moment; told = told }

-- a call of three octets, and one of so many that its message goes in two segments
abbrev pub short_call : CallEvent
short_call = Makes main_flow (1 ∷ 2 ∷ 3 ∷ [])

abbrev pub long_call : CallEvent
long_call = Makes main_flow (replicate 100 7)
