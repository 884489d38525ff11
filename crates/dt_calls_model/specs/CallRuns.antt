-- Calls over a whole list of events, and their totals.
use Rattle.std.specs.Prelude.{ℕ, ◌+◌, ◌==◌, Bool, true, false, List, [], ◌∷◌, ◌++◌, count_by, length, nat_lt}
use Rattle.dt_calls_model.specs.declared.calls.CallState.{CallState}
use Rattle.dt_calls_model.specs.declared.calls.CallState.TheVariants as state
use Rattle.dt_calls_model.specs.declared.calls.Call.{Call}
use Rattle.dt_calls_model.specs.Calls.{Calls}
use Rattle.dt_calls_model.specs.CallTold.{CallEntry}
use Rattle.dt_calls_model.specs.CallStep.{CallEvent, Faulty, Outcome, Stepped, call_step, is_waiting}
use Rattle.dt_calls_model.specs.Promises.{payloads_by}

-- A RUN: what is reported of the events in order, and the calls after them. An event that is refused tells nothing and changes nothing.
abbrev pub then_call : List CallEntry × Calls → Outcome → List CallEntry × Calls
then_call r (Faulty fault) = r
then_call r (Stepped lines after) = (r.0 ++ lines, after)

abbrev pub call_run_from : (List ℕ → List ℕ) → List CallEvent → List CallEntry × Calls → List CallEntry × Calls
call_run_from answer [] r = r
call_run_from answer (e ∷ es) r = call_run_from answer es (then_call r (call_step answer r.1 e))

-- what the calls were made with over a run, by their numbers
abbrev pub payloads_run : (List ℕ → List ℕ) → List CallEvent → List CallEntry × Calls → List (List ℕ)
payloads_run answer [] r = []
payloads_run answer (e ∷ es) r = let o = call_step answer r.1 e in payloads_by o e ++ payloads_run answer es (then_call r o)

abbrev pub call_run : (List ℕ → List ℕ) → List CallEvent → Calls → List CallEntry × Calls
call_run answer es c = call_run_from answer es ([], c)

-- THE TOTALS: how many calls there are, how many were served, and how many stand in each state
pub record CallTotals : Type 0 where
  pub calls : ℕ
  pub served : ℕ
  pub answered : ℕ
  pub unsure : ℕ
  pub declined : ℕ
  pub waiting : ℕ

abbrev pub is_answered : CallState → Bool
is_answered state.Waiting = false
is_answered state.Answered = true
is_answered state.Unsure = false
is_answered state.Declined = false

abbrev pub is_unsure : CallState → Bool
is_unsure state.Waiting = false
is_unsure state.Answered = false
is_unsure state.Unsure = true
is_unsure state.Declined = false

abbrev pub is_declined : CallState → Bool
is_declined state.Waiting = false
is_declined state.Answered = false
is_declined state.Unsure = false
is_declined state.Declined = true

abbrev pub totals_in : List Call → CallTotals
totals_in calls = record {
  calls = length calls;
  served = count_by (λ (call : Call). nat_lt 0 call.served) calls;
  answered = count_by (λ (call : Call). is_answered call.state) calls;
  unsure = count_by (λ (call : Call). is_unsure call.state) calls;
  declined = count_by (λ (call : Call). is_declined call.state) calls;
  waiting = count_by (λ (call : Call). is_waiting call.state) calls;
}

abbrev pub totals_of : Calls → CallTotals
totals_of c = totals_in c.calls
