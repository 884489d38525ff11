use Rattle.dt_calls_laws.proofs.Stepping.{run_goes_on, step_goes_on}
use Rattle.dt_calls_laws.proofs.promise.what_became_of_a_call_stays.Goals as goal

pub returns-clause-step : goal.returns-clause-step
returns-clause-step c = step_goes_on

pub returns-clause-run : goal.returns-clause-run
returns-clause-run c = run_goes_on
