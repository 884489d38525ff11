-- What an event of the world leaves of calls, before anything is read.
use Rattle.std.specs.Prelude.{◌≡◌, List, ◌++◌, None, Result, Ok, Err}
use Rattle.dt_reports.specs.Entries.{Entry}
use Rattle.dt_reports.specs.declared.faults.StepFault.{StepFault}
use Rattle.dt_reports.specs.declared.faults.StepFault.TheVariants as fault
use Rattle.dt_world_model.specs.WorldStep.{Refused, Stepped, WorldEvent, first_refusal, refusals, world_step}
use Rattle.dt_calls_model.specs.CallStep.{flows_after}
use Rattle.dt_calls_model.specs.Reads.{Course}
use Rattle.dt_call_parts.specs.declared.dues.Due.{Due}
use Rattle.dt_calls.specs.CallCourses.{CourseValue}
use Rattle.dt_call_parts.specs.Dues.{IsDue}

-- a call that is made goes after what was told before
abbrev pub then_made : Course → Course → Course
then_made c made = record { told = c.told ++ made.told; calls = made.calls }

module _ {H : Type 0} (e : WorldEvent) (c after : CourseValue H) where
  pub record HasGone (d : Due) : Type 0 where
    pub lines : List Entry
    pub step : world_step c.calls.world e ≡ Stepped lines after.calls.world
    pub calls : after.calls.calls ≡ c.calls.calls
    pub flows : after.calls.flows ≡ flows_after e c.calls.flows
    pub due : IsDue d after.calls.world after.calls.flows

  pub record IsRefusedBy (why : StepFault) : Type 0 where
    pub step : world_step c.calls.world e ≡ Refused why
    pub same : after ≡ c

  pub record HasNoMemory : Type 0 where
    pub begun : first_refusal (refusals c.calls.world e) ≡ None
    pub calls : after.calls.calls ≡ c.calls.calls

  abbrev pub GoesWrong : StepFault → Type 0
  GoesWrong fault.BadFlow = IsRefusedBy fault.BadFlow
  GoesWrong (fault.NoStation n) = IsRefusedBy (fault.NoStation n)
  GoesWrong (fault.NoCopy n) = IsRefusedBy (fault.NoCopy n)
  GoesWrong (fault.Lost n) = IsRefusedBy (fault.Lost n)
  GoesWrong (fault.TooLate held charge) = IsRefusedBy (fault.TooLate held charge)
  GoesWrong fault.NoMemory = HasNoMemory

  abbrev pub WorldGoesOn : Result Due StepFault → Type 0
  WorldGoesOn (Ok d) = HasGone d
  WorldGoesOn (Err why) = GoesWrong why
