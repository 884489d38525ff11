-- What a step of calls answers, tells and leaves.
use Rattle.std.specs.Prelude.{ℕ, ◌≡◌, ◌≤◌, true, false, Bool, List, ◌++◌, length, Result, Ok, Err}
use Rattle.dt_units.specs.Limits.{IsWithinLimits}
use Rattle.dt_reports.specs.declared.faults.StepFault.{StepFault}
use Rattle.dt_reports.specs.declared.faults.StepFault.TheVariants as fault
use Rattle.dt_world_model.specs.Setup.{Setup, new_world}
use Rattle.dt_world_model.specs.World.{World}
use Rattle.dt_calls_laws.specs.Grown.{IsNoSendOrRead}
use Rattle.dt_calls_model.specs.Promises.{AreItsAnswers, AreMadeWith, AreServedOnce, payloads_in}
use Rattle.dt_notes.specs.Events.{event_of}
use Rattle.dt_calls_model.specs.Calls.{Calls}
use Rattle.dt_calls_model.specs.CallStep as step
use Rattle.dt_calls_model.specs.CallStep.{Faulty, Happens, Makes, Stepped, call_step}
use Rattle.dt_calls_model.specs.CallTold.{CallEntry}
use Rattle.dt_calls.specs.declared.call_events.CallEvent.{CallEvent}
use Rattle.dt_calls.specs.declared.call_events.CallEvent.TheVariants as event
use Rattle.dt_call_parts.specs.Telling.{TellsCalls}

-- calls with who answers them
pub record CallsValue (H : Type 0) : Type 0 where
  pub calls : Calls
  pub handler : H
  -- a step found no memory: the calls are used no more
  pub spent : Bool

-- the world of a setup that has made no step
pub record IsNew (w : World) : Type 0 where
  pub setup : Setup
  pub limits : IsWithinLimits setup.params
  pub new : w ≡ new_world setup

-- an event as the definitions have it
abbrev pub call_event : CallEvent → step.CallEvent
call_event (event.Call flow payload) = Makes flow payload.now
call_event (event.World e) = Happens (event_of e)

-- What a step asks of its event: a payload of 1 to 65,528 octets, and an event of the world that is no send and no read.
abbrev pub MayCome : step.CallEvent → Type 0
MayCome (Makes f payload) = (1 ≤ length payload) × (length payload ≤ 65528)
MayCome (Happens e) = IsNoSendOrRead e

module _ {L : Type 0} (tells : L → CallEntry → L → Type 0) (answer : List ℕ → List ℕ) (c : Calls) (e : step.CallEvent) (before after : L) where
  -- A STEP IS DONE: it told the definition's lines and left its calls.
  pub record IsDone (new : Calls) : Type 0 where
    pub told : List CallEntry
    pub step : call_step answer c e ≡ Stepped told new
    pub lines : TellsCalls tells told before after

  -- It is refused as the definition refuses it, and changes nothing.
  pub record IsRefused (why : StepFault) (new : Calls) : Type 0 where
    pub step : call_step answer c e ≡ Faulty why
    pub same : new ≡ c
    pub lines : after ≡ before

  -- It found no memory: it wasn't to be refused, and told first lines of the definition's.
  pub record IsStopped : Type 0 where
    pub part : List CallEntry
    pub rest : List CallEntry
    pub then : Calls
    pub step : call_step answer c e ≡ Stepped (part ++ rest) then
    pub lines : TellsCalls tells part before after

  abbrev pub FailsWith : StepFault → Calls → Type 0
  FailsWith fault.BadFlow new = IsRefused fault.BadFlow new
  FailsWith (fault.NoStation n) new = IsRefused (fault.NoStation n) new
  FailsWith (fault.NoCopy n) new = IsRefused (fault.NoCopy n) new
  FailsWith (fault.Lost n) new = IsRefused (fault.Lost n) new
  FailsWith (fault.TooLate held charge) new = IsRefused (fault.TooLate held charge) new
  FailsWith fault.NoMemory new = IsStopped

  abbrev pub StepsTo : {U : Type 0} → Result U StepFault → Calls → Type 0
  StepsTo (Ok done) new = IsDone new
  StepsTo (Err why) new = FailsWith why new

-- whether a step found no memory
abbrev pub is_memory : StepFault → Bool
is_memory fault.BadFlow = false
is_memory (fault.NoStation n) = false
is_memory (fault.NoCopy n) = false
is_memory (fault.Lost n) = false
is_memory (fault.TooLate held charge) = false
is_memory fault.NoMemory = true

abbrev pub lacks_memory : {U : Type 0} → Result U StepFault → Bool
lacks_memory (Ok done) = false
lacks_memory (Err why) = is_memory why

-- THE ANSWER OF A STEP. Calls are spent exactly where it found no memory.
pub record Answers {L H U : Type 0} (tells : L → CallEntry → L → Type 0) (answer : H → List ℕ → List ℕ) (c : CallsValue H) (e : step.CallEvent) (before after : L) (new : CallsValue H) (result : Result U StepFault) : Type 0 where
  pub steps : StepsTo tells (answer c.handler) c.calls e before after result new.calls
  pub handler : new.handler ≡ c.handler
  pub spent : new.spent ≡ lacks_memory result
  -- Each call is served at most once, also where memory ran out.
  pub once : AreServedOnce new.calls
  -- Whatever the calls were made with, and the one that is made: so they still are, and each answer that the step tells is the handler's to what its call was made with.
  pub answers : (payloads : List (List ℕ)) → AreMadeWith payloads c.calls → (told : List CallEntry) (after : Calls) → call_step (answer c.handler) c.calls e ≡ Stepped told after
      → AreItsAnswers (answer c.handler) (payloads ++ payloads_in e) told × AreMadeWith (payloads ++ payloads_in e) after
