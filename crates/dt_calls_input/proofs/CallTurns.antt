-- What a step of calls says of its line.
use Rattle.std.proofs.Common.{◌≡◌, false, List, [], ◌∷◌, reverse, Option, Some, Result, Ok, Err, refl, ap, subst, sym}
use Rattle.dt_edges.specs.Sinks.{SinkSight}
use Rattle.dt_reports.specs.declared.faults.Fault.{Fault}
use Rattle.dt_reports.specs.declared.faults.Fault.TheVariants as faults
use Rattle.dt_reports.specs.declared.faults.StepFault.{StepFault}
use Rattle.dt_reports.specs.declared.faults.StepFault.TheVariants as fault
use Rattle.dt_fold.specs.declared.stops.Stop.{Stop}
use Rattle.dt_fold.specs.Logging.{TurnsTo}
use Rattle.dt_text.specs.declared.lines.WorldLine.{WorldLine}
use Rattle.dt_text.specs.declared.lines.WorldLine.TheVariants as worlds
use Rattle.dt_world_model.specs.WorldStep.{WorldEvent}
use Rattle.dt_calls_laws.specs.Grown.{IsNoSendOrRead}
use Rattle.dt_calls_model.specs.Calls.{Calls}
use Rattle.dt_calls_model.specs.CallStep.{CallEvent, call_step}
use Rattle.dt_calls_model.specs.CallTold.{CallEntry}
use Rattle.dt_scenario.specs.declared.logs.Log.{Log}
use Rattle.dt_scenario.specs.Parts.{stepped}
use Rattle.dt_scenario.specs.Scenes.{event_by}
use Rattle.dt_scenario.specs.Writing.{Writes}
use Rattle.dt_scenario.proofs.Steps.{done_says, refused_says, stopped_says}
use Rattle.dt_scenario.proofs.Writing.{same_name}
use Rattle.dt_calls_input.specs.declared.call_logs.CallLog.{CallLog}
use Rattle.dt_calls_input.specs.CallInputs.{by_calls}
use Rattle.dt_calls.specs.CallOutcomes.{IsRefused, StepsTo}
use Rattle.dt_calls_input.specs.CallTexts.{call_text}
use Rattle.dt_call_parts.specs.Telling.{TellsCalls}

-- what the lines of a world make happen is no send and no read
pub is_quiet : (line : WorldLine) → IsNoSendOrRead (event_by line)
is_quiet (worlds.Pass by) = tt
is_quiet line = search refl

pub comes_quietly : (line : WorldLine) (e : WorldEvent) → e ≡ event_by line → IsNoSendOrRead e
comes_quietly line e is = subst IsNoSendOrRead (sym is) (is_quiet line)

module _ {K : Type 0} (sight : K → SinkSight) where
  abbrev writes : CallLog K → CallEntry → CallLog K → Type 0
  writes s entry t = Writes sight (call_text entry) s.log t.log

  -- the same lines, as the log below has them
  abbrev Told : List CallEntry → Log K → Log K → Type 0
  Told entries s t = TellsCalls (λ (s : Log K) entry t. Writes sight (call_text entry) s t) entries s t

  told_below : (entries : List CallEntry) (s t : CallLog K) → TellsCalls writes entries s t → Told entries s.log t.log
  told_below [] s t lines = ap (λ (r : CallLog K). r.log) lines
  told_below (e ∷ es) s t lines = (lines.0.log, lines.1, told_below es lines.0 t lines.2)

  module _ (c : Calls) (e : CallEvent) (new : Calls) (s t : CallLog K) (fine : s.log.failed ≡ false) where
    abbrev Says : Result (Option Fault) Stop → Type 0
    Says answer = TurnsTo sight (by_calls (call_step reverse c e)) answer c new s.log.out.now t.log.out.now

    refused_turns : (f : StepFault) → stepped (Err f) false ≡ Ok (Some (faults.Step f)) → IsRefused writes reverse c e s t f new → Says (stepped (Err f) t.log.failed)
    refused_turns f shape h =
        refused_says sight call_text Told (λ s t e. e) (λ x xs s t told. told) (by_calls (call_step reverse c e)) c new s.log t.log fine f shape (ap by_calls h.step) h.same (ap (λ (r : CallLog K). r.log) h.lines)

    pub step_turns : (r : Result (Unit {0}) StepFault) → StepsTo writes reverse c e s t r new → Says (stepped r t.log.failed)
    step_turns (Ok done) h = done_says sight call_text Told (λ s t e. e) (λ x xs s t told. told) (by_calls (call_step reverse c e)) c new s.log t.log fine h.told (ap by_calls h.step) (told_below h.told s t h.lines)
    step_turns (Err fault.BadFlow) h = refused_turns fault.BadFlow refl h
    step_turns (Err (fault.NoStation n)) h = refused_turns (fault.NoStation n) refl h
    step_turns (Err (fault.NoCopy n)) h = refused_turns (fault.NoCopy n) refl h
    step_turns (Err (fault.Lost n)) h = refused_turns (fault.Lost n) refl h
    step_turns (Err (fault.TooLate held charge)) h = refused_turns (fault.TooLate held charge) refl h
    step_turns (Err fault.NoMemory) h = stopped_says sight call_text Told (λ s t e. e) (λ x xs s t told. told) (by_calls (call_step reverse c e)) c new s.log t.log fine h.part h.rest h.then (ap by_calls h.step) (told_below h.part s t h.lines)

    told_same : (entries : List CallEntry) → TellsCalls writes entries s t → t.log.out.ghost_name ≡ s.log.out.ghost_name
    told_same entries lines = same_name sight call_text Told (λ s t e. e) (λ x xs s t told. told) entries s.log t.log (told_below entries s t lines)

    refused_same : t ≡ s → t.log.out.ghost_name ≡ s.log.out.ghost_name
    refused_same lines = ap (λ (r : CallLog K). r.log.out.ghost_name) lines

    -- and the sink is the same
    pub step_same : (r : Result (Unit {0}) StepFault) → StepsTo writes reverse c e s t r new → t.log.out.ghost_name ≡ s.log.out.ghost_name
    step_same (Ok done) h = told_same h.told h.lines
    step_same (Err fault.BadFlow) h = refused_same h.lines
    step_same (Err (fault.NoStation n)) h = refused_same h.lines
    step_same (Err (fault.NoCopy n)) h = refused_same h.lines
    step_same (Err (fault.Lost n)) h = refused_same h.lines
    step_same (Err (fault.TooLate held charge)) h = refused_same h.lines
    step_same (Err fault.NoMemory) h = told_same h.part h.lines
