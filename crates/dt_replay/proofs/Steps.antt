-- What a step of the world says of its line.
use Rattle.std.proofs.Common.{◌≡◌, false, List, ◌++◌, Option, Some, Result, Ok, Err, refl, ap, sym, ◌∙◌}
use Rattle.dt_edges.specs.Sinks.{SinkSight}
use Rattle.dt_reports.specs.declared.faults.Fault.{Fault}
use Rattle.dt_reports.specs.declared.faults.Fault.TheVariants as faults
use Rattle.dt_reports.specs.declared.faults.StepFault.{StepFault}
use Rattle.dt_reports.specs.declared.faults.StepFault.TheVariants as fault
use Rattle.dt_reports.specs.Entries.{Entry}
use Rattle.dt_log.specs.Logs.{entry_text}
use Rattle.dt_fold.specs.declared.stops.Stop.{Stop}
use Rattle.dt_fold.specs.Logging.{TurnsTo}
use Rattle.dt_world_model.specs.WorldStep.{Outcome, Stepped, WorldEvent, after_event, step_unless, world_step}
use Rattle.dt_world.specs.Outcomes.{Answers, IsRefused, IsSpent}
use Rattle.dt_world.specs.Reporters.{TellsAll}
use Rattle.dt_world.specs.Worlds.{WorldValue}
use Rattle.dt_scenario.specs.declared.logs.Log.{Log}
use Rattle.dt_scenario.specs.Parts.{stepped}
use Rattle.dt_scenario.specs.Writing.{Writes}
use Rattle.dt_scenario.proofs.Steps.{done_says, refused_says, stopped_says}
use Rattle.dt_scenario.proofs.Writing.{same_name}
use Rattle.dt_replay.specs.Schedules.{by_step}

module _ {K : Type 0} (sight : K → SinkSight) where
  abbrev writes : Log K → Entry → Log K → Type 0
  writes s entry t = Writes sight (entry_text entry) s t

  abbrev Told : List Entry → Log K → Log K → Type 0
  Told entries s t = TellsAll writes entries s t

  module _ (w : WorldValue) (e : WorldEvent) (new : WorldValue) (s t : Log K) (fine : s.failed ≡ false) where
    abbrev Says : Result (Option Fault) Stop → Type 0
    Says answer = TurnsTo sight (by_step (world_step w.state e)) answer w.state new.state s.out.now t.out.now

    refused_turns : (f : StepFault) → stepped (Err f) false ≡ Ok (Some (faults.Step f)) → IsRefused writes w e f s t new → Says (stepped (Err f) t.failed)
    refused_turns f shape h =
        refused_says sight entry_text Told (λ s t e. e) (λ x xs s t told. told) (by_step (world_step w.state e)) w.state new.state s t fine f shape (ap by_step h.step) (ap (λ (v : WorldValue). v.state) h.same) h.lines

    spent_turns : IsSpent writes w e s t new → Says (stepped (Err fault.NoMemory) t.failed)
    spent_turns h =
        let r = after_event w.state e in
        let goes : world_step w.state e ≡ Stepped r.0 r.1 = ap (λ (o : Option StepFault). step_unless o r) h.begun in
        let is : world_step w.state e ≡ Stepped (h.noted.lines ++ h.rest) r.1 = goes ∙ ap (λ (l : List Entry). Stepped l r.1) (sym h.told) in
        stopped_says sight entry_text Told (λ s t e. e) (λ x xs s t told. told) (by_step (world_step w.state e)) w.state new.state s t fine h.noted.lines h.rest r.1 (ap by_step is) h.lines

    pub step_turns : (r : Result (Unit {0}) StepFault) → Answers writes r w e s t new → Says (stepped r t.failed)
    step_turns (Ok done) h = done_says sight entry_text Told (λ s t e. e) (λ x xs s t told. told) (by_step (world_step w.state e)) w.state new.state s t fine h.told (ap by_step h.step) h.lines
    step_turns (Err fault.NoMemory) h = spent_turns h
    step_turns (Err other) h = refused_turns other refl h

    told_same : (entries : List Entry) → Told entries s t → t.out.ghost_name ≡ s.out.ghost_name
    told_same entries lines = same_name sight entry_text Told (λ s t e. e) (λ x xs s t told. told) entries s t lines

    refused_same : t ≡ s → t.out.ghost_name ≡ s.out.ghost_name
    refused_same lines = ap (λ (r : Log K). r.out.ghost_name) lines

    -- and the sink is the same
    pub step_same : (r : Result (Unit {0}) StepFault) → Answers writes r w e s t new → t.out.ghost_name ≡ s.out.ghost_name
    step_same (Ok done) h = told_same h.told h.lines
    step_same (Err fault.NoMemory) h = told_same h.noted.lines h.lines
    step_same (Err other) h = refused_same h.lines
