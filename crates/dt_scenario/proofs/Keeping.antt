-- What each line of a scenario keeps: where the simulation's facts hold as it starts, and each of its lines keeps them, they hold after each line.
use Rattle.std.proofs.Common.{ℕ, ◌≡◌, ◌+◌, ◌≤◌, suc, List, [], ◌∷◌, length, Option, Some, None, Result, Ok, Err, IfSome, refl, sym, subst, inl, inr, ◌⊎◌, arith}
use Rattle.dt_units.specs.declared.parameters.Params.{Params}
use Rattle.dt_units.specs.declared.parameters.Field.{Field}
use Rattle.dt_units.specs.Limits.{IsWithinLimits, first_out_of_range}
use Rattle.dt_units.proofs.Within.{within_limits}
use Rattle.dt_reports.specs.declared.faults.Fault.{Fault}
use Rattle.dt_reports.specs.declared.faults.LineFault.{LineFault}
use Rattle.dt_reports.specs.declared.faults.SetupFault.{SetupFault}
use Rattle.dt_text.specs.declared.lines.Form.{Form}
use Rattle.dt_text.specs.declared.lines.Form.TheVariants.{Schedule, Script, Calls}
use Rattle.dt_text.specs.declared.stages.Stage.{Stage}
use Rattle.dt_text.specs.declared.lines.Line.TheVariants as said
use Rattle.dt_text.specs.declared.lines.RunLine.{RunLine}
use Rattle.dt_text.specs.Said.{Said}
use Rattle.dt_text.specs.Lines.{line_of}
use Rattle.dt_text.specs.Spelling.{IsLine}
use Rattle.dt_text.specs.Stages.{stage_after}
use Rattle.dt_text.proofs.LineLaws.{line-only}
use Rattle.dt_fold.specs.Folds.{Folded, Turned, closed, fold_from, fold_on}
use Rattle.dt_world_model.specs.Setup.{AddLink, AddRoute, AddStation, Setup, SetupCall, added, new_world, setup_refusals, setup_unless}
use Rattle.dt_world_model.specs.WorldStep.{first_refusal}
use Rattle.dt_scenario.specs.Parts.{IsLineOf}
use Rattle.dt_scenario.specs.Scenes.{Empty, Prepares, Runs, Scene, Simulates, adds, call_of, by_params, by_run, by_setup, close, done_by, done_if, goes, happens, scenario_turns, simulated, stage_of, turn, turn_read}

-- a line that is read is one of its form
blank_line : (form : Form) → IsLine form said.Blank
blank_line Schedule = (refl, tt)
blank_line Script = (refl, tt)
blank_line Calls = (refl, tt)

pub read_line : (form : Form) (octets : List ℕ) (line : Said) → line_of form octets ≡ Ok line → IsLine form line
read_line form octets line e =
    elim (line-only form octets line e) [ inl blank ↦ subst (IsLine form) (sym blank) (blank_line form) | inr read ↦ read.0 ]

-- what holds of the state of a line that isn't refused
abbrev pub IfTurned : {S : Type 0} → (S → Type 0) → Result (Turned S) Fault → Type 0
IfTurned P (Ok turned) = P turned.state
IfTurned P (Err fault) = Unit {0}

module _ {S : Type 0} (sim : Simulates S) (Facts : ℕ → S → Type 0)
    (later : (count more : ℕ) (s : S) → count ≤ more → Facts count s → Facts more s)
    (starts : (count : ℕ) (setup : Setup) → IsWithinLimits setup.params → Facts count (sim.starts (new_world setup)))
    (does : (count : ℕ) (s : S) (line : RunLine) → IsLineOf sim line → Facts count s → IfTurned (Facts (suc count)) (sim.does s line)) where
  -- After so many lines: the parameters are within their limits, and the simulation has its facts.
  abbrev IsScene : ℕ → Scene S → Type 0
  IsScene count Empty = Unit {0}
  IsScene count (Prepares setup) = IsWithinLimits setup.params
  IsScene count (Runs s) = Facts count s

  abbrev IsKept : ℕ → Result (Turned (Scene S)) Fault → Type 0
  IsKept count turned = IfTurned (IsScene count) turned

  scene_later : (count more : ℕ) (scene : Scene S) → count ≤ more → IsScene count scene → IsScene more scene
  scene_later count more Empty l h = h
  scene_later count more (Prepares setup) l h = h
  scene_later count more (Runs s) l h = later count more s l h

  params_kept : (count : ℕ) (p : Params) (field : Option Field) → first_out_of_range p ≡ field → IsKept count (by_params p field)
  params_kept count p None h = within_limits p h
  params_kept count p (Some field) h = tt

  added_kept : (setup : Setup) (call : SetupCall) → IsWithinLimits setup.params → IsWithinLimits (added setup call).params
  added_kept setup (AddStation n ahead) h = h
  added_kept setup (AddLink link) h = h
  added_kept setup (AddRoute at route) h = h

  setup_kept : (count : ℕ) (setup : Setup) (call : SetupCall) (fault : Option SetupFault) → IsWithinLimits setup.params → IsKept count (by_setup (setup_unless fault (added setup call)))
  setup_kept count setup call None h = added_kept setup call h
  setup_kept count setup call (Some fault) h = tt

  adds_kept : (count : ℕ) (scene : Scene S) (call : SetupCall) → IsScene count scene → IsKept (suc count) (adds scene call)
  adds_kept count Empty call h = tt
  adds_kept count (Prepares setup) call h = setup_kept (suc count) setup call (first_refusal (setup_refusals setup call)) h
  adds_kept count (Runs s) call h = tt

  go_kept : (count : ℕ) (scene : Scene S) → IsScene count scene → IsKept (suc count) (goes sim scene)
  go_kept count Empty h = tt
  go_kept count (Prepares setup) h = starts (suc count) setup h
  go_kept count (Runs s) h = tt

  run_kept : (count : ℕ) (turned : Result (Turned S) Fault) → IfTurned (Facts count) turned → IsKept count (by_run turned)
  run_kept count (Ok turned) h = h
  run_kept count (Err fault) h = tt

  happens_kept : (count : ℕ) (scene : Scene S) (line : RunLine) → IsLineOf sim line → IsScene count scene → IsKept (suc count) (happens sim scene line)
  happens_kept count Empty line is h = tt
  happens_kept count (Prepares setup) line is h = tt
  happens_kept count (Runs s) line is h = run_kept (suc count) (sim.does s line) (does count s line is h)

  done_kept : (count : ℕ) (scene : Scene S) (line : Said) → IsLine sim.form line → IsScene count scene → IsKept (suc count) (done_by sim scene line)
  done_kept count scene said.Blank is h = scene_later count (suc count) scene (omega arith) h
  done_kept count scene (said.Params p) is h = params_kept (suc count) p (first_out_of_range p) refl
  done_kept count scene said.Go is h = go_kept count scene h
  done_kept count scene (said.Setup line) is h = adds_kept count scene (call_of line) h
  done_kept count scene (said.Run line) is h = happens_kept count scene line is h
  done_kept count scene (said.Script line) is h = tt

  allowed_kept : (count : ℕ) (scene : Scene S) (line : Said) (stage : Option Stage) → IsLine sim.form line → IsScene count scene → IsKept (suc count) (done_if sim stage scene line)
  allowed_kept count scene line None is h = tt
  allowed_kept count scene line (Some stage) is h = done_kept count scene line is h

  turn_kept : (count : ℕ) (scene : Scene S) (octets : List ℕ) (r : Result Said LineFault) → line_of sim.form octets ≡ r → IsScene count scene → IsKept (suc count) (turn_read sim scene r)
  turn_kept count scene octets (Err fault) e h = tt
  turn_kept count scene octets (Ok line) e h = allowed_kept count scene line (stage_after sim.form (stage_of scene) line) (read_line sim.form octets line e) h

  closed_kept : (count number : ℕ) (scene : Scene S) (r : Result (List ℕ) Fault) → IsScene count scene → IsScene count (closed number scene r).state
  closed_kept count number scene (Ok text) h = h
  closed_kept count number scene (Err fault) h = h

  on_kept : (count all number : ℕ) (scene : Scene S) (rest : Scene S → Folded (Scene S)) (r : Result (Turned (Scene S)) Fault) → count ≤ all → IsScene count scene → IsKept (suc count) r → ((next : Scene S) → IsScene (suc count) next → IsScene all (rest next).state) → IsScene all (fold_on number scene rest r).state
  on_kept count all number scene rest (Ok turned) l h kept on = on turned.state kept
  on_kept count all number scene rest (Err fault) l h kept on = scene_later count all scene l h

  fold_kept : (count all number : ℕ) (scene : Scene S) (lines : List (List ℕ)) → count + length lines ≤ all → IsScene count scene → IsScene all (fold_from (scenario_turns sim) number scene lines).state
  unfolding fold_from
  fold_kept count all number scene [] l h = scene_later count all (closed number scene (close sim scene)).state (omega (arith, l)) (closed_kept count number scene (close sim scene) h)
  fold_kept count all number scene (line ∷ lines) l h =
      on_kept count all number scene (λ next. fold_from (scenario_turns sim) (suc number) next lines) (turn sim scene line) (omega (arith, l)) h (turn_kept count scene line (line_of sim.form line) refl h)
      (λ next kept. fold_kept (suc count) all (suc number) next lines (omega (arith, l)) kept)

  scene_facts : (count : ℕ) (scene : Scene S) → IsScene count scene → IfSome (simulated scene) (λ s. Facts count s)
  scene_facts count Empty h = tt
  scene_facts count (Prepares setup) h = tt
  scene_facts count (Runs s) h = h

  -- AFTER EACH LINE the simulation has its facts.
  pub facts_after : (all : ℕ) (lines : List (List ℕ)) → length lines ≤ all → IfSome (simulated (fold_from (scenario_turns sim) 1 Empty lines).state) (λ s. Facts all s)
  facts_after all lines l = scene_facts all (fold_from (scenario_turns sim) 1 Empty lines).state (fold_kept 0 all 1 Empty lines (omega (arith, l)) tt)
