-- What the code has of a scene, what it asks of a line, and what its calls say of one.
use Rattle.std.specs.Prelude.{◌≡◌, Bool, true, false, [], Option, Some, None, Result, Ok, Err, IsOkAnd}
use Rattle.dt_items.specs.declared.memory.NoMemory.{NoMemory}
use Rattle.dt_reports.specs.declared.faults.Fault.{Fault}
use Rattle.dt_reports.specs.declared.faults.Fault.TheVariants as faults
use Rattle.dt_reports.specs.declared.faults.SetupFault.{SetupFault}
use Rattle.dt_reports.specs.declared.faults.SetupFault.TheVariants as setup_fault
use Rattle.dt_reports.specs.declared.faults.StepFault.{StepFault}
use Rattle.dt_reports.specs.declared.faults.StepFault.TheVariants as step_fault
use Rattle.dt_text.specs.declared.lines.Line.TheVariants.{Run}
use Rattle.dt_text.specs.declared.lines.RunLine.{RunLine}
use Rattle.dt_text.specs.Spelling.{IsLine}
use Rattle.dt_fold.specs.declared.stops.Stop.{Stop}
use Rattle.dt_fold.specs.declared.stops.Stop.TheVariants as stop
use Rattle.dt_fold.specs.Folds.{Turned}
use Rattle.dt_scenario.specs.declared.scenario_phases.ScenarioPhase.{ScenarioPhase}
use Rattle.dt_scenario.specs.declared.scenario_phases.ScenarioPhase.TheVariants as part
use Rattle.dt_scenario.specs.declared.scenarios.Scenario.{Scenario}
use Rattle.dt_scenario.specs.Scenes.{Empty, Prepares, Runs, Scene, Simulates}

-- the scene of a part, by what is seen of the simulation
abbrev pub scene_of : {P S : Type 0} → (P → S) → ScenarioPhase P → Scene S
scene_of state part.Nothing = Empty
scene_of state (part.Preparing setup) = Prepares setup
scene_of state (part.Running p) = Runs (state p)

-- the scene that the lines of a scenario have led to
abbrev pub scene_in : {P S : Type 0} → (P → S) → Scenario P → Scene S
scene_in state s = scene_of state s.phase

-- the line is one of the simulation's form
abbrev pub IsLineOf : {S : Type 0} → Simulates S → RunLine → Type 0
IsLineOf sim line = IsLine sim.form (Run line)

-- what a step says of its line, unless a put failed
abbrev pub stepped : Result (Unit {0}) StepFault → Bool → Result (Option Fault) Stop
stepped answer true = Err stop.WriteFault
stepped (Ok done) false = Ok None
stepped (Err step_fault.NoMemory) false = Err stop.NoMemory
stepped (Err step_fault.BadFlow) false = Ok (Some (faults.Step step_fault.BadFlow))
stepped (Err (step_fault.NoStation n)) false = Ok (Some (faults.Step (step_fault.NoStation n)))
stepped (Err (step_fault.NoCopy n)) false = Ok (Some (faults.Step (step_fault.NoCopy n)))
stepped (Err (step_fault.Lost n)) false = Ok (Some (faults.Step (step_fault.Lost n)))
stepped (Err (step_fault.TooLate held charge)) false = Ok (Some (faults.Step (step_fault.TooLate held charge)))

-- what a call of a setup says of its line
abbrev pub added : Result (Unit {0}) SetupFault → Result (Option Fault) NoMemory
added (Ok done) = Ok None
added (Err setup_fault.NoMemory) = Err record {}
added (Err (setup_fault.Twice n)) = Ok (Some (faults.Setup (setup_fault.Twice n)))
added (Err (setup_fault.Unknown n)) = Ok (Some (faults.Setup (setup_fault.Unknown n)))
added (Err (setup_fault.Stray n)) = Ok (Some (faults.Setup (setup_fault.Stray n)))

-- A line of which nothing is logged: it leads to the state that the turn says, or is refused and changes nothing. Where memory runs out nothing more is said.
abbrev pub LeadsTo : {S : Type 0} → Result (Turned S) Fault → Result (Option Fault) NoMemory → S → S → Type 0
LeadsTo turn (Ok None) before after = IsOkAnd turn (λ t. (t.state ≡ after) × (t.text ≡ []))
LeadsTo turn (Ok (Some fault)) before after = (turn ≡ Err fault) × (after ≡ before)
LeadsTo turn (Err fault) before after = Unit {0}
