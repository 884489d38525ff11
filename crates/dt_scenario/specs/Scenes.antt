-- A scenario: its first lines set up a world, `go` starts a simulation over it, and further lines make things happen there. And what is logged of it.
use Rattle.std.specs.Prelude.{ℕ, List, [], Option, Some, None, Result, Ok, Err}
use Rattle.dt_units.specs.declared.parameters.Params.{Params}
use Rattle.dt_units.specs.declared.parameters.Field.{Field}
use Rattle.dt_units.specs.Limits.{value_of, first_out_of_range}
use Rattle.dt_reports.specs.declared.faults.Fault.{Fault}
use Rattle.dt_reports.specs.declared.faults.Fault.TheVariants as faults
use Rattle.dt_reports.specs.declared.faults.LineFault.{LineFault}
use Rattle.dt_reports.specs.declared.faults.LineFault.TheVariants.{Order}
use Rattle.dt_reports.specs.declared.faults.SetupFault.{SetupFault}
use Rattle.dt_text.specs.declared.lines.Form.{Form}
use Rattle.dt_text.specs.declared.stages.Stage.{Stage}
use Rattle.dt_text.specs.declared.stages.Stage.TheVariants as stages
use Rattle.dt_text.specs.declared.lines.Line.TheVariants as said
use Rattle.dt_text.specs.declared.lines.RunLine.{RunLine}
use Rattle.dt_text.specs.declared.lines.SetupLine.{SetupLine}
use Rattle.dt_text.specs.declared.lines.SetupLine.TheVariants as setups
use Rattle.dt_text.specs.declared.lines.WorldLine.{WorldLine}
use Rattle.dt_text.specs.declared.lines.WorldLine.TheVariants as worlds
use Rattle.dt_text.specs.Said.{Said}
use Rattle.dt_text.specs.Lines.{line_of}
use Rattle.dt_text.specs.Stages.{stage_after}
use Rattle.dt_fold.specs.Folds.{Turned, Turns}
use Rattle.dt_world_model.specs.Setup.{AddLink, AddRoute, AddStation, Setup, SetupCall, new_setup, new_world, setup_call}
use Rattle.dt_world_model.specs.World.{World}
use Rattle.dt_world_model.specs.WorldStep.{Arrives, Loses, Passes, Restarts, Ticks, WorldEvent}

-- what the lines so far have led to
pub data Scene (S : Type 0) : Type 0 where
  -- nothing yet
  Empty : Scene S
  -- the parameters were read, and stations, links and routes are added
  Prepares : Setup → Scene S
  -- the simulation over the world of the setup, in which things happen
  Runs : S → Scene S

-- A SIMULATION: the form of its lines, how it starts over a world that has made no step, what a line makes happen in it, and what is logged after the last line.
pub record Simulates (S : Type 0) : Type 0 where
  pub form : Form
  pub starts : World → S
  pub does : S → RunLine → Result (Turned S) Fault
  pub close : S → List ℕ

abbrev pub stage_of : {S : Type 0} → Scene S → Stage
stage_of Empty = stages.Start
stage_of (Prepares setup) = stages.Setup
stage_of (Runs s) = stages.Run 0

-- a line that stands elsewhere: it was refused before, since its stage doesn't allow it
abbrev pub misplaced : {S : Type 0} → Result (Turned S) Fault
misplaced = Err (faults.Line Order)

-- THE SETUP: nothing is logged of its lines
abbrev pub to_scene : {S : Type 0} → Scene S → Result (Turned (Scene S)) Fault
to_scene scene = Ok (record { text = []; state = scene })

abbrev pub in_setup : {S : Type 0} → Scene S → (Setup → Result (Turned (Scene S)) Fault) → Result (Turned (Scene S)) Fault
in_setup Empty does = misplaced
in_setup (Prepares setup) does = does setup
in_setup (Runs s) does = misplaced

-- the parameters, of which the first that is out of its range refuses the line
abbrev pub by_params : {S : Type 0} → Params → Option Field → Result (Turned (Scene S)) Fault
by_params p None = to_scene (Prepares (new_setup p))
by_params p (Some field) = Err (faults.Param (record { field = field; value = value_of p field }))

abbrev pub by_setup : {S : Type 0} → Result Setup SetupFault → Result (Turned (Scene S)) Fault
by_setup (Ok setup) = to_scene (Prepares setup)
by_setup (Err fault) = Err (faults.Setup fault)

-- a station, a link or a route is added
abbrev pub adds : {S : Type 0} → Scene S → SetupCall → Result (Turned (Scene S)) Fault
adds scene call = in_setup scene (λ setup. by_setup (setup_call setup call))

-- the setup ends, and the simulation starts over its world
abbrev pub goes : {S : Type 0} → Simulates S → Scene S → Result (Turned (Scene S)) Fault
goes sim scene = in_setup scene (λ setup. to_scene (Runs (sim.starts (new_world setup))))

-- AFTER `go`: what a line makes happen
abbrev pub by_run : {S : Type 0} → Result (Turned S) Fault → Result (Turned (Scene S)) Fault
by_run (Ok turned) = Ok (record { text = turned.text; state = Runs turned.state })
by_run (Err fault) = Err fault

abbrev pub happens : {S : Type 0} → Simulates S → Scene S → RunLine → Result (Turned (Scene S)) Fault
happens sim Empty line = misplaced
happens sim (Prepares setup) line = misplaced
happens sim (Runs s) line = by_run (sim.does s line)

-- what a line of the setup adds, one row a line
abbrev pub call_of : SetupLine → SetupCall
call_of (setups.Station n ahead) = AddStation n ahead
call_of (setups.Link link from to charge pace) = AddLink (record { link = link; from = from; to = to; charge = charge; pace = pace })
call_of (setups.Route at to link) = AddRoute at (record { to = to; link = link })

-- what a line of a world makes happen in it, one row a line
abbrev pub event_by : WorldLine → WorldEvent
event_by (worlds.Pass by) = Passes by
event_by (worlds.Tick n) = Ticks n
event_by (worlds.Arrive copy) = Arrives copy
event_by (worlds.Lose copy) = Loses copy
event_by (worlds.Restart n) = Restarts n

-- WHAT A LINE DOES where it is allowed
abbrev pub done_by : {S : Type 0} → Simulates S → Scene S → Said → Result (Turned (Scene S)) Fault
done_by sim scene said.Blank = to_scene scene
done_by sim scene (said.Params p) = by_params p (first_out_of_range p)
done_by sim scene said.Go = goes sim scene
done_by sim scene (said.Setup line) = adds scene (call_of line)
done_by sim scene (said.Run line) = happens sim scene line
done_by sim scene (said.Script line) = misplaced

-- A LINE IS TURNED: it is read, then its place is tested, and then it is done. The first of the three that refuses it tells the fault.
abbrev pub done_if : {S : Type 0} → Simulates S → Option Stage → Scene S → Said → Result (Turned (Scene S)) Fault
done_if sim None scene line = misplaced
done_if sim (Some stage) scene line = done_by sim scene line

abbrev pub turn_read : {S : Type 0} → Simulates S → Scene S → Result Said LineFault → Result (Turned (Scene S)) Fault
turn_read sim scene (Err fault) = Err (faults.Line fault)
turn_read sim scene (Ok line) = done_if sim (stage_after sim.form (stage_of scene) line) scene line

abbrev pub turn : {S : Type 0} → Simulates S → Scene S → List ℕ → Result (Turned (Scene S)) Fault
turn sim scene line = turn_read sim scene (line_of sim.form line)

-- after the last line: what the simulation logs there. Before `go` it is missing
abbrev pub close : {S : Type 0} → Simulates S → Scene S → Result (List ℕ) Fault
close sim Empty = Err (faults.Line Order)
close sim (Prepares setup) = Err (faults.Line Order)
close sim (Runs s) = Ok (sim.close s)

abbrev pub scenario_turns : {S : Type 0} → Simulates S → Turns (Scene S)
scenario_turns sim = record { turn = turn sim; close = close sim }

-- what is simulated; there is nothing before `go`
abbrev pub simulated : {S : Type 0} → Scene S → Option S
simulated Empty = None
simulated (Prepares setup) = None
simulated (Runs s) = Some s
