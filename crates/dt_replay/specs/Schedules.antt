-- What a schedule does: its lines set up a world, and then make things happen in it. And the log of a whole schedule.
use Rattle.std.specs.Prelude.{ℕ, Bool, List, take, Option, Result, Ok, Err}
use Rattle.dt_reports.specs.declared.faults.Fault.{Fault}
use Rattle.dt_reports.specs.declared.faults.Fault.TheVariants as faults
use Rattle.dt_log.specs.Logs.{log_text}
use Rattle.dt_text.specs.declared.lines.Form.TheVariants.{Schedule}
use Rattle.dt_text.specs.declared.lines.RunLine.{RunLine}
use Rattle.dt_text.specs.declared.lines.RunLine.TheVariants as runs
use Rattle.dt_text.specs.InputLines.{lines_of}
use Rattle.dt_text.specs.Tasks.{Task, task_of}
use Rattle.dt_text.specs.Tasks as tasks
use Rattle.dt_fold.specs.Folds.{Folded, Turned, fold_from, fold_input}
use Rattle.dt_world_model.specs.World.{World, last_lines}
use Rattle.dt_world_model.specs.WorldStep.{Outcome, Reads, Refused, Sends, Stepped, WorldEvent, world_step}
use Rattle.dt_scenario.specs.Scenes.{Empty, Scene, Simulates, event_by, misplaced, scenario_turns, simulated}

-- a step of the world: its lines are logged, or its line is refused
abbrev pub by_step : Outcome → Result (Turned World) Fault
by_step (Stepped told after) = Ok (record { text = log_text told; state = after })
by_step (Refused fault) = Err (faults.Step fault)

-- what a user of a node makes happen
abbrev pub event_of_task : Task → WorldEvent
event_of_task (tasks.Sends flow begin end octets) = Sends flow octets begin end
event_of_task (tasks.Reads flow most) = Reads flow most

-- WHAT A LINE DOES after `go`. What the lines of the setup do is in `Scenes` of dt_scenario
abbrev pub does : World → RunLine → Result (Turned World) Fault
does w (runs.World line) = by_step (world_step w (event_by line))
does w (runs.User line) = by_step (world_step w (event_of_task (task_of line)))
does w (runs.Call flow hex) = misplaced

-- A SCHEDULE simulates the world of its setup. After the last line: the totals of the flows and the end
abbrev pub simulates_world : Simulates World
simulates_world = record { form = Schedule; starts = λ w. w; does = does; close = λ w. log_text (last_lines w) }

-- A WHOLE SCHEDULE
unfoldable pub replayed : List ℕ → Folded (Scene World)
replayed octets = fold_input (scenario_turns simulates_world) Empty octets

-- its log: the texts of all that is reported
abbrev pub replay_text : List ℕ → List ℕ
replay_text octets = (replayed octets).text

-- whether no line is refused, and `go` is there
abbrev pub is_accepted : List ℕ → Bool
is_accepted octets = (replayed octets).accepted

-- THE WORLD OF A SCHEDULE, up to its first refused line, where it has one; there is none before `go`
abbrev pub world_of : List ℕ → Option World
world_of octets = simulated (replayed octets).state

-- the world after so many of its lines, or up to the first that is refused
unfoldable pub world_after_lines : ℕ → List ℕ → Option World
world_after_lines count octets = simulated (fold_from (scenario_turns simulates_world) 1 Empty (take count (lines_of octets))).state
