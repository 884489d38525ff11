-- What an input of calls does: its lines set up a world as those of a schedule do, and then calls are made in it. And the text of a whole input.
use Rattle.std.specs.Prelude.{ℕ, Bool, List, ◌++◌, reverse, take, Option, None, Result, Ok, Err}
use Rattle.dt_reports.specs.declared.faults.Fault.{Fault}
use Rattle.dt_reports.specs.declared.faults.Fault.TheVariants as faults
use Rattle.dt_reports.specs.declared.reports.Report.TheVariants as reports
use Rattle.dt_reports.specs.Entries.{Entry}
use Rattle.dt_log.specs.Logs.{entry_text}
use Rattle.dt_text.specs.declared.lines.Form.TheVariants as forms
use Rattle.dt_text.specs.declared.lines.RunLine.{RunLine}
use Rattle.dt_text.specs.declared.lines.RunLine.TheVariants as runs
use Rattle.dt_text.specs.Hexadecimal.{octets_of_hex}
use Rattle.dt_text.specs.InputLines.{lines_of}
use Rattle.dt_fold.specs.Folds.{Folded, Turned, fold_from, fold_input}
use Rattle.dt_calls_model.specs.Calls.{Calls, new_calls}
use Rattle.dt_calls_model.specs.CallStep.{Faulty, Happens, Makes, Outcome, Stepped, call_step}
use Rattle.dt_calls_model.specs.CallRuns.{totals_of}
use Rattle.dt_scenario.specs.Scenes.{Empty, Scene, Simulates, event_by, misplaced, scenario_turns, simulated}
use Rattle.dt_calls_input.specs.CallTexts.{entries_text, totals_text}

-- a step of the calls: its lines are written, or its line is refused
abbrev pub by_calls : Outcome → Result (Turned Calls) Fault
by_calls (Stepped told after) = Ok (record { text = entries_text told; state = after })
by_calls (Faulty fault) = Err (faults.Step fault)

-- WHAT A LINE DOES after `go`. A call is answered with its payload in reversed order. What the lines of the setup do is in `Scenes` of dt_scenario
abbrev pub does : Calls → RunLine → Result (Turned Calls) Fault
does c (runs.World line) = by_calls (call_step reverse c (Happens (event_by line)))
does c (runs.User line) = misplaced
does c (runs.Call flow hex) = by_calls (call_step reverse c (Makes flow (octets_of_hex hex.now)))

-- after the last line: the totals of the calls and the end
abbrev pub end_entry : Calls → Entry
end_entry c = record { moment = c.world.now; node = None; told = reports.End }

abbrev pub last_text : Calls → List ℕ
last_text c = totals_text (totals_of c) ++ entry_text (end_entry c)

-- AN INPUT OF CALLS simulates calls over the world of its setup
abbrev pub simulates_calls : Simulates Calls
simulates_calls = record { form = forms.Calls; starts = new_calls; does = does; close = last_text }

-- A WHOLE INPUT
unfoldable pub calls_read : List ℕ → Folded (Scene Calls)
calls_read octets = fold_input (scenario_turns simulates_calls) Empty octets

-- the text of all that is reported
abbrev pub calls_text : List ℕ → List ℕ
calls_text octets = (calls_read octets).text

-- whether no line is refused, and `go` is there
abbrev pub are_calls_accepted : List ℕ → Bool
are_calls_accepted octets = (calls_read octets).accepted

-- THE CALLS OF AN INPUT after so many of its lines, or up to the first that is refused; there are none before `go`
unfoldable pub calls_after_lines : ℕ → List ℕ → Option Calls
calls_after_lines count octets = simulated (fold_from (scenario_turns simulates_calls) 1 Empty (take count (lines_of octets))).state
