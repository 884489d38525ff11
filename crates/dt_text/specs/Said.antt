-- What a line says: the line itself. But digits that it lends are known by what they are alone, so the place where they lie is put out of it: two
-- lines with the same digits at two places say the same.
use Rattle.std.specs.Prelude.{◌≡◌, ℕ, List, Bool, Result, Ok, Err}
use Rattle.dt_units.specs.declared.endpoints.Flow.{Flow}
use Rattle.dt_reports.specs.declared.faults.LineFault.{LineFault}
use Rattle.dt_text.specs.declared.lines.Line.{Line}
use Rattle.dt_text.specs.declared.lines.Line.TheVariants as lines
use Rattle.dt_text.specs.declared.lines.RunLine.{RunLine}
use Rattle.dt_text.specs.declared.lines.RunLine.TheVariants as runs
use Rattle.dt_text.specs.declared.lines.ScriptLine.{ScriptLine}
use Rattle.dt_text.specs.declared.lines.ScriptLine.TheVariants as scripts
use Rattle.dt_text.specs.declared.lines.UserLine.{UserLine}
use Rattle.dt_text.specs.declared.lines.UserLine.TheVariants as users

abbrev pub Said : Type 0
Said = Line

-- a send, and a call, with these digits
abbrev pub send_said : (flow : Flow) (begin end : Bool) (hex : List ℕ) → UserLine
send_said flow begin end hex = users.Send flow begin end record { ref_ptr = (0, 0); now = hex }

abbrev pub call_said : (flow : Flow) (hex : List ℕ) → RunLine
call_said flow hex = runs.Call flow record { ref_ptr = (0, 0); now = hex }

-- what a line says, for each kind of lines. Only a send and a call lend digits: another line that does needs a row here
abbrev pub user_said : UserLine → UserLine
user_said (users.Send flow begin end hex) = send_said flow begin end hex.now
user_said other = other

abbrev pub run_said : RunLine → RunLine
run_said (runs.User line) = runs.User (user_said line)
run_said (runs.Call flow hex) = call_said flow hex.now
run_said other = other

abbrev pub script_said : ScriptLine → ScriptLine
script_said (scripts.At at does) = scripts.At at (user_said does)
script_said other = other

-- WHAT A LINE SAYS
abbrev pub said : Line → Said
said (lines.Run line) = lines.Run (run_said line)
said (lines.Script line) = lines.Script (script_said line)
said other = other

-- what was read is what the definition says: this line, or this fault
abbrev pub ReadAs : Result Line LineFault → Result Said LineFault → Type 0
ReadAs (Ok line) line_of = line_of ≡ Ok (said line)
ReadAs (Err fault) line_of = line_of ≡ Err fault
