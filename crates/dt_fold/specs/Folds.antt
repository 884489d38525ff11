-- How an input is read: its lines are folded, from the first to the last or to the first that is refused. Each turns a state into the next one, and a text is logged.
use Rattle.std.specs.Prelude.{ℕ, suc, Bool, true, false, List, [], ◌∷◌, ◌++◌, None, Result, Ok, Err}
use Rattle.dt_reports.specs.declared.faults.Fault.{Fault}
use Rattle.dt_reports.specs.declared.reports.Report.TheVariants as reports
use Rattle.dt_reports.specs.Entries.{Entry}
use Rattle.dt_log.specs.Logs.{entry_text}
use Rattle.dt_text.specs.InputLines.{lines_of}

-- what a line leads to: the text that is logged, and the state after it
pub record Turned (S : Type 0) : Type 0 where
  pub text : List ℕ
  pub state : S

-- What the lines of an input do: what a line turns a state into, or why it is refused; and what is logged after the last line, or which fault it is that the input ends there.
pub record Turns (S : Type 0) : Type 0 where
  pub turn : S → List ℕ → Result (Turned S) Fault
  pub close : S → Result (List ℕ) Fault

-- a whole input: all that was logged, the last state, and whether nothing was refused
pub record Folded (S : Type 0) : Type 0 where
  pub text : List ℕ
  pub state : S
  pub accepted : Bool

-- the line with this number is refused. That is the last that is logged
abbrev pub refusal_entry : ℕ → Fault → Entry
refusal_entry number fault = record { moment = 0; node = None; told = reports.Fault number fault }

abbrev pub refusal : ℕ → Fault → List ℕ
refusal number fault = entry_text (refusal_entry number fault)

abbrev pub refused : {S : Type 0} → ℕ → S → Fault → Folded S
refused number state fault = record { text = refusal number fault; state = state; accepted = false }

-- after the last line: the number is that of the line that doesn't come
abbrev pub closed : {S : Type 0} → ℕ → S → Result (List ℕ) Fault → Folded S
closed number state (Ok text) = record { text = text; state = state; accepted = true }
closed number state (Err fault) = refused number state fault

abbrev pub behind : {S : Type 0} → List ℕ → Folded S → Folded S
behind text rest = record { text = text ++ rest.text; state = rest.state; accepted = rest.accepted }

-- a line was turned, or refused, and then the rest is folded
abbrev pub fold_on : {S : Type 0} → ℕ → S → (S → Folded S) → Result (Turned S) Fault → Folded S
fold_on number state rest (Ok turned) = behind turned.text (rest turned.state)
fold_on number state rest (Err fault) = refused number state fault

-- the lines from the one with this number on
unfoldable pub fold_from : {S : Type 0} → Turns S → ℕ → S → List (List ℕ) → Folded S
fold_from turns number state [] = closed number state (turns.close state)
fold_from turns number state (line ∷ lines) = fold_on number state (λ next. fold_from turns (suc number) next lines) (turns.turn state line)

-- all lines of an input
abbrev pub fold_input : {S : Type 0} → Turns S → S → List ℕ → Folded S
fold_input turns start octets = fold_from turns 1 start (lines_of octets)
