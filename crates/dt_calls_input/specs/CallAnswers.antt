-- WHOSE ANSWERS are told of an input: the payloads of its calls are the octets of its `call` lines.
use Rattle.std.specs.Prelude.{ℕ, ◌≡◌, List, [], ◌∷◌, ◌++◌, length, reverse, take, Result, Ok, Err}
use Rattle.dt_reports.specs.declared.faults.Fault.{Fault}
use Rattle.dt_reports.specs.declared.faults.LineFault.{LineFault}
use Rattle.dt_text.specs.declared.lines.Form.TheVariants as forms
use Rattle.dt_text.specs.Hexadecimal.{octets_of_hex}
use Rattle.dt_text.specs.InputLines.{lines_of}
use Rattle.dt_text.specs.Lines.{line_of}
use Rattle.dt_text.specs.declared.lines.Line.TheVariants as said
use Rattle.dt_text.specs.declared.lines.RunLine.{RunLine}
use Rattle.dt_text.specs.declared.lines.RunLine.TheVariants as runs
use Rattle.dt_text.specs.Said.{Said}
use Rattle.dt_fold.specs.Folds.{refusal}
use Rattle.dt_calls_model.specs.Calls.{Calls}
use Rattle.dt_calls_model.specs.CallStep.{CallEvent, Stepped, call_step}
use Rattle.dt_calls_model.specs.CallTold.{CallEntry}
use Rattle.dt_calls_model.specs.Promises.{AreItsAnswers, AreMadeWith, payloads_in}
use Rattle.dt_calls_laws.specs.MayCome.{MayCome}
use Rattle.dt_calls_input.specs.CallInputs.{calls_text, last_text}
use Rattle.dt_calls_input.specs.CallTexts.{entries_text}

-- the octets of a `call` line; other lines have none
abbrev pub called_behind : RunLine → List (List ℕ)
called_behind (runs.World line) = []
called_behind (runs.User line) = []
called_behind (runs.Call flow hex) = octets_of_hex hex.now ∷ []

abbrev pub called_by : Said → List (List ℕ)
called_by said.Blank = []
called_by (said.Params p) = []
called_by said.Go = []
called_by (said.Setup line) = []
called_by (said.Run line) = called_behind line
called_by (said.Script line) = []

abbrev pub called_in : Result Said LineFault → List (List ℕ)
called_in (Ok line) = called_by line
called_in (Err fault) = []

-- THE CALLS OF AN INPUT: the octets of its `call` lines, from the first on
abbrev pub octets_called : List (List ℕ) → List (List ℕ)
octets_called [] = []
octets_called (line ∷ lines) = called_in (line_of forms.Calls line) ++ octets_called lines

abbrev pub calls_of : List ℕ → List (List ℕ)
calls_of octets = octets_called (lines_of octets)

-- how a text ends: with the totals and the end, or with the fault of a line
pub data Last : Type 0 where
  Closed : Calls → Last
  Faulted : (line : ℕ) (fault : Fault) → Last

abbrev pub text_of_last : Last → List ℕ
text_of_last (Closed c) = last_text c
text_of_last (Faulted line fault) = refusal line fault

-- EACH ANSWER IS THAT OF ITS OWN CALL. The text of an input is the lines of entries, and how it ends; and an entry that call n was answered has the octets of the `call` line n, counted from 0, in reversed order. There is such a line.
pub record TellsOwnAnswers (octets : List ℕ) : Type 0 where
  pub told : List CallEntry
  pub last : Last
  pub text : calls_text octets ≡ entries_text told ++ text_of_last last
  pub answers : AreItsAnswers reverse (calls_of octets) told

-- whatever comes next: each answer that is reported of it is the payload of its call in reversed order, of these calls or of the one that comes
abbrev pub AnswersAreReversed : List (List ℕ) → Calls → Type 0
AnswersAreReversed payloads c = (e : CallEvent) (told : List CallEntry) (after : Calls) → MayCome e → call_step reverse c e ≡ Stepped told after → AreItsAnswers reverse (payloads ++ payloads_in e) told

-- the first `call` lines of an input, as many as there are calls
abbrev pub first_called : List ℕ → Calls → List (List ℕ)
first_called octets c = take (length c.calls) (calls_of octets)

-- CALLS OF AN INPUT are those of its first `call` lines, with their octets, and so are the answers that are told next.
pub record AreCallsOf (octets : List ℕ) (c : Calls) : Type 0 where
  pub made : AreMadeWith (first_called octets c) c
  pub answers : AnswersAreReversed (first_called octets c) c
