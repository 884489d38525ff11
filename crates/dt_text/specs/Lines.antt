-- How a line is read by the rows. The first test that fails gives the fault: the words that choose the kind of line, the number of words, and
-- then the words from left to right.
use Rattle.std.specs.Prelude.{ℕ, ◌+◌, List, [], ◌∷◌, Result, Ok, Err, if◌then◌else◌, ◌==◌, length, nat_lt, slice_index, slice_index_or, ◌||◌, codes}
use Rattle.std.specs.Str.{bytes_eq}
use Rattle.dt_reports.specs.declared.faults.LineFault.{LineFault}
use Rattle.dt_reports.specs.declared.faults.LineFault.TheVariants as faults
use Rattle.dt_text.specs.declared.lines.Form.{Form}
use Rattle.dt_text.specs.declared.lines.Form.TheVariants.{Schedule, Script, Calls}
use Rattle.dt_text.specs.Splitting.{words, word}
use Rattle.dt_text.specs.declared.lines.Line.TheVariants.{Blank}
use Rattle.dt_text.specs.Said.{Said}
use Rattle.dt_text.specs.WordKinds.{value_read}
use Rattle.dt_text.specs.Rows.{Part, Fixed, Given, Makes, LineKind, of_schedules, of_scripts, of_calls, behind_moments}

infixl 10 ◌>>=◌
abbrev pub ◌>>=◌ : {A B : Type 0} → Result A LineFault → (A → Result B LineFault) → Result B LineFault
(Ok value) >>= next = next value
(Err fault) >>= next = Err fault

-- the words of a line from a place on; its fixed words have chosen the row
abbrev pub said_by : (parts : List Part) → Makes parts → ℕ → List (List ℕ) → Result Said LineFault
said_by [] said place line = Ok said
said_by (Fixed text ∷ parts) makes place line = said_by parts makes (place + 1) line
said_by (Given kind ∷ parts) makes place line = do
  value ← value_read kind (word place line)
  said_by parts (makes value) (place + 1) line

-- a line of the kind: the row that has its number of words says what it says
unfoldable pub said_as : LineKind → List (List ℕ) → Result Said LineFault
said_as [] line = Err faults.Count
said_as (row ∷ rows) line = if length line == length row.words then said_by row.words row.says 0 line else said_as rows line

abbrev pub fixed_text : Part → List ℕ
fixed_text (Fixed text) = text
fixed_text (Given kind) = []

-- the fixed word of a kind of line at a place
abbrev pub name_at : ℕ → LineKind → List ℕ
name_at place [] = []
name_at place (row ∷ rows) = fixed_text (slice_index_or row.words place (Fixed []))

-- a line of the kind that the word at a place names, or the fault Word where it names none
abbrev pub said_by_name : ℕ → List LineKind → List (List ℕ) → Result Said LineFault
said_by_name place [] line = Err faults.Word
said_by_name place (kind ∷ kinds) line = if bytes_eq (word place line) (name_at place kind) then said_as kind line else said_by_name place kinds line

-- after `at T` the third word names the kind
unfoldable pub said_at : List (List ℕ) → Result Said LineFault
said_at line = if nat_lt (length line) 3 then Err faults.Count else said_by_name 2 behind_moments line

-- the words of a line that isn't blank
abbrev pub said_in : Form → List (List ℕ) → Result Said LineFault
said_in Schedule line = said_by_name 0 of_schedules line
said_in Script line = if bytes_eq (word 0 line) (codes "at") then said_at line else said_by_name 0 of_scripts line
said_in Calls line = said_by_name 0 of_calls line

-- A line is blank where it is empty or begins with `#`. Every other line is words.
unfoldable pub line_of : Form → List ℕ → Result Said LineFault
line_of form octets = if length octets == 0 || slice_index octets 0 == 35 then Ok Blank else said_in form (words octets)
