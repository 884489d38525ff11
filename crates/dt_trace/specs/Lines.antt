-- A line of a trace, read. The first test that fails gives the fault: the first word, the number of words, and then the words from left to right.
use Rattle.std.specs.Prelude.{◌≡◌, ℕ, ◌==◌, if◌then◌else◌, nat_lt, codes, List, [], length, IsTrue, Option, Some, None, Result, Ok, Err}
use Rattle.std.specs.Option.{ok_or}
use Rattle.std.specs.Str.{bytes_eq}
use Rattle.dt_reports.specs.declared.faults.LineFault.{LineFault}
use Rattle.dt_reports.specs.declared.faults.LineFault.TheVariants as faults
use Rattle.dt_text.specs.Hexadecimal.{is_hex, are_pairs, octets_of_hex}
use Rattle.dt_text.specs.Lines.{◌>>=◌}
use Rattle.dt_text.specs.Numerals.{numeral}
use Rattle.dt_text.specs.Splitting.{word, words}
use Rattle.dt_trace.specs.Inputs.{Input, Reading, Taken, FailedTake, FailedGive, FailedOpen}
use Rattle.dt_trace.specs.declared.trace_lines.TraceLine.{TraceLine}
use Rattle.dt_trace.specs.declared.trace_lines.TraceLine.TheVariants as lines

-- the greatest reading and the greatest number of a give
abbrev pub most_number : ℕ
most_number = 18446744073709551615

abbrev pub most_link : ℕ
most_link = 255

-- the most octets of a datagram, for which a take has room: one more than a frame has at most
abbrev pub most_taken : ℕ
most_taken = 8223

-- a line that has so many words, or its fault
abbrev pub counted : ℕ → List (List ℕ) → Result (Unit {0}) LineFault
counted count line = if length line == count then Ok tt else Err faults.Count

abbrev pub number_read : ℕ → List ℕ → Result ℕ LineFault
number_read most text = ok_or (numeral most text) faults.Number

abbrev pub octets_read : List ℕ → Result (List ℕ) LineFault
octets_read text = if is_hex most_taken text then Ok (octets_of_hex text) else Err faults.Hex

abbrev pub datagram : ℕ → List ℕ → Input
datagram link octets = Taken (Some (record { link = link; octets = octets }))

-- `@ READING`
abbrev pub reading_said : List (List ℕ) → Result Input LineFault
reading_said line = do
  _ ← counted 2 line
  reading ← number_read most_number (word 1 line)
  Ok (Reading reading)

-- 0 stands for `open`
abbrev pub failure : ℕ → Input
failure number = if number == 0 then FailedOpen else FailedGive number

-- `! N`
abbrev pub failure_said : List (List ℕ) → Result Input LineFault
failure_said line = do
  _ ← counted 2 line
  number ← number_read most_number (word 1 line)
  Ok (failure number)

-- `< -` or `< x`
abbrev pub alone_said : Input → List (List ℕ) → Result Input LineFault
alone_said input line = do
  _ ← counted 2 line
  Ok input

-- `< L`
abbrev pub empty_said : List (List ℕ) → Result Input LineFault
empty_said line = do
  link ← number_read most_link (word 1 line)
  Ok (datagram link [])

-- `< L HEX`
abbrev pub octets_said : List (List ℕ) → Result Input LineFault
octets_said line = do
  _ ← counted 3 line
  link ← number_read most_link (word 1 line)
  octets ← octets_read (word 2 line)
  Ok (datagram link octets)

abbrev pub take_said : List (List ℕ) → Result Input LineFault
take_said line =
    if nat_lt (length line) 2 then Err faults.Count else (
    if bytes_eq (word 1 line) (codes "-") then alone_said (Taken None) line else (
    if bytes_eq (word 1 line) (codes "x") then alone_said FailedTake line else (
    if length line == 2 then empty_said line else octets_said line)))

abbrev pub input_said : List (List ℕ) → Result Input LineFault
input_said line =
    if bytes_eq (word 0 line) (codes "@") then reading_said line else (
    if bytes_eq (word 0 line) (codes "<") then take_said line else (
    if bytes_eq (word 0 line) (codes "!") then failure_said line else Err faults.Word))

-- what a line says, or its fault. No line is blank
unfoldable pub input_of : List ℕ → Result Input LineFault
input_of octets = input_said (words octets)

-- THE LINE OF THE CODE, whose octets are the digits that spell them
abbrev pub input_seen : TraceLine → Input
input_seen (lines.Reading reading) = Reading reading
input_seen lines.Nothing = Taken None
input_seen (lines.Datagram link hex) = datagram link (octets_of_hex hex.now)
input_seen lines.FailedTake = FailedTake
input_seen (lines.Failure number) = failure number

abbrev pub HasPairs : TraceLine → Type 0
HasPairs (lines.Reading reading) = Unit {0}
HasPairs lines.Nothing = Unit {0}
HasPairs (lines.Datagram link hex) = IsTrue (are_pairs hex.now)
HasPairs lines.FailedTake = Unit {0}
HasPairs (lines.Failure number) = Unit {0}

-- what was read is what the definition says: this line, or this fault
abbrev pub ReadsAs : Result TraceLine LineFault → Result Input LineFault → Type 0
ReadsAs (Ok line) said = (said ≡ Ok (input_seen line)) × HasPairs line
ReadsAs (Err fault) said = said ≡ Err fault
