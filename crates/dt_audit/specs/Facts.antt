-- Which fact a line of a log states.
use Rattle.std.specs.Prelude.{ℕ, Bool, true, false, ◌&&◌, ◌||◌, ◌==◌, if◌then◌else◌, nat_lt, codes, is_some, List, length, Result, Ok, Err}
use Rattle.std.specs.Str.{bytes_eq}
use Rattle.dt_units.specs.declared.endpoints.Flow.{Flow}
use Rattle.dt_reports.specs.declared.faults.LineFault.{LineFault}
use Rattle.dt_reports.specs.declared.faults.LineFault.TheVariants as faults
use Rattle.dt_text.specs.Lines.{◌>>=◌}
use Rattle.dt_text.specs.Numerals.{numeral}
use Rattle.dt_text.specs.Rows.{any_number}
use Rattle.dt_text.specs.Splitting.{word, words}
use Rattle.dt_text.specs.WordKinds.{FlowWord, value_read}
use Rattle.dt_audit.specs.declared.facts.Fact.{Fact}
use Rattle.dt_audit.specs.declared.facts.Fact.TheVariants.{Took, Sent, Settled, Uncertain, Accepted, Restarted, Other}

-- the letters of a packet: its data-run flag, and whether it begins and ends a message, or `-` for none
abbrev pub are_letters : List ℕ → Bool
are_letters text =
    bytes_eq text (codes "dbe") || (bytes_eq text (codes "db") || (bytes_eq text (codes "de") || (bytes_eq text (codes "d")
    || (bytes_eq text (codes "be") || (bytes_eq text (codes "b") || (bytes_eq text (codes "e") || bytes_eq text (codes "-")))))))

abbrev pub letters_read : List ℕ → Result (Unit {0}) LineFault
letters_read text = if are_letters text then Ok tt else Err faults.Word

-- whether accepted octets have a run mark
abbrev pub run_read : List ℕ → Result Bool LineFault
run_read text = if bytes_eq text (codes "run") then Ok true else (if bytes_eq text (codes "on") then Ok false else Err faults.Word)

-- a line that has so many words, or its fault
abbrev pub counted : ℕ → List (List ℕ) → Result (Unit {0}) LineFault
counted count line = if length line == count then Ok tt else Err faults.Count

-- THE LINES THAT TELL A FACT: their words after the moment, the node and the name
abbrev pub took_said : List (List ℕ) → Result Fact LineFault
took_said line = do
  _ ← counted 5 line
  flow ← value_read FlowWord (word 3 line)
  count ← value_read any_number (word 4 line)
  Ok (Took flow count)

-- octets of a flow, by the number of the first and how many they are, in a line of seven words
abbrev pub range_said : List (List ℕ) → Result (Flow × ℕ × ℕ) LineFault
range_said line = do
  _ ← counted 7 line
  flow ← value_read FlowWord (word 3 line)
  number ← value_read any_number (word 4 line)
  count ← value_read any_number (word 5 line)
  Ok (flow, number, count)

abbrev pub sent_said : List (List ℕ) → Result Fact LineFault
sent_said line = do
  octets ← range_said line
  _ ← letters_read (word 6 line)
  Ok (Sent octets.0 octets.1 octets.2)

abbrev pub settled_said : List (List ℕ) → Result Fact LineFault
settled_said line = do
  _ ← counted 6 line
  flow ← value_read FlowWord (word 3 line)
  count ← value_read any_number (word 4 line)
  _ ← value_read any_number (word 5 line)
  Ok (Settled flow count)

abbrev pub uncertain_said : List (List ℕ) → Result Fact LineFault
uncertain_said line = do
  _ ← counted 5 line
  flow ← value_read FlowWord (word 3 line)
  count ← value_read any_number (word 4 line)
  Ok (Uncertain flow count)

abbrev pub accepted_said : List (List ℕ) → Result Fact LineFault
accepted_said line = do
  octets ← range_said line
  run ← run_read (word 6 line)
  Ok (Accepted octets.0 octets.1 octets.2 run)

abbrev pub restarted_said : List (List ℕ) → Result Fact LineFault
restarted_said line = do
  _ ← counted 4 line
  node ← value_read any_number (word 1 line)
  life ← value_read any_number (word 3 line)
  Ok (Restarted node life)

-- The third word names the fact. Under another name the line says nothing of octets and lives.
abbrev pub named_fact : List (List ℕ) → Result Fact LineFault
named_fact line =
    if bytes_eq (word 2 line) (codes "took") then took_said line else (
    if bytes_eq (word 2 line) (codes "sent") then sent_said line else (
    if bytes_eq (word 2 line) (codes "settled") then settled_said line else (
    if bytes_eq (word 2 line) (codes "uncertain") then uncertain_said line else (
    if bytes_eq (word 2 line) (codes "accepted") then accepted_said line else (
    if bytes_eq (word 2 line) (codes "restarted") then restarted_said line else Ok Other)))))

-- a node tells the line: a moment of 64 bits stands first, and then the number of a node
abbrev pub is_told : List (List ℕ) → Bool
is_told line = is_some (numeral 18446744073709551615 (word 0 line)) && is_some (numeral 4294967295 (word 1 line))

abbrev pub told_fact : List (List ℕ) → Result Fact LineFault
told_fact line = if nat_lt (length line) 3 then Ok Other else (if is_told line then named_fact line else Ok Other)

-- what a line of a log says of octets and of lives, or its first fault
unfoldable pub fact_of : List ℕ → Result Fact LineFault
fact_of octets = told_fact (words octets)
