-- A trace as a whole: what its lines come to.
use Rattle.std.specs.Prelude.{◌≡◌, ℕ, suc, ◌+◌, Bool, true, false, ◌==◌, if◌then◌else◌, nat_lt, List, [], ◌∷◌, ◌++◌, length, slice_index_or, Option, Some, None, Result, Ok, Err, ◌-◌}
use Rattle.dt_edges.specs.Clocks.{ClockInMemory}
use Rattle.dt_edges.specs.Wires.{Datagram, WireInMemory, fresh_wire}
use Rattle.dt_reports.specs.declared.faults.LineFault.{LineFault}
use Rattle.dt_reports.specs.declared.faults.LineFault.TheVariants.{Order}
use Rattle.dt_text.specs.InputLines.{lines_of}
use Rattle.dt_trace.specs.Inputs.{Input, Reading, Taken, FailedTake, FailedGive, FailedOpen}
use Rattle.dt_trace.specs.Lines.{input_of}
use Rattle.dt_trace.specs.declared.taken_datagrams.TakenDatagram as code
use Rattle.dt_trace.specs.declared.trace_refusals.TraceRefusal.{TraceRefusal}
use Rattle.dt_trace.specs.declared.trace_refusals.TraceRefusal.TheVariants as refusals
use Rattle.dt_trace.specs.declared.trace_faults.TraceFault.{TraceFault}
use Rattle.dt_trace.specs.declared.trace_faults.TraceFault.TheVariants as trace_faults

-- the inputs of a run
pub record Recorded : Type 0 where
  pub readings : List ℕ
  -- what the takes handed over that answered
  pub takes : List (Option Datagram)
  -- the numbers of the takes and of the gives that failed, of which the first is 1
  pub failing_takes : List ℕ
  pub failing_gives : List ℕ
  pub open_fails : Bool

abbrev pub nothing : Recorded
nothing = record { readings = []; takes = []; failing_takes = []; failing_gives = []; open_fails = false }

-- one more input
abbrev pub noted : Recorded → Input → Recorded
noted t (Reading reading) = record t { readings = t.readings ++ reading ∷ [] }
noted t (Taken found) = record t { takes = t.takes ++ found ∷ [] }
noted t FailedTake = record t { failing_takes = t.failing_takes ++ (length t.takes + length t.failing_takes + 1) ∷ [] }
noted t (FailedGive number) = record t { failing_gives = t.failing_gives ++ number ∷ [] }
noted t FailedOpen = record t { open_fails = true }

-- the last of some numbers that rise from 1 on, or 0
abbrev pub last_number : List ℕ → ℕ
last_number numbers = slice_index_or numbers (length numbers - 1) 0

-- The gives that failed come in the order of their numbers, and a failed `open` comes first.
abbrev pub is_placed : ℕ → Recorded → Input → Bool
is_placed line t (Reading reading) = true
is_placed line t (Taken found) = true
is_placed line t FailedTake = true
is_placed line t (FailedGive number) = nat_lt (last_number t.failing_gives) number
is_placed line t FailedOpen = line == 1

-- the line with this number is read, and then the others
abbrev pub note_then : ℕ → Recorded → Result Input LineFault → (Recorded → Result Recorded (ℕ × LineFault)) → Result Recorded (ℕ × LineFault)
note_then line t (Err fault) rest = Err (line, fault)
note_then line t (Ok input) rest = if is_placed line t input then rest (noted t input) else Err (line, Order)

-- the lines from the one with this number on
unfoldable pub read_from : ℕ → Recorded → List (List ℕ) → Result Recorded (ℕ × LineFault)
read_from line t [] = Ok t
read_from line t (octets ∷ more) = note_then line t (input_of octets) (λ next. read_from (suc line) next more)

-- WHAT A TRACE SAYS, or the first of its lines that is refused, counted from 1, and why
abbrev pub trace_of : List ℕ → Result Recorded (ℕ × LineFault)
trace_of octets = read_from 1 nothing (lines_of octets)

-- THE WIRE AND THE CLOCK of a trace, on which its run can be run again
abbrev pub wire_of : Recorded → WireInMemory
wire_of t = fresh_wire (record { entries = t.takes; failing_takes = t.failing_takes; failing_gives = t.failing_gives; open_fails = t.open_fails }) None

-- the one reading 0 where there is none
abbrev pub or_zero : List ℕ → List ℕ
or_zero [] = 0 ∷ []
or_zero (first ∷ more) = first ∷ more

abbrev pub clock_of : Recorded → ClockInMemory
clock_of t = record { plan = or_zero t.readings; taken = 0 }

-- THE TRACE OF THE CODE
abbrev pub taken_seen : code.TakenDatagram → Datagram
taken_seen t = record { link = t.link; octets = t.octets.items }

-- A line was noted, or refused for its fault and changed nothing. Where memory ran out nothing more is said.
abbrev pub Notes : ℕ → Result Input LineFault → Result (Unit {0}) TraceRefusal → Recorded → Recorded → Type 0
Notes line input (Ok done) before after = (rest : Recorded → Result Recorded (ℕ × LineFault)) → note_then line before input rest ≡ rest after
Notes line input (Err (refusals.Line fault)) before after = (rest : Recorded → Result Recorded (ℕ × LineFault)) → note_then line before input rest ≡ Err (line, fault)
Notes line input (Err refusals.NoMemory) before after = Unit {0}

-- A trace was read, or is refused. Memory may run out with any.
abbrev pub Reads : {T : Type 0} → (T → Recorded) → Result T TraceFault → Result Recorded (ℕ × LineFault) → Type 0
Reads seen (Ok trace) said = said ≡ Ok (seen trace)
Reads seen (Err (trace_faults.Line line fault)) said = said ≡ Err (line, fault)
Reads seen (Err trace_faults.NoMemory) said = Unit {0}
