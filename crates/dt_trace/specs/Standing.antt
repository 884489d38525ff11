-- Inputs whose lines are read back as these inputs.
use Rattle.std.specs.Prelude.{◌≡◌, ℕ, suc, ◌<◌, ◌≤◌, true, List, [], ◌∷◌, length, Option, Some, None}
use Rattle.std.specs.List.{AllByRecursion}
use Rattle.dt_edges.specs.Wires.{Datagram}
use Rattle.dt_trace.specs.Inputs.{Input, Reading, Taken, FailedTake, FailedGive, FailedOpen}
use Rattle.dt_trace.specs.Lines.{most_link, most_number, most_taken}
use Rattle.dt_trace.specs.Traces.{Recorded, is_placed, noted}

pub record Fits (d : Datagram) : Type 0 where
  pub link : d.link ≤ most_link
  pub few : length d.octets ≤ most_taken
  pub octets : AllByRecursion (λ octet. octet < 256) d.octets

abbrev pub HasFound : Option Datagram → Type 0
HasFound None = Unit {0}
HasFound (Some d) = Fits d

-- an input that a line of a trace can say
abbrev pub IsInput : Input → Type 0
IsInput (Reading reading) = reading ≤ most_number
IsInput (Taken found) = HasFound found
IsInput FailedTake = Unit {0}
IsInput (FailedGive number) = (0 < number) × (number ≤ most_number)
IsInput FailedOpen = Unit {0}

-- what these inputs come to
abbrev pub noted_all : Recorded → List Input → Recorded
noted_all t [] = t
noted_all t (input ∷ inputs) = noted_all (noted t input) inputs

-- each may stand where it does, from the line with this number on
abbrev pub Stand : ℕ → Recorded → List Input → Type 0
Stand line t [] = Unit {0}
Stand line t (input ∷ inputs) = IsInput input × (is_placed line t input ≡ true) × Stand (suc line) (noted t input) inputs
