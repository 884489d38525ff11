-- What a run of a node takes in from its clock and its wire, and how it is written.
use Rattle.std.specs.Prelude.{ℕ, List, [], ◌∷◌, codes, flat_map, Option, Some, None}
use Rattle.std.specs.Fmt.{decimal}
use Rattle.dt_edges.specs.Wires.{Datagram}
use Rattle.dt_log.specs.Words.{Text, hex_text, row_text}

pub data Input : Type 0 where
  -- a reading of the clock
  Reading : (reading : ℕ) → Input
  -- what a take found
  Taken : (found : Option Datagram) → Input
  FailedTake : Input
  -- the give of this number failed, of which the first is 1
  FailedGive : (number : ℕ) → Input
  FailedOpen : Input

-- octets as a word, where there are any
abbrev pub octets_words : List ℕ → List Text
octets_words [] = []
octets_words (octet ∷ octets) = hex_text (octet ∷ octets) ∷ []

abbrev pub found_words : Option Datagram → List Text
found_words None = codes "-" ∷ []
found_words (Some d) = decimal d.link ∷ octets_words d.octets

-- the words of a line
abbrev pub input_words : Input → List Text
input_words (Reading reading) = codes "@" ∷ decimal reading ∷ []
input_words (Taken found) = codes "<" ∷ found_words found
input_words FailedTake = codes "<" ∷ codes "x" ∷ []
input_words (FailedGive number) = codes "!" ∷ decimal number ∷ []
input_words FailedOpen = codes "!" ∷ decimal 0 ∷ []

abbrev pub input_text : Input → Text
input_text input = row_text (input_words input)

-- a trace: the lines of inputs, one after another
abbrev pub trace_text : List Input → Text
trace_text inputs = flat_map input_text inputs
