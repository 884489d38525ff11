-- An input in lines.
use Rattle.std.specs.Prelude.{ℕ, List, [], ◌∷◌, if◌then◌else◌, ◌==◌}

-- the most octets of an input
abbrev pub most_input : ℕ
most_input = 16777216

-- an octet stands first in the first line
abbrev pub in_front : ℕ → List (List ℕ) → List (List ℕ)
in_front octet [] = (octet ∷ []) ∷ []
in_front octet (line ∷ lines) = (octet ∷ line) ∷ lines

-- An input is cut at each line feed. What follows the last one is a line too, unless it is empty.
abbrev pub lines_of : List ℕ → List (List ℕ)
lines_of [] = []
lines_of (octet ∷ octets) = if octet == 10 then [] ∷ lines_of octets else in_front octet (lines_of octets)
