-- Lines and words in parts.
use Rattle.std.specs.Prelude.{ℕ, ◌+◌, List, [], Option, option_map, ◌==◌, take, drop, position, slice_index_or}
use Rattle.std.specs.List.{slice_split}

-- The words of a line: what stands between single spaces. Two spaces together make an empty word.
abbrev pub words : List ℕ → List (List ℕ)
words line = slice_split (λ octet. octet == 32) line

-- the word at a place, counted from 0
abbrev pub word : ℕ → List (List ℕ) → List ℕ
word place line = slice_index_or line place []

-- what stands before the first of these octets, and what stands after it, if there is one
abbrev pub cut : ℕ → List ℕ → Option (List ℕ × List ℕ)
cut octet text = option_map (λ place. (take place text, drop (place + 1) text)) (position (λ x. x == octet) text)
