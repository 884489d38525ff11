-- The words of the command line.
use Rattle.std.specs.Prelude.{ℕ, List, [], ◌∷◌, Option, Some, None, if◌then◌else◌, nat_lt, codes, bytes_eq}
use Rattle.dt_log.specs.Words.{Text}
use Rattle.dt_text.specs.Numerals.{numeral}
use Rattle.dt_make.specs.Schedules.{most_rounds}

-- the words without the first `--` among them, if there is one
abbrev pub without_mark : List Text → List Text
without_mark [] = []
without_mark (word ∷ more) = if bytes_eq word (codes "--") then more else word ∷ without_mark more

-- the number, where it isn't 0
abbrev pub from_one : Option ℕ → Option ℕ
from_one None = None
from_one (Some n) = if nat_lt 0 n then Some n else None

-- the number of rounds that a word is, from 1 to the most, without a leading zero
abbrev pub rounds_of : Text → Option ℕ
rounds_of word = from_one (numeral most_rounds word)
