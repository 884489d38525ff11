-- Lines of a trace that spell inputs.
use Rattle.std.specs.Prelude.{◌≡◌, ℕ, List, [], ◌∷◌}
use Rattle.std.specs.Str.{str_to_ascii_lowercase}
use Rattle.dt_log.specs.Words.{Text, spaced}
use Rattle.dt_trace.specs.Inputs.{Input, input_words}
use Rattle.dt_trace.specs.Standing.{Stand, noted_all}
use Rattle.dt_trace.specs.Traces.{Recorded}

-- the words of a line, its hexadecimal digits in lower case, which stand third
abbrev pub in_lower_case : List Text → List Text
in_lower_case [] = []
in_lower_case (name ∷ []) = name ∷ []
in_lower_case (name ∷ next ∷ []) = name ∷ next ∷ []
in_lower_case (name ∷ next ∷ hex ∷ more) = name ∷ next ∷ str_to_ascii_lowercase hex ∷ more

-- A line, without its line feed, is the words of the input with one space between two of them, up to the case of hexadecimal digits.
pub record Spells (line : List ℕ) (input : Input) : Type 0 where
  pub words : List Text
  pub whole : line ≡ spaced words
  pub same : in_lower_case words ≡ input_words input

-- as many lines as inputs, and each spells its own
abbrev pub AllSpell : List (List ℕ) → List Input → Type 0
AllSpell [] [] = Unit {0}
AllSpell (line ∷ lines) (input ∷ inputs) = Spells line input × AllSpell lines inputs
AllSpell [] (input ∷ inputs) = ⊥
AllSpell (line ∷ lines) [] = ⊥

-- Lines, the first of which has this number, spell inputs that may stand where they do, and these lead from what was recorded before to what is recorded.
pub record SpellInputs (number : ℕ) (before : Recorded) (lines : List (List ℕ)) (after : Recorded) : Type 0 where
  pub inputs : List Input
  pub spelled : AllSpell lines inputs
  pub stand : Stand number before inputs
  pub noted : noted_all before inputs ≡ after
