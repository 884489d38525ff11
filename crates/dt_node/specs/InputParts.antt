-- An input is cut at its first line `trace`: a script stands before it, and a trace after it.
use Rattle.std.specs.Prelude.{◌≡◌, ℕ, ◌+◌, ◌<◌, ◌≤◌, ◌^◌, Bool, List, [], ◌∷◌, ◌++◌, codes, flat_map, length, Option, Some, None, Result, Ok, Err, if◌then◌else◌}
use Rattle.std.specs.Option.{option_map}
use Rattle.std.specs.Str.{bytes_eq}
use Rattle.dt_text.specs.InputLines.{lines_of, most_input}
use Rattle.dt_node.specs.declared.cut_inputs.CutInput.{CutInput}

abbrev pub is_mark : List ℕ → Bool
is_mark line = bytes_eq line (codes "trace")

-- one more line in front
abbrev pub with_line : List ℕ → List (List ℕ) × List (List ℕ) → List (List ℕ) × List (List ℕ)
with_line line parts = (line ∷ parts.0, parts.1)

-- the lines before the first that is `trace`, and those after it, if one is
abbrev pub cut_lines : List (List ℕ) → Option (List (List ℕ) × List (List ℕ))
cut_lines [] = None
cut_lines (line ∷ lines) = if is_mark line then Some ([], lines) else option_map (with_line line) (cut_lines lines)

-- lines with their line feeds
abbrev pub text_of : List (List ℕ) → List ℕ
text_of lines = flat_map (λ line. line ++ 10 ∷ []) lines

-- what the code cuts
pub record IsCut (p : CutInput) (parts : List (List ℕ) × List (List ℕ)) : Type 0 where
  pub script : p.script.now ≡ text_of parts.0
  pub mark : p.mark ≡ length parts.0 + 1
  pub trace : lines_of p.trace.now ≡ parts.1
  pub short : length p.script.now ≤ most_input
  pub few : p.mark + length p.trace.now < 2 ^ 32
  pub least : length p.trace.now ≤ most_input

abbrev pub CutsTo : Result CutInput ℕ → List ℕ → Type 0
CutsTo (Ok p) octets = (parts : List (List ℕ) × List (List ℕ)) × (cut_lines (lines_of octets) ≡ Some parts) × IsCut p parts
CutsTo (Err lines) octets = (cut_lines (lines_of octets) ≡ None) × (lines ≡ length (lines_of octets)) × (lines < 2 ^ 32)
