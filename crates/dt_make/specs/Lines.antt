-- The lines of a round that are a word and a number.
use Rattle.std.specs.Prelude.{[], ◌∷◌, codes, decimal}
use Rattle.dt_log.specs.Words.{Text, row_text}
use Rattle.dt_make.specs.declared.round_lines.RoundLine.{RoundLine}
use Rattle.dt_make.specs.declared.round_lines.RoundLine.TheVariants.{Pass, Arrive, Lose, Tick}

abbrev pub line_text : RoundLine → Text
line_text (Pass span) = row_text (codes "pass" ∷ decimal span ∷ [])
line_text (Arrive copy) = row_text (codes "arrive" ∷ decimal copy ∷ [])
line_text (Lose copy) = row_text (codes "lose" ∷ decimal copy ∷ [])
line_text (Tick node) = row_text (codes "tick" ∷ decimal node ∷ [])
