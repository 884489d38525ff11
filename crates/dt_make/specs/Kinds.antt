-- What happens to the packets of a round.
use Rattle.std.specs.Prelude.{ℕ, ◌+◌, ◌%◌, ◌==◌, List, [], ◌∷◌, if◌then◌else◌}
use Rattle.dt_make.specs.declared.round_kinds.RoundKind.{RoundKind}
use Rattle.dt_make.specs.declared.round_kinds.RoundKind.TheVariants.{Plain, Lost, Twice}
use Rattle.dt_make.specs.declared.round_lines.RoundLine.{RoundLine}
use Rattle.dt_make.specs.declared.round_lines.RoundLine.TheVariants.{Pass, Arrive, Lose, Tick}

-- the kind of a draw
abbrev pub kind_of : ℕ → RoundKind
kind_of draw = if draw % 4 == 2 then Lost else if draw % 4 == 3 then Twice else Plain

-- how many copies a round puts
abbrev pub copies_of : RoundKind → ℕ
copies_of Plain = 2
copies_of Lost = 3
copies_of Twice = 3

-- The lines between the message's sending and its reading, where c copies were put before the round: copy c is
-- the message, and those after it are what is sent again and the acknowledgements.
abbrev pub lines_of : RoundKind → ℕ → List RoundLine
lines_of Plain c = Pass 10 ∷ Arrive c ∷ Pass 10 ∷ Arrive (c + 1) ∷ []
lines_of Lost c = Lose c ∷ Pass 500 ∷ Tick 1 ∷ Pass 10 ∷ Arrive (c + 1) ∷ Pass 10 ∷ Arrive (c + 2) ∷ []
lines_of Twice c = Pass 10 ∷ Arrive c ∷ Arrive c ∷ Pass 10 ∷ Arrive (c + 2) ∷ Arrive (c + 1) ∷ []
