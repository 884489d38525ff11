-- Agendas: what is noted of each record that stands, a moment of each kind or none, and the tables that tell it by the places of the records.
use Rattle.std.specs.Prelude.{ℕ, ◌≤◌, [], ◌∷◌, length, List, replicate, Option, None}
use Rattle.std.specs.Option.{MatchOption}
use Rattle.dt_timers.specs.Deadlines.{HasNoMoment, IsFirst, moment_at}
use Rattle.dt_table.specs.Places.{slot}

-- AN AGENDA has a table for each kind. What it notes in a place is a moment of each kind, or none.
abbrev pub Tables : Type 0
Tables = List (List (Option ℕ))

abbrev pub Note : Type 0
Note = List (Option ℕ)

abbrev pub note_at : Tables → ℕ → Note
note_at [] i = []
note_at (t ∷ ts) i = moment_at t i ∷ note_at ts i

-- nothing is noted, of so many kinds
abbrev pub no_note : ℕ → Note
no_note kinds = replicate kinds None

-- the moment of a kind that is noted in a place
abbrev pub moment_of_kind : Tables → ℕ → ℕ → Option ℕ
moment_of_kind ts kind i = slot (note_at ts i) kind

-- each table has so many places, or more
abbrev pub HasRoom : ℕ → Tables → Type 0
HasRoom count [] = Unit {0}
HasRoom count (t ∷ ts) = (count ≤ length t) × HasRoom count ts

-- the least of the moments that places have, and the first place that has it
abbrev pub IsFirstPlace : (ℕ → Option ℕ) → Option (ℕ × ℕ) → Type 0
IsFirstPlace moment first = MatchOption first (HasNoMoment moment) (λ f. IsFirst moment f.0 f.1)
