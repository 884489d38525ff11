-- A tournament in which the deadline that was put last isn't played: it is kept beside the tree, in which its place is empty.
use Rattle.std.specs.Prelude.{ℕ, ◌≡◌, ◌<◌, ◌≤◌, ◌^◌, ◌==◌, Bool, false, List, length, set, Option, Some, None}
use Rattle.dt_timers.specs.declared.deadline.Deadline.{Deadline}
use Rattle.dt_timers.specs.Tournaments.{node}

-- whether a deadline stands in this place
abbrev pub is_in : Option Deadline → ℕ → Bool
is_in None place = false
is_in (Some d) place = d.place == place

-- the places with the one that isn't played
abbrev pub with_latest : Option Deadline → List (Option Deadline) → List (Option Deadline)
with_latest None places = places
with_latest (Some d) places = set places d.place (Some d)

abbrev pub IsBeside : Option Deadline → List (Option Deadline) → Type 0
IsBeside None places = Unit {0}
IsBeside (Some d) places = (d.place < length places) × (node places d.place ≡ None)

pub record IsApart (latest : Option Deadline) (played : List (Option Deadline)) : Type 0 where
  pub few : length played ≤ 2 ^ 32
  pub beside : IsBeside latest played
