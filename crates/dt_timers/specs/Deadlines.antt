-- A table of deadlines as its callers see it: the moments that stand in its places, of which the first is the least.
use Rattle.std.specs.Prelude.{ℕ, ◌≡◌, ◌<◌, ◌≤◌, ◌⊎◌, List, slice_index_or, option_map, Option, Some, None}
use Rattle.dt_timers.specs.declared.deadline.Deadline.{Deadline}
use Rattle.dt_timers.specs.Tournaments.{node}

-- the moment of a place, and none beyond the last
abbrev pub moment_at : List (Option ℕ) → ℕ → Option ℕ
moment_at moments i = slice_index_or moments i None

abbrev pub moment_of : Option Deadline → Option ℕ
moment_of d = option_map (λ e. e.moment) d

-- each deadline stands in its own place
abbrev pub StandInPlace : List (Option Deadline) → Type 0
StandInPlace places = (i : ℕ) (d : Deadline) → node places i ≡ Some d → d.place ≡ i

-- what is said of places that each have a moment or none
module _ (moment : ℕ → Option ℕ) where
  abbrev pub HasNoMoment : Type 0
  HasNoMoment = (i m : ℕ) → moment i ≡ Some m → ⊥

  -- A place's moment is the least of all, and the place the first of those that have it.
  pub record IsFirst (first place : ℕ) : Type 0 where
    pub there : moment place ≡ Some first
    pub least : (i m : ℕ) → moment i ≡ Some m → (first < m) ⊎ ((first ≡ m) × (place ≤ i))
