-- Clocks that stand for a while.
use Rattle.std.specs.Prelude.{◌≡◌, ℕ, ◌+◌, ◌≤◌}
use Rattle.dt_watch.specs.declared.readings.Bound.{Bound}

-- what a clock would read had it never stood: `stood t` is how long it has stood until t
abbrev pub unstopped : (ℕ → ℕ) → (ℕ → ℕ) → ℕ → ℕ
unstopped clock stood t = clock t + stood t

-- A LOWER BOUND RESTS ON A STAMP that was read of a clock at a moment: but for what the clock stands after that moment, it had passed `reading` when the other one read `at`
pub record RestsOn (clock stood other : ℕ → ℕ) (e : Bound) (read : ℕ) : Type 0 where
  pub moment : ℕ
  pub at : other moment ≡ e.at.micros
  pub passed : e.reading.micros + stood read ≤ unstopped clock stood moment

-- A DATAGRAM CAME: it was made when the other clock read `at`, and came, not before, when this one read `reading`
pub record Came (clock other : ℕ → ℕ) (e : Bound) (came : ℕ) : Type 0 where
  pub made : ℕ
  pub order : made ≤ came
  pub at : other made ≡ e.at.micros
  pub reading : clock came ≡ e.reading.micros
