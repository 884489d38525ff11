-- Two clocks, as functions from the true moments to what is read.
use Rattle.std.specs.Prelude.{◌≡◌, ℕ, ◌+◌, ◌*◌, ◌-◌, ◌≤◌}
use Rattle.dt_watch.specs.declared.clock_bounds.ClockBounds.{ClockBounds}
use Rattle.dt_watch.specs.declared.readings.Bound.{Bound}
use Rattle.dt_watch.specs.Drift.{drift_over}

-- A CLOCK GOES ON: it is never set back
abbrev pub GoesOn : (ℕ → ℕ) → Type 0
GoesOn clock = (t u : ℕ) → t ≤ u → clock t ≤ clock u

-- TWO CLOCKS GO TOGETHER: their spans from one moment to another differ by the drift over that of the second one and by the grain, at most
pub record GoTogether (b : ClockBounds) (clock other : ℕ → ℕ) : Type 0 where
  pub onward : GoesOn clock
  pub other_onward : GoesOn other
  pub least : (t u : ℕ) → t ≤ u → other u + clock t ≤ clock u + other t + (drift_over b.drift (other u - other t) + b.grain)
  pub most : (t u : ℕ) → t ≤ u → clock u + other t ≤ other u + clock t + (drift_over b.drift (other u - other t) + b.grain)

-- A LOWER BOUND IS TRUE: when the other clock read `at`, this one had passed `reading`
pub record HadPassed (clock other : ℕ → ℕ) (e : Bound) : Type 0 where
  pub moment : ℕ
  pub at : other moment ≡ e.at.micros
  pub passed : e.reading.micros ≤ clock moment

-- AN UPPER BOUND IS TRUE: when the other clock read `at`, this one had not passed `reading`
pub record HadNotPassed (clock other : ℕ → ℕ) (e : Bound) : Type 0 where
  pub moment : ℕ
  pub at : other moment ≡ e.at.micros
  pub not_passed : clock moment ≤ e.reading.micros

-- A STAMP WAS HEARD: `reading` was read of the clock, and not before that its datagram was heard, when the other clock read `at`
pub record WasHeard (clock other : ℕ → ℕ) (e : Bound) : Type 0 where
  pub read_at : ℕ
  pub heard_at : ℕ
  pub order : read_at ≤ heard_at
  pub reading : clock read_at ≡ e.reading.micros
  pub at : other heard_at ≡ e.at.micros

-- A CLOCK KEEPS ITS RATE: over each span of the true time, in microseconds, it goes on by as much, but for so many parts in a million of it and for the steps in which it is read
pub record KeepsRate (drift step : ℕ) (clock : ℕ → ℕ) : Type 0 where
  pub onward : GoesOn clock
  pub fast : (t u : ℕ) → t ≤ u → 1000000 * (clock u - clock t) ≤ (1000000 + drift) * (u - t) + 1000000 * step
  pub slow : (t u : ℕ) → t ≤ u → (1000000 - drift) * (u - t) ≤ 1000000 * (clock u - clock t) + 1000000 * step
