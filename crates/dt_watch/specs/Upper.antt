-- What a clock has surely not passed.
use Rattle.std.specs.Prelude.{ℕ, ◌+◌, ◌-◌, ◌&&◌, Bool, min, nat_le, nat_lt, if◌then◌else◌, List, [], ◌∷◌, Option, Some, None}
use Rattle.dt_watch.specs.declared.clock_bounds.ClockBounds.{ClockBounds}
use Rattle.dt_watch.specs.declared.readings.Bound.{Bound}
use Rattle.dt_watch.specs.declared.upper.Upper.{Upper}
use Rattle.dt_watch.specs.Drift.{drift_over}

-- A BOUND LATER: its clock goes on with the other one, and the drift since beside it
abbrev pub aged_up : ClockBounds → Bound → ℕ → ℕ
aged_up b e now = e.reading.micros + (now - e.at.micros) + drift_over b.drift (now - e.at.micros)

-- what its clock has surely not passed then; before its own reading it says nothing
abbrev pub not_passed_by : ClockBounds → Bound → ℕ → Option ℕ
not_passed_by b e now = if nat_le e.at.micros now then Some (aged_up b e now + b.grain) else None

abbrev pub not_passed : ClockBounds → Option Bound → ℕ → Option ℕ
not_passed b None now = None
not_passed b (Some e) now = not_passed_by b e now

abbrev pub least_of : Option ℕ → Option ℕ → Option ℕ
least_of None other = other
least_of (Some one) None = Some one
least_of (Some one) (Some other) = Some (min one other)

-- the least that any of these bounds says
abbrev pub least_passed : ClockBounds → List Bound → ℕ → Option ℕ
least_passed b [] now = None
least_passed b (e ∷ es) now = least_of (not_passed_by b e now) (least_passed b es now)

-- THE RULE: of a span one bound is kept. A later one takes its place where it is below it, as it has aged.
abbrev pub is_lower : ClockBounds → Bound → Bound → Bool
is_lower b kept e = nat_le kept.at.micros e.at.micros && nat_lt e.reading.micros (aged_up b kept e.at.micros)

abbrev pub kept_upper : ClockBounds → Option Bound → Bound → Option Bound
kept_upper b None e = Some e
kept_upper b (Some kept) e = if is_lower b kept e then Some e else Some kept

-- WHAT THE CLOCK HAS SURELY NOT PASSED, by this span and the one before
abbrev pub upper_at : Upper → ℕ → Option ℕ
upper_at u now = least_of (not_passed u.bounds u.present now) (not_passed u.bounds u.former now)
