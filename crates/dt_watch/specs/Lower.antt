-- What a clock has surely passed.
use Rattle.std.specs.Prelude.{ℕ, ◌+◌, ◌-◌, ◌&&◌, Bool, max, nat_le, nat_lt, if◌then◌else◌, List, [], ◌∷◌, Option, Some, None}
use Rattle.dt_watch.specs.declared.clock_bounds.ClockBounds.{ClockBounds}
use Rattle.dt_watch.specs.declared.readings.Bound.{Bound}
use Rattle.dt_watch.specs.declared.lower.Lower.{Lower}
use Rattle.dt_watch.specs.Drift.{drift_over}

-- A BOUND LATER: its clock goes on with the other one, less the drift since
abbrev pub aged_down : ClockBounds → Bound → ℕ → ℕ
aged_down b e now = e.reading.micros + (now - e.at.micros - drift_over b.drift (now - e.at.micros))

-- what its clock has surely passed then; before its own reading it says nothing, and each clock has passed 0
abbrev pub passed_by : ClockBounds → Bound → ℕ → ℕ
passed_by b e now = if nat_lt now e.at.micros then 0 else aged_down b e now - b.grain

abbrev pub passed : ClockBounds → Option Bound → ℕ → ℕ
passed b None now = 0
passed b (Some e) now = passed_by b e now

-- the most that any of these bounds says
abbrev pub most_passed : ClockBounds → List Bound → ℕ → ℕ
most_passed b [] now = 0
most_passed b (e ∷ es) now = max (passed_by b e now) (most_passed b es now)

-- THE RULE: of a span one bound is kept. A later one takes its place where it is above it, as it has aged.
abbrev pub is_higher : ClockBounds → Bound → Bound → Bool
is_higher b kept e = nat_le kept.at.micros e.at.micros && nat_lt (aged_down b kept e.at.micros) e.reading.micros

abbrev pub kept_lower : ClockBounds → Option Bound → Bound → Option Bound
kept_lower b None e = Some e
kept_lower b (Some kept) e = if is_higher b kept e then Some e else Some kept

abbrev pub kept_of : ClockBounds → Option Bound → List Bound → Option Bound
kept_of b kept [] = kept
kept_of b kept (e ∷ es) = kept_of b (kept_lower b kept e) es

-- a span ends
abbrev pub turned : Option Bound → Option Bound → Option Bound
turned None former = former
turned (Some kept) former = Some kept

-- WHAT THE CLOCK HAS SURELY PASSED, by this span and the one before
abbrev pub lower_at : Lower → ℕ → ℕ
lower_at l now = max (passed l.bounds l.present now) (passed l.bounds l.former now)

-- A BOUND SOONER: before its own reading its clock went on with the other one, and the drift of that span more
abbrev pub before_by : ClockBounds → Bound → ℕ → ℕ
before_by b e before = e.reading.micros - (e.at.micros - before + (drift_over b.drift (e.at.micros - before) + b.grain))

abbrev pub around_by : ClockBounds → Bound → ℕ → ℕ
around_by b e now = if nat_lt now e.at.micros then before_by b e now else passed_by b e now

abbrev pub around : ClockBounds → Option Bound → ℕ → ℕ
around b None now = 0
around b (Some e) now = around_by b e now

-- WHAT THE CLOCK HAD SURELY PASSED then, at a reading before or after what was seen
abbrev pub lower_around : Lower → ℕ → ℕ
lower_around l now = max (around l.bounds l.present now) (around l.bounds l.former now)
