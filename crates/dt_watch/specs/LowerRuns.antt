-- What a clock has surely passed, over all that was seen.
use Rattle.std.specs.Prelude.{ℕ, ◌≤◌, List, [], ◌∷◌, Option, Some, None}
use Rattle.dt_watch.specs.declared.clock_bounds.ClockBounds.{ClockBounds}
use Rattle.dt_watch.specs.declared.readings.Bound.{Bound}
use Rattle.dt_watch.specs.declared.lower.Lower.{Lower}
use Rattle.dt_watch.specs.Clocks.{HadPassed, WasHeard}
use Rattle.dt_watch.specs.Lower.{kept_lower, turned}

-- bounds come in the order of the other clock, from one reading of it to another
abbrev pub InOrder : ℕ → ℕ → List Bound → Type 0
InOrder from now [] = from ≤ now
InOrder from now (e ∷ es) = (from ≤ e.at.micros) × InOrder e.at.micros now es

-- A RUN: bounds that were seen, and ends of spans, each of which is none
abbrev pub lower_by : Lower → List (Option Bound) → Lower
lower_by l [] = l
lower_by l (None ∷ seen) = lower_by (record l { present = None; former = turned l.present l.former }) seen
lower_by l (Some e ∷ seen) = lower_by (record l { present = kept_lower l.bounds l.present e }) seen

abbrev pub new_lower : ClockBounds → Lower
new_lower b = record { bounds = b; present = None; former = None }

-- each bound of a run is a stamp that was heard
abbrev pub WereHeard : (ℕ → ℕ) → (ℕ → ℕ) → List (Option Bound) → Type 0
WereHeard clock other [] = Unit {0}
WereHeard clock other (None ∷ seen) = WereHeard clock other seen
WereHeard clock other (Some e ∷ seen) = WasHeard clock other e × WereHeard clock other seen

-- each bound of a run is true
abbrev pub HadAllPassed : (ℕ → ℕ) → (ℕ → ℕ) → List (Option Bound) → Type 0
HadAllPassed clock other [] = Unit {0}
HadAllPassed clock other (None ∷ seen) = HadAllPassed clock other seen
HadAllPassed clock other (Some e ∷ seen) = HadPassed clock other e × HadAllPassed clock other seen
