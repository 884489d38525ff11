-- What a clock has surely not passed, over all that was seen.
use Rattle.std.specs.Prelude.{ℕ, List, [], ◌∷◌, Option, Some, None}
use Rattle.dt_watch.specs.declared.clock_bounds.ClockBounds.{ClockBounds}
use Rattle.dt_watch.specs.declared.readings.Bound.{Bound}
use Rattle.dt_watch.specs.declared.upper.Upper.{Upper}
use Rattle.dt_watch.specs.Clocks.{HadNotPassed}
use Rattle.dt_watch.specs.Lower.{turned}
use Rattle.dt_watch.specs.Upper.{kept_upper}

-- A RUN: bounds that were seen, and ends of spans, each of which is none
abbrev pub upper_by : Upper → List (Option Bound) → Upper
upper_by u [] = u
upper_by u (None ∷ seen) = upper_by (record u { present = None; former = turned u.present u.former }) seen
upper_by u (Some e ∷ seen) = upper_by (record u { present = kept_upper u.bounds u.present e }) seen

abbrev pub new_upper : ClockBounds → Upper
new_upper b = record { bounds = b; present = None; former = None }

-- each bound of a run is true
abbrev pub HadNonePassed : (ℕ → ℕ) → (ℕ → ℕ) → List (Option Bound) → Type 0
HadNonePassed clock other [] = Unit {0}
HadNonePassed clock other (None ∷ seen) = HadNonePassed clock other seen
HadNonePassed clock other (Some e ∷ seen) = HadNotPassed clock other e × HadNonePassed clock other seen
