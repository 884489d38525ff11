-- How old a datagram is at most.
use Rattle.std.specs.Prelude.{ℕ, ◌+◌, ◌-◌, ◌/◌, ◌^◌, ◌≤◌, min}

-- by the receiver's clock: from the reading that it had surely passed to the one at which the datagram came
abbrev pub age_of : ℕ → ℕ → ℕ → ℕ
age_of came sure uncertain = came - sure + uncertain

-- milliseconds of so many microseconds, rounded up
abbrev pub millis : ℕ → ℕ
millis micros = (micros + 999) / 1000

-- what is told beside the charge, 2^32 - 1 at most
abbrev pub waited_of : ℕ → ℕ → ℕ
waited_of age charge = min (millis age + 1 - charge) (2 ^ 32 - 1)

-- A DATAGRAM: `sure` had passed when it was made, and it came not before
pub record IsMade (clock : ℕ → ℕ) (sure made came : ℕ) : Type 0 where
  pub passed : sure ≤ clock made
  pub order : made ≤ came
