-- Counts of calls and of faults, and which calls are meant to fail.
use Rattle.std.specs.Prelude.{ℕ, ◌+◌, ◌-◌, ◌^◌, ◌≤◌, ◌≡◌, ◌==◌, min, Bool, List, Result, Ok, Err}
use Rattle.std.specs.List.{list_any}

-- The greatest value of a count, at which it stands still.
abbrev pub last_count : ℕ
last_count = 2 ^ 64 - 1

-- the next value of a count
abbrev pub next_count : ℕ → ℕ
next_count n = min (n + 1) last_count

-- a number as a count has it
abbrev pub as_count : ℕ → ℕ
as_count n = min n last_count

-- The count rose. One that stands at its greatest value is taken as risen.
abbrev pub HasRisen : ℕ → ℕ → Type 0
HasRisen before after = next_count before ≤ after

-- A count of faults over a call: it rises where the call fails, and else stays.
abbrev pub CountsFaults : {T E : Type 0} → Result T E → ℕ → ℕ → Type 0
CountsFaults (Ok _) before after = after ≡ before
CountsFaults (Err _) before after = HasRisen before after

-- A count of faults that a call raises by one where it fails, and else leaves.
abbrev pub CountsOne : {T E : Type 0} → Result T E → ℕ → ℕ → Type 0
CountsOne (Ok _) before after = after ≡ before
CountsOne (Err _) before after = after ≡ next_count before

-- whether the call of this number is among those that fail
abbrev pub is_planned : List ℕ → ℕ → Bool
is_planned failing call = list_any (λ number. number == call) failing
