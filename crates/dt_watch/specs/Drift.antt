-- How far two clocks go apart.
use Rattle.std.specs.Prelude.{ℕ, ◌+◌, ◌*◌, ◌/◌}

-- parts in a million of something, rounded up
abbrev pub millionths : ℕ → ℕ
millionths parts = (parts + 999999) / 1000000

-- by how much the spans of two clocks differ where each drifts by so many parts in a million
unfoldable pub drift_over : ℕ → ℕ → ℕ
drift_over drift span = millionths (2 * drift * span)
