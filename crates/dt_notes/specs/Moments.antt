-- The moments of a world.
use Rattle.std.specs.Prelude.{ℕ, ◌^◌}

-- the greatest
abbrev pub most_now : ℕ
most_now = 2 ^ 61
