-- Moments, of which each may be none.
use Rattle.std.specs.Prelude.{ℕ, min, Option, Some, None}

-- the lesser of two moments
abbrev pub earlier : Option ℕ → Option ℕ → Option ℕ
earlier None n = n
earlier (Some m) None = Some m
earlier (Some m) (Some n) = Some (min m n)
