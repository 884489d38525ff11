-- A moment or none, in the place of one number.
use Rattle.std.specs.Prelude.{ℕ, ◌==◌, if◌then◌else◌, Option, Some, None}

-- the greatest number means none
abbrev pub moment_in : ℕ → Option ℕ
moment_in milliseconds = if milliseconds == 18446744073709551615 then None else Some milliseconds
