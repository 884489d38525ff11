-- How long a datagram may wait in this machine.
use Rattle.std.specs.Prelude.{ℕ, ◌+◌, Bool, Option, None, Some, false, nat_lt}

-- the longest wait, in nanoseconds: 20 ms
abbrev pub most_wait : ℕ
most_wait = 20000000

-- Whether a datagram may have waited longer, where its socket was last found empty at the first moment,
-- it came since, and the second moment is now. Both are in nanoseconds.
abbrev pub may_have_waited : ℕ → ℕ → Bool
may_have_waited empty now = nat_lt (empty + most_wait) now

-- whether the moment of a turn, if there is one, is longer past than 20 ms
abbrev pub is_late : Option ℕ → ℕ → Bool
is_late (Some read) now = may_have_waited read now
is_late None now = false
