-- Which datagrams are handed over, and which are dropped since they may have waited too long.
use Rattle.std.specs.Prelude.{ℕ, ◌≡◌, ◌∷◌, ◌++◌, All, List, false, length, min, take, true}
use Rattle.dt_machine.specs.Backlogs.{Waiting}
use Rattle.dt_machine.specs.Waits.{may_have_waited}
use Rattle.dt_machine.specs.declared.intakes.Found.{Found}

-- it may have waited longer than 20 ms by this moment, in nanoseconds
abbrev pub IsLate : ℕ → Waiting → Type 0
IsLate now w = may_have_waited w.empty now ≡ true

-- What was found is this datagram at the moment `now`, by which it can't have waited longer than 20 ms. Its octets, as
-- many as the buffer had room for, now are the first in it.
pub record IsFresh (now room : ℕ) (buf : List ℕ) (w : Waiting) (found : Found) : Type 0 where
  pub moment : found.moment ≡ now
  pub link : found.link ≡ w.link
  pub count : found.count ≡ min (length w.octets) room
  pub octets : take found.count buf ≡ take found.count w.octets
  pub soon : may_have_waited w.empty now ≡ false

-- of those that waited the first was handed over
pub record FirstIsFresh (now room : ℕ) (buf : List ℕ) (before after : List Waiting) (found : Found) : Type 0 where
  pub first : Waiting
  pub waited : before ≡ first ∷ after
  pub fresh : IsFresh now room buf first found

-- of those that waited the first was dropped
pub record FirstIsLate (now : ℕ) (before after : List Waiting) : Type 0 where
  pub first : Waiting
  pub waited : before ≡ first ∷ after
  pub late : IsLate now first

-- of those that waited the first ones were dropped, and the next one was handed over
pub record NextIsFresh (now room : ℕ) (buf : List ℕ) (before after : List Waiting) (found : Found) : Type 0 where
  pub dropped : List Waiting
  pub next : Waiting
  pub waited : before ≡ dropped ++ next ∷ after
  pub late : All (IsLate now) dropped
  pub fresh : IsFresh now room buf next found

-- of those that waited the first ones were dropped
pub record FirstAreLate (now : ℕ) (before after : List Waiting) : Type 0 where
  pub dropped : List Waiting
  pub waited : before ≡ dropped ++ after
  pub late : All (IsLate now) dropped
