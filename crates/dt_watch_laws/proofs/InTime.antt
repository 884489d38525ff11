-- From the age of a datagram to the time for which its frame was under way.
use Rattle.std.proofs.Common.{arith, ◌≡◌, ℕ, ◌+◌, ◌-◌, ◌≤◌}

pub under_way : (began put ahead came made now most : ℕ) → now ≡ began + ahead → made ≤ put + ahead → came ≡ now → came - made ≤ most → began - put ≤ most
under_way began put ahead came made now most clock before told age = omega (arith, clock, before, told, age)
