-- How old a datagram is at most.
use Rattle.std.proofs.Common.{◌+◌, ◌*◌, ◌≤◌, ◌<◌, ◌^◌, ℕ, arith}
use Rattle.std.specs.Prelude.{◌-◌, ◌/◌}
use Rattle.dt_watch.specs.Ages.{IsMade, age_of, waited_of}

pub no_older : (clock : ℕ → ℕ) (sure made came uncertain : ℕ) → IsMade clock sure made came → clock came - clock made ≤ age_of (clock came) sure uncertain
no_older clock sure made came uncertain is = omega (arith, is.passed)

pub charge_and_wait : (age charge : ℕ) → waited_of age charge < 2 ^ 32 - 1 → age + 1000 ≤ 1000 * (charge + waited_of age charge)
charge_and_wait age charge fits = omega arith

pub in_millis : (clock : ℕ → ℕ) (sure made came uncertain charge : ℕ) → IsMade clock sure made came → waited_of (age_of (clock came) sure uncertain) charge < 2 ^ 32 - 1 → clock came / 1000 - clock made / 1000 ≤ charge + waited_of (age_of (clock came) sure uncertain) charge
in_millis clock sure made came uncertain charge is fits =
    let older = no_older clock sure made came uncertain is in
    let paid = charge_and_wait (age_of (clock came) sure uncertain) charge fits in
    omega (arith, older, paid)
