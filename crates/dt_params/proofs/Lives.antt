-- The life that a packet needs grows with the life that it has.
use Rattle.std.proofs.Common.{◌≡◌, ◌≤◌, ◌<◌, ◌+◌, ◌*◌, ◌⊎◌, inl, inr, ℕ, arith}
use Rattle.std.proofs.Math.Nat.{mul-le-mul_left}
use Rattle.std.proofs.lemmas.Bool.{cases_lt}
use Rattle.dt_params.specs.declared.networks.Network.{Network}
use Rattle.dt_params.specs.Networks.{ceil, charge_of, life_of, spacing_of}

charge_grows : (n : Network) (m k : ℕ) → m ≤ k → charge_of n m ≤ charge_of n k
charge_grows n m k more =
    let drift : 2 * n.drift * spacing_of n m ≤ 2 * n.drift * spacing_of n k = mul-le-mul_left (2 * n.drift) (omega (arith, more)) in omega (arith, drift)

life_grows : (n : Network) (m k : ℕ) → m ≤ k → life_of n m ≤ life_of n k
life_grows n m k more =
    let charge = charge_grows n m k more in
    let path : n.hops * (charge_of n m + n.wait + 1) ≤ n.hops * (charge_of n k + n.wait + 1) = mul-le-mul_left n.hops (omega (arith, charge)) in omega (arith, path)

-- no life is long enough that is below mpl, and none is then that is below what is needed of mpl
pub short : (n : Network) (mpl : ℕ) → ((m : ℕ) → 2 ≤ m → m < mpl → m < life_of n m) → (m : ℕ) → 2 ≤ m → m < life_of n mpl → m < life_of n m
short n mpl before m some below = from (cases_lt m mpl) where
  from : (m < mpl) ⊎ (mpl ≤ m) → m < life_of n m
  from (inl less) = before m some less
  from (inr more) = let grows = life_grows n mpl m more in omega (arith, grows, below)
