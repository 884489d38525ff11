-- How far two clocks go apart.
use Rattle.std.proofs.Common.{◌≡◌, ◌+◌, ◌*◌, ◌≤◌, ℕ, arith}
use Rattle.std.proofs.Math.Nat.{mul-le-mul_right}
use Rattle.dt_watch.specs.Drift.{drift_over}

-- of clocks that drift by a thousandth at most, the spans differ by no more than a span
pub drift_within : (drift span : ℕ) → drift ≤ 1000 → drift_over drift span ≤ span
unfolding drift_over
drift_within drift span slow = let parts : 2 * drift * span ≤ 2000 * span = mul-le-mul_right span (omega arith) in omega (arith, parts)

-- over two spans in a row it is no more than over each
pub drift_joined : (drift x y : ℕ) → drift_over drift (x + y) ≤ drift_over drift x + drift_over drift y
unfolding drift_over
drift_joined drift x y = omega arith

-- and no less, but for what is rounded
pub drift_parted : (drift x y : ℕ) → drift_over drift x + drift_over drift y ≤ drift_over drift (x + y) + 1
unfolding drift_over
drift_parted drift x y = omega arith

pub drift_of_nothing : (drift : ℕ) → drift_over drift 0 ≡ 0
unfolding drift_over
drift_of_nothing drift = omega arith
