-- Numbers that are written one by one.
use Rattle.std.proofs.Common.{◌≡◌, ◌+◌, ◌<◌, ◌++◌, ℕ, zero, suc, List, [], ◌∷◌, add-one, arith, length, refl, take}
use Rattle.std.specs.Prelude.{slice_index}
use Rattle.std.specs.Int.{to_be_bytes, w32}
use Rattle.dt_fingerprint.specs.Fingerprints.{with_numbers}

more : (octets : List ℕ) (n : ℕ) (xs : List ℕ) → n < length xs → with_numbers octets (take (suc n) xs) ≡ with_numbers octets (take n xs) ++ to_be_bytes w32 (slice_index xs n)
unfolding with_numbers
more octets n [] small = absurd (omega arith)
more octets zero (y ∷ ys) small = refl
more octets (suc n) (y ∷ ys) small = more (octets ++ to_be_bytes w32 y) n ys (omega (arith, small))

pub with_more : (n : ℕ) (xs : List ℕ) → n < length xs → with_numbers [] (take (n + 1) xs) ≡ with_numbers [] (take n xs) ++ to_be_bytes w32 (slice_index xs n)
with_more n xs small = rw add-one (more [] n xs small)
