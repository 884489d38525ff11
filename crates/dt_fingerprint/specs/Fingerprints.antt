-- The fingerprint of parameters.
use Rattle.std.specs.Prelude.{ℕ, List, [], ◌∷◌, ◌++◌}
use Rattle.std.specs.Int.{to_be_bytes, w32}
use Rattle.byteorder.specs.Endian.{big_number}
use Rattle.sha2.specs.Sha256.{sha256}
use Rattle.dt_units.specs.declared.parameters.Params.{Params}

-- octets with numbers after them, each written as four, the greatest first
unfoldable pub with_numbers : List ℕ → List ℕ → List ℕ
with_numbers octets [] = octets
with_numbers octets (n ∷ numbers) = with_numbers (octets ++ to_be_bytes w32 n) numbers

unfoldable pub digest_of : List ℕ → List ℕ
digest_of numbers = sha256 (with_numbers [] numbers)

-- the parameters in the order of their struct
abbrev pub numbers_of : Params → List ℕ
numbers_of p = p.mpl ∷ p.r ∷ p.a ∷ p.rto ∷ p.probe ∷ p.seg ∷ p.cap ∷ p.rcap ∷ p.window ∷ p.run_limit ∷ p.start ∷ []

-- the first eight octets of the digest, the greatest first
unfoldable pub fingerprint_of : Params → ℕ
fingerprint_of p = big_number 8 (digest_of (numbers_of p))
