-- Numbers as octets: eight octets each, the highest first.
use Rattle.std.specs.Prelude.{ℕ, ◌+◌, ◌*◌, ◌==◌, min, Bool, List, [], ◌∷◌, ◌++◌, slice_index}
use Rattle.std.specs.Int.{w64, from_be_bytes, to_be_bytes}

-- the number in eight octets
abbrev pub eight : ℕ → List ℕ
eight n = to_be_bytes w64 n

-- THE SPELLING of numbers, one behind the other, after some octets
abbrev pub spell : List ℕ → List ℕ → List ℕ
spell octets [] = octets
spell octets (n ∷ ns) = spell (octets ++ eight n) ns

-- the number of this place, of numbers that stand one behind the other
abbrev pub octet_at : ℕ → List ℕ → ℕ
octet_at i octets = slice_index octets i

abbrev pub eight_at : ℕ → List ℕ → ℕ
eight_at i octets = from_be_bytes w64 (octet_at i octets ∷ octet_at (i + 1) octets ∷ octet_at (i + 2) octets ∷ octet_at (i + 3) octets ∷ octet_at (i + 4) octets ∷ octet_at (i + 5) octets ∷ octet_at (i + 6) octets ∷ octet_at (i + 7) octets ∷ [])

abbrev pub word_at : ℕ → List ℕ → ℕ
word_at place octets = eight_at (8 * place) octets

-- a number of 32 bits, at most the greatest one
abbrev pub small : ℕ → ℕ
small n = min n 4294967295
