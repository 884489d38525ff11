-- How many lines an input has.
use Rattle.std.proofs.Common.{◌≤◌, ℕ, suc, ◌==◌, List, [], ◌∷◌, inl, inr, length, arith}
use Rattle.std.proofs.lemmas.Bool.{cases_Bool}
use Rattle.dt_text.specs.InputLines.{in_front, lines_of}

in_front_count : (octet : ℕ) (lines : List (List ℕ)) → length (in_front octet lines) ≤ suc (length lines)
in_front_count octet [] = omega arith
in_front_count octet (line ∷ lines) = omega arith

-- there are no more lines than octets
pub lines_count : (octets : List ℕ) → length (lines_of octets) ≤ length octets
lines_count [] = omega arith
lines_count (octet ∷ octets) =
    let rest = lines_count octets in
    elim (cases_Bool (octet == 10)) [ inl y ↦ rw y (omega (arith, rest)) | inr n ↦ rw n (let one = in_front_count octet (lines_of octets) in omega (arith, rest, one)) ]
