-- The octets that pairs of hexadecimal digits spell, pair by pair from the left.
use Rattle.std.proofs.Common.{◌≡◌, ℕ, suc, zero, ◌+◌, ◌*◌, ◌<◌, List, [], ◌∷◌, ◌++◌, length, take, set, get_or, refl, sym, ap, ◌∙◌, arith}
use Rattle.std.proofs.Math.Numerals.{add-one}
use Rattle.std.proofs.Math.Seq.{take-suc-set}
use Rattle.std.specs.Char.{digit_value}
use Rattle.dt_text.specs.Hexadecimal.{octets_of_hex}

-- the octet of the pair that stands at a place
abbrev pub octet_at : List ℕ → ℕ → ℕ
octet_at hex place = 16 * digit_value (get_or hex place 0) + digit_value (get_or hex (suc place) 0)

twice : ℕ → ℕ
twice zero = zero
twice (suc n) = suc (suc (twice n))

twice-is : (n : ℕ) → twice n ≡ 2 * n
unfolding twice
twice-is zero = refl
twice-is (suc n) = let rest = twice-is n in omega arith

next : (i : ℕ) (hex : List ℕ) → suc (twice i) < length hex → octets_of_hex (take (suc (suc (twice i))) hex) ≡ octets_of_hex (take (twice i) hex) ++ octet_at hex (twice i) ∷ []
unfolding twice
next zero [] h = absurd (omega arith)
next zero (high ∷ []) h = absurd (omega arith)
next zero (high ∷ low ∷ more) h = refl
next (suc i) [] h = absurd (omega arith)
next (suc i) (high ∷ []) h = absurd (omega arith)
next (suc i) (high ∷ low ∷ more) h = ap (λ rest. (16 * digit_value high + digit_value low) ∷ rest) (next i more (omega arith))

-- one pair more gives one octet more
pub octets_of_hex-next : (i : ℕ) (hex octets : List ℕ) (high low : ℕ) → 2 * i + 1 < length hex → i < length octets
    → high ≡ digit_value (get_or hex (2 * i) 0) → low ≡ digit_value (get_or hex (2 * i + 1) 0)
    → take i octets ≡ octets_of_hex (take (2 * i) hex) → take (i + 1) (set octets i (16 * high + low)) ≡ octets_of_hex (take (2 * (i + 1)) hex)
octets_of_hex-next i hex octets high low inside room high-is low-is so_far =
    let place = twice-is i in
    let after : suc (suc (twice i)) ≡ 2 * (i + 1) = omega arith in
    let second : 2 * i + 1 ≡ suc (twice i) = omega arith in
    let octet : 16 * high + low ≡ octet_at hex (twice i) = omega (arith, high-is, low-is, ap (λ n. digit_value (get_or hex n 0)) place, ap (λ n. digit_value (get_or hex n 0)) second) in
    ap (λ n. take n (set octets i (16 * high + low))) (add-one i)
    ∙ take-suc-set octets i (16 * high + low) room
    ∙ ap (λ front. front ++ (16 * high + low) ∷ []) so_far
    ∙ ap (λ octet. octets_of_hex (take (2 * i) hex) ++ octet ∷ []) octet
    ∙ ap (λ n. octets_of_hex (take n hex) ++ octet_at hex (twice i) ∷ []) (sym place)
    ∙ sym (next i hex (omega arith))
    ∙ ap (λ n. octets_of_hex (take n hex)) after
