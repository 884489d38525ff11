-- The text of octets in hexadecimal digits, as the crate `hex` states it.
use Rattle.std.proofs.Common.{◌≡◌, ℕ, zero, suc, ◌/◌, ◌%◌, ◌<◌, ◌^◌, List, [], ◌∷◌, false, refl, arith, get_or, Fits, w8}
use Rattle.std.specs.Prelude.{slice_index}
use Rattle.std.specs.Fmt.{digit_glyph}
use Rattle.hex.specs.Hex.{encode_lower, encode_with, lower_digits}
use Rattle.dt_log.specs.Words.{hex_text}

-- the digits of the crate's table
digit_at : (d : ℕ) → d < 16 → slice_index lower_digits d ≡ digit_glyph false d
digit_at zero h = refl
digit_at (suc zero) h = refl
digit_at (suc (suc zero)) h = refl
digit_at (suc (suc (suc zero))) h = refl
digit_at (suc (suc (suc (suc zero)))) h = refl
digit_at (suc (suc (suc (suc (suc zero))))) h = refl
digit_at (suc (suc (suc (suc (suc (suc zero)))))) h = refl
digit_at (suc (suc (suc (suc (suc (suc (suc zero))))))) h = refl
digit_at (suc (suc (suc (suc (suc (suc (suc (suc zero)))))))) h = refl
digit_at (suc (suc (suc (suc (suc (suc (suc (suc (suc zero))))))))) h = refl
digit_at (suc (suc (suc (suc (suc (suc (suc (suc (suc (suc zero)))))))))) h = refl
digit_at (suc (suc (suc (suc (suc (suc (suc (suc (suc (suc (suc zero))))))))))) h = refl
digit_at (suc (suc (suc (suc (suc (suc (suc (suc (suc (suc (suc (suc zero)))))))))))) h = refl
digit_at (suc (suc (suc (suc (suc (suc (suc (suc (suc (suc (suc (suc (suc zero))))))))))))) h = refl
digit_at (suc (suc (suc (suc (suc (suc (suc (suc (suc (suc (suc (suc (suc (suc zero)))))))))))))) h = refl
digit_at (suc (suc (suc (suc (suc (suc (suc (suc (suc (suc (suc (suc (suc (suc (suc zero))))))))))))))) h = refl
digit_at (suc (suc (suc (suc (suc (suc (suc (suc (suc (suc (suc (suc (suc (suc (suc (suc d)))))))))))))))) h = absurd (omega arith)

two_digits : {a b c d : ℕ} {xs ys : List ℕ} → a ≡ b → c ≡ d → xs ≡ ys → a ∷ c ∷ xs ≡ b ∷ d ∷ ys
two_digits e f g = cc

pub encode_lower_is : (octets : List ℕ) → ((i : ℕ) → Fits w8 (get_or octets i 0)) → encode_lower octets ≡ hex_text octets
unfolding encode_with
encode_lower_is [] h = refl
encode_lower_is (octet ∷ more) h =
    let octet_fits : octet < 2 ^ 8 = (h 0).fits in
    two_digits (digit_at (octet / 16) (omega arith)) (digit_at (octet % 16) (omega arith)) (encode_lower_is more (λ i. h (suc i)))
