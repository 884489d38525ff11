-- Octets and the hexadecimal digits that spell them.
use Rattle.std.proofs.Common.{◌≡◌, ℕ, ◌+◌, ◌*◌, ◌/◌, ◌%◌, ◌<◌, ◌≤◌, Bool, true, false, ◌&&◌, eqb, List, [], ◌∷◌, length, map, refl, ap, ◌∙◌, arith}
use Rattle.std.specs.Fmt.{digit_glyph}
use Rattle.std.specs.Char.{digit_value, is_ascii_hexdigit, to_ascii_lowercase}
use Rattle.std.specs.List.{list_all, AllByRecursion}
use Rattle.std.proofs.lemmas.Bool.{eqb-true}
use Rattle.std.proofs.lemmas.Bool.Decides.{nat_tests}
use Rattle.dt_text.specs.Hexadecimal.{octets_of_hex, are_pairs, is_hex}
use Rattle.dt_log.specs.Words.{hex_text}

both : (a b : Bool) → (a && b) ≡ true → (a ≡ true) × (b ≡ true)
both true b h = (refl, h)
both false b h = cc

glyph-value : (digit : ℕ) → digit < 16 → digit_value (digit_glyph false digit) ≡ digit
glyph-value digit h = grind (arith, nat_tests)

glyph-hexdigit : (digit : ℕ) → digit < 16 → is_ascii_hexdigit (digit_glyph false digit) ≡ true
glyph-hexdigit digit h = grind (arith, nat_tests)

hexdigit-value : (digit : ℕ) → is_ascii_hexdigit digit ≡ true → digit_value digit < 16
hexdigit-value digit h = grind (arith, nat_tests)

hexdigit-glyph : (digit : ℕ) → is_ascii_hexdigit digit ≡ true → digit_glyph false (digit_value digit) ≡ to_ascii_lowercase digit
hexdigit-glyph digit h = grind (arith, nat_tests)

pub octets_of_hex-hex_text : (octets : List ℕ) → AllByRecursion (λ octet. octet < 256) octets → octets_of_hex (hex_text octets) ≡ octets
octets_of_hex-hex_text [] h = refl
octets_of_hex-hex_text (octet ∷ octets) h =
    let high = glyph-value (octet / 16) (omega (arith, h.0)) in
    let low = glyph-value (octet % 16) (omega arith) in
    let one : 16 * digit_value (digit_glyph false (octet / 16)) + digit_value (digit_glyph false (octet % 16)) ≡ octet = omega (arith, high, low) in
    ap (λ n. n ∷ octets_of_hex (hex_text octets)) one ∙ ap (λ rest. octet ∷ rest) (octets_of_hex-hex_text octets h.1)

length-hex_text : (octets : List ℕ) → length (hex_text octets) ≡ 2 * length octets
length-hex_text [] = refl
length-hex_text (octet ∷ octets) = omega (arith, length-hex_text octets)

digits-hex_text : (octets : List ℕ) → AllByRecursion (λ octet. octet < 256) octets → list_all is_ascii_hexdigit (hex_text octets) ≡ true
digits-hex_text [] h = refl
digits-hex_text (octet ∷ octets) h =
    ap (λ b. b && (is_ascii_hexdigit (digit_glyph false (octet % 16)) && list_all is_ascii_hexdigit (hex_text octets))) (glyph-hexdigit (octet / 16) (omega (arith, h.0)))
    ∙ ap (λ b. b && list_all is_ascii_hexdigit (hex_text octets)) (glyph-hexdigit (octet % 16) (omega arith))
    ∙ digits-hex_text octets h.1

pub is_hex-hex_text : (most : ℕ) (octets : List ℕ) → AllByRecursion (λ octet. octet < 256) octets → 0 < length octets → length octets ≤ most → is_hex most (hex_text octets) ≡ true
is_hex-hex_text most octets h some within =
    let len = length-hex_text octets in
    let digits = digits-hex_text octets h in
    let even : length (hex_text octets) % 2 ≡ 0 = omega arith in
    grind (arith, nat_tests)

pub hex_text-octets_of_hex : (hex : List ℕ) → length hex % 2 ≡ 0 → list_all is_ascii_hexdigit hex ≡ true → hex_text (octets_of_hex hex) ≡ map to_ascii_lowercase hex
hex_text-octets_of_hex [] even digits = refl
hex_text-octets_of_hex (digit ∷ []) even digits = absurd (omega arith)
hex_text-octets_of_hex (high ∷ low ∷ more) even digits =
    let first = both (is_ascii_hexdigit high) (is_ascii_hexdigit low && list_all is_ascii_hexdigit more) digits in
    let second = both (is_ascii_hexdigit low) (list_all is_ascii_hexdigit more) first.1 in
    let small = hexdigit-value low second.0 in
    let front : (16 * digit_value high + digit_value low) / 16 ≡ digit_value high = omega arith in
    let back : (16 * digit_value high + digit_value low) % 16 ≡ digit_value low = omega arith in
    ap (λ d. digit_glyph false d ∷ digit_glyph false ((16 * digit_value high + digit_value low) % 16) ∷ hex_text (octets_of_hex more)) front
    ∙ ap (λ d. digit_glyph false (digit_value high) ∷ digit_glyph false d ∷ hex_text (octets_of_hex more)) back
    ∙ ap (λ d. d ∷ digit_glyph false (digit_value low) ∷ hex_text (octets_of_hex more)) (hexdigit-glyph high first.0)
    ∙ ap (λ d. to_ascii_lowercase high ∷ d ∷ hex_text (octets_of_hex more)) (hexdigit-glyph low second.0)
    ∙ ap (λ rest. to_ascii_lowercase high ∷ to_ascii_lowercase low ∷ rest) (hex_text-octets_of_hex more (omega arith) second.1)

pub hex_text-pairs : (hex : List ℕ) → are_pairs hex ≡ true → hex_text (octets_of_hex hex) ≡ map to_ascii_lowercase hex
hex_text-pairs hex h =
    let tests = both (eqb (length hex % 2) 0) (list_all is_ascii_hexdigit hex) h in
    hex_text-octets_of_hex hex (eqb-true (length hex % 2) 0 tests.0) tests.1
