-- A number has one spelling.
use Rattle.std.proofs.Common.{◌≡◌, ℕ, ◌^◌, ◌<◌, ◌≤◌, Bool, true, false, ◌&&◌, cond, nat_le, List, [], ◌∷◌, Option, Some, None, length, get_or, refl, sym, ap, ◌∙◌, arith, inl, inr}
use Rattle.std.specs.Fmt.{decimal}
use Rattle.std.specs.Str.{all_ascii_digits}
use Rattle.std.specs.Str.Parse.{digits_value}
use Rattle.std.proofs.lemmas.Bool.{cases_lt, cases_eq, le-leb, leb-true}
use Rattle.std.proofs.lemmas.Bool.Decides.{nat_tests}
use Rattle.std.proofs.lemmas.Fmt.{decimal_is_IsNumeral, decimal_digit, first_decimal, decimal-digits_value}
use Rattle.std.proofs.lemmas.Str.Parse.{IsNumeralModel, numerals_by_value, tells_all_ascii_digits}
use Rattle.dt_text.specs.Numerals.{numeral, digits_number, begins_well}

own : IsNumeralModel (λ ds. all_ascii_digits ds ≡ true) (digits_value 10)
own = numerals_by_value (λ ds. all_ascii_digits ds ≡ true) tells_all_ascii_digits

-- the first digit isn't 0, or it is the only one
BeginsWell : List ℕ → Type 0
BeginsWell digits = (0 < length digits) × (get_or digits 0 0 ≡ 48 → length digits ≡ 1)

begins_well-from : (digits : List ℕ) → BeginsWell digits → begins_well digits ≡ true
unfolding BeginsWell
begins_well-from [] h = absurd (omega (arith, h.0))
begins_well-from (first ∷ more) h =
    elim (cases_eq first 48) [
      | inl is ↦ let alone = h.1 is in let none : length more ≡ 0 = omega arith in grind (arith, nat_tests)
      | inr other ↦ grind (arith, nat_tests)
    ]

begins_well-to : (digits : List ℕ) → begins_well digits ≡ true → BeginsWell digits
unfolding BeginsWell
begins_well-to [] h = cc
begins_well-to (first ∷ more) h = (omega arith, λ is. grind (arith, nat_tests))

decimal-begins_well : (n : ℕ) → n < 2 ^ 64 → BeginsWell (decimal n)
unfolding BeginsWell
decimal-begins_well n small =
    elim (cases_lt n 10) [
      | inl digit ↦ (omega (arith, (decimal_is_IsNumeral n small).0.0), λ _. ap length (decimal_digit n digit))
      | inr more ↦ (omega (arith, (decimal_is_IsNumeral n small).0.0), λ is. absurd (omega (arith, first_decimal n (omega arith) small)))
    ]

pub numeral-decimal : (most n : ℕ) → most < 2 ^ 64 → n ≤ most → numeral most (decimal n) ≡ Some n
unfolding numeral digits_number
numeral-decimal most n small within =
    let numeral = decimal_is_IsNumeral n (omega arith) in
    let begins = begins_well-from (decimal n) (decimal-begins_well n (omega arith)) in
    let digits : all_ascii_digits (decimal n) ≡ true = own.from (decimal n) numeral.0.1 in
    ap (λ b. cond b (digits_number most (decimal n)) None) begins
    ∙ ap (λ b. cond (b && nat_le (digits_value 10 (decimal n)) most) (Some (digits_value 10 (decimal n))) None) digits
    ∙ ap (λ value. cond (nat_le value most) (Some value) None) numeral.1
    ∙ ap (λ b. cond b (Some n) None) (le-leb n most within)

both : (a b : Bool) → (a && b) ≡ true → (a ≡ true) × (b ≡ true)
both true b h = (refl, h)
both false b h = cc

-- what was found after a test passed it
found : (b : Bool) (r : Option ℕ) (n : ℕ) → cond b r None ≡ Some n → (b ≡ true) × (r ≡ Some n)
found true r n h = (refl, h)
found false r n h = cc

pub numeral-only : (most n : ℕ) (word : List ℕ) → most < 2 ^ 64 → numeral most word ≡ Some n → (word ≡ decimal n) × (n ≤ most)
unfolding numeral digits_number BeginsWell
numeral-only most n word small h =
    let outer = found (begins_well word) (digits_number most word) n h in
    let inner = found (all_ascii_digits word && nat_le (digits_value 10 word) most) (Some (digits_value 10 word)) n outer.1 in
    let tests = both (all_ascii_digits word) (nat_le (digits_value 10 word) most) inner.0 in
    let begins = begins_well-to word outer.0 in
    let is : digits_value 10 word ≡ n = cc in
    let within : digits_value 10 word ≤ most = leb-true (digits_value 10 word) most tests.1 in
    let spelled = decimal-digits_value own word tests.0 begins.0 begins.1 (omega arith) in
    (sym spelled ∙ ap decimal is, omega arith)
