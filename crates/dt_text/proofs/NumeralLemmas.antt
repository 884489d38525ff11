-- A number read digit by digit from the left.
use Rattle.std.proofs.Common.{◌≡◌, ℕ, ◌+◌, ◌-◌, ◌*◌, ◌^◌, ◌<◌, ◌≤◌, Bool, true, false, ◌&&◌, cond, nat_le, List, [], ◌∷◌, Option, Some, None, MatchOption, IsTrue, refl, sym, ap, ◌∙◌, arith, inl, inr}
use Rattle.std.specs.Bool.{then_some}
use Rattle.std.specs.Option.{SomeIff}
use Rattle.std.specs.Char.{digit_value, is_ascii_digit}
use Rattle.std.specs.Str.{all_ascii_digits}
use Rattle.std.specs.Str.Parse.{digits_value_after}
use Rattle.std.proofs.lemmas.Bool.{cases_Bool, cases_lt}
use Rattle.std.proofs.lemmas.Bool.Decides.{nat_tests}
use Rattle.dt_text.specs.Numerals.{digits_number}

-- the number that digits make after a value so far, if they do
pub number_on : ℕ → ℕ → List ℕ → Option ℕ
number_on most value digits = cond (all_ascii_digits digits && nat_le (digits_value_after 10 value digits) most) (Some (digits_value_after 10 value digits)) None

abbrev pub Fits : ℕ → ℕ → Type 0
Fits value digit = IsTrue (is_ascii_digit digit) × (value * 10 + (digit - 48) < 2 ^ 64)

digit_value-digit : (digit : ℕ) → is_ascii_digit digit ≡ true → digit_value digit ≡ digit - 48
digit_value-digit digit h = grind (arith, nat_tests)

value_after_ge : (value : ℕ) (digits : List ℕ) → value ≤ digits_value_after 10 value digits
value_after_ge value [] = omega arith
value_after_ge value (digit ∷ digits) = omega (arith, value_after_ge (value * 10 + digit_value digit) digits)

-- one digit, or a digit that is none
by_digit : (most value digit : ℕ) (digits : List ℕ) (b : Bool) → is_ascii_digit digit ≡ b → number_on most value (digit ∷ digits) ≡ cond b (number_on most (value * 10 + (digit - 48)) digits) None
unfolding number_on
by_digit most value digit digits false h = ap (λ b. cond ((b && all_ascii_digits digits) && nat_le (digits_value_after 10 value (digit ∷ digits)) most) (Some (digits_value_after 10 value (digit ∷ digits))) None) h
by_digit most value digit digits true h =
    ap (λ b. cond ((b && all_ascii_digits digits) && nat_le (digits_value_after 10 value (digit ∷ digits)) most) (Some (digits_value_after 10 value (digit ∷ digits))) None) h
    ∙ ap (λ d. cond (all_ascii_digits digits && nat_le (digits_value_after 10 (value * 10 + d) digits) most) (Some (digits_value_after 10 (value * 10 + d) digits)) None) (digit_value-digit digit h)

too_great : (most value digit : ℕ) → most < 2 ^ 64 → is_ascii_digit digit ≡ true → ¬ Fits value digit → most < value * 10 + (digit - 48)
too_great most value digit small is h = elim (cases_lt most (value * 10 + (digit - 48))) [ inl lt ↦ lt | inr le ↦ absurd (h (is, omega arith)) ]

-- what is above most already has no number
above : (most value : ℕ) (digits : List ℕ) → most < value → number_on most value digits ≡ None
unfolding number_on
above most value digits h = let rest = value_after_ge value digits in grind (arith, nat_tests)

pub number_on-end : (most value : ℕ) → number_on most value [] ≡ cond (nat_le value most) (Some value) None
unfolding number_on
number_on-end most value = refl

pub number_on-step : (most value digit : ℕ) (digits : List ℕ) (r : Option ℕ) → most < 2 ^ 64 → SomeIff r (Fits value digit) (value * 10 + (digit - 48))
    → MatchOption r (number_on most value (digit ∷ digits) ≡ None) (λ next. number_on most value (digit ∷ digits) ≡ number_on most next digits)
number_on-step most value digit digits None small h =
    elim (cases_Bool (is_ascii_digit digit)) [
      | inl is ↦ by_digit most value digit digits true is ∙ above most (value * 10 + (digit - 48)) digits (too_great most value digit small is h)
      | inr other ↦ by_digit most value digit digits false other
    ]
number_on-step most value digit digits (Some next) small h =
    by_digit most value digit digits true h.0.0 ∙ ap (λ n. number_on most n digits) (sym h.1)

-- digits alone make what they make after 0
pub digits_number-is : (most : ℕ) (digits : List ℕ) → digits_number most digits ≡ number_on most 0 digits
unfolding digits_number number_on
digits_number-is most digits = refl

pub then_some-is : (b : Bool) (n : ℕ) → then_some b n ≡ cond b (Some n) None
then_some-is true n = refl
then_some-is false n = refl
