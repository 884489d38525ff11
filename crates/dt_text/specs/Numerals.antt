-- Numbers as words: decimal digits, without a leading zero unless the number is 0.
use Rattle.std.specs.Prelude.{ℕ, Bool, false, ◌&&◌, ◌||◌, not, List, [], ◌∷◌, length, Option, Some, None, if◌then◌else◌, ◌==◌, nat_le}
use Rattle.std.specs.Str.{all_ascii_digits}
use Rattle.std.specs.Str.Parse.{digits_value}

-- the number from 0 to most that decimal digits make, if they do
unfoldable pub digits_number : ℕ → List ℕ → Option ℕ
digits_number most digits = if all_ascii_digits digits && nat_le (digits_value 10 digits) most then Some (digits_value 10 digits) else None

-- the first digit isn't 0, or it is the only one
abbrev pub begins_well : List ℕ → Bool
begins_well [] = false
begins_well (first ∷ more) = not (first == 48) || (length more == 0)

-- the number from 0 to most that a word is, if it is one
unfoldable pub numeral : ℕ → List ℕ → Option ℕ
numeral most word = if begins_well word then digits_number most word else None
