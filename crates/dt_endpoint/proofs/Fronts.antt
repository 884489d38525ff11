-- What stands in front of a queue.
use Rattle.std.proofs.Common.{◌≡◌, ◌<◌, List, [], ◌∷◌, ◌++◌, drop, length, Option, Some, None, nat_lt, arith, refl, sym, ap}
use Rattle.std.specs.Prelude.{IsSome, is_some, option_map, option_to_list, slice_index_or, unwrap_or}
use Rattle.std.proofs.lemmas.Bool.{false≢true}

pub front_is : {R A : Type 0} (now : R → A) (r : Option R) (xs : List A) → is_some r ≡ nat_lt 0 (length xs) → (0 < length xs → IsSome r) → ((d : A) → unwrap_or (option_map now r) d ≡ slice_index_or xs 0 d) → xs ≡ option_to_list (option_map now r) ++ drop 1 xs
front_is now None [] e some h = refl
front_is now None (x ∷ xs) e some h = absurd (false≢true (some (omega arith)))
front_is now (Some y) [] e some h = absurd (false≢true (sym e))
front_is now (Some y) (x ∷ xs) e some h = ap (λ z. z ∷ xs) (sym (h (now y)))
