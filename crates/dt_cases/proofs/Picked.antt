-- Where exactly one row passes a test, the first that passes is that row.
use Rattle.std.proofs.Common.{◌≡◌, Bool, true, false, cond, List, [], ◌∷◌, filter, find, length, count_by, Some, refl, ◌∙◌, arith}
use Rattle.std.proofs.lemmas.List.Sums.{length-filter}

-- a list of one
only : {X : Type 0} (xs : List X) → length xs ≡ 1 → (x : X) × (xs ≡ x ∷ [])
only [] h = absurd (cc)
only (x ∷ []) h = (x, refl)
only (x ∷ y ∷ ys) h = absurd (omega arith)

-- the first that passes is the first of those that pass
find_first : {X : Type 0} (p : X → Bool) (xs : List X) (y : X) (ys : List X) → filter p xs ≡ y ∷ ys → find p xs ≡ Some y
find_first p [] y ys h = cc
find_first p (x ∷ xs) y ys h =
    elim (p x) as (λ b. cond b (x ∷ filter p xs) (filter p xs) ≡ y ∷ ys → cond b (Some x) (find p xs) ≡ Some y) [
      | true ↦ λ e. cc
      | false ↦ λ e. find_first p xs y ys e
    ] h

pub one_found : {X : Type 0} (p : X → Bool) (xs : List X) → count_by p xs ≡ 1 → (x : X) × (find p xs ≡ Some x) × (filter p xs ≡ x ∷ [])
one_found p xs h =
    let one = only (filter p xs) (length-filter p xs ∙ h) in
    (one.0, find_first p xs one.0 [] one.1, one.1)
