-- What is done in a list from left to right, from a place on, and over a run of places in which nothing changes.
use Rattle.std.proofs.Common.{ℕ, zero, suc, ◌+◌, ◌-◌, ◌≡◌, ◌<◌, ◌≤◌, Bool, true, false, List, [], ◌∷◌, length, map, set, get_or, drop, Option, Some, None, refl, ap, sym, subst, ◌∙◌, arith, add-one, cond}
use Rattle.std.specs.Prelude.{filter_map}
use Rattle.std.proofs.lemmas.List.{length-set}

-- A RUN of steps that change nothing changes nothing
pub unchanged_over : {A : Type 0} (F : ℕ → A) (n p : ℕ) → ((i : ℕ) → p ≤ i → i < p + n → F (i + 1) ≡ F i) → F (p + n) ≡ F p
unchanged_over F zero p each = ap F (omega arith)
unchanged_over F (suc n) p each =
    ap F (omega arith) ∙ each (p + n) (omega arith) (omega arith) ∙ unchanged_over F n p (λ i a b. each i a (omega arith))

module _ {A : Type 0} where
  -- the change is made from a place on
  abbrev pub on_rest : ℕ → (List A → List A) → List A → List A
  on_rest zero change xs = change xs
  on_rest (suc i) change [] = change []
  on_rest (suc i) change (x ∷ xs) = x ∷ on_rest i change xs

  pub rest_end : (change : List A → List A) → change [] ≡ [] → (i : ℕ) (xs : List A) → length xs ≤ i → on_rest i change xs ≡ xs
  rest_end change none zero [] le = none
  rest_end change none (suc i) [] le = none
  rest_end change none zero (x ∷ xs) le = absurd (omega arith)
  rest_end change none (suc i) (x ∷ xs) le = ap (λ (ys : List A). x ∷ ys) (rest_end change none i xs (omega arith))

  pub long_stepped : (xs after : List A) (i n : ℕ) (y : A) → length xs ≡ n → after ≡ set xs i y → length after ≡ n
  long_stepped xs after i n y long is = ap (λ (ys : List A). length ys) is ∙ length-set xs i y ∙ long

  -- EACH IS CHANGED by itself
  map_suc : (change : A → A) (j : ℕ) (xs : List A) (d : A) → j < length xs → on_rest (suc j) (map change) (set xs j (change (get_or xs j d))) ≡ on_rest j (map change) xs
  map_suc change j [] d lt = absurd (omega arith)
  map_suc change zero (x ∷ xs) d lt = refl
  map_suc change (suc j) (x ∷ xs) d lt = ap (λ (ys : List A). x ∷ ys) (map_suc change j xs d (omega arith))

  pub map_step : (change : A → A) (i : ℕ) (xs : List A) (d : A) → i < length xs → on_rest (i + 1) (map change) (set xs i (change (get_or xs i d))) ≡ on_rest i (map change) xs
  map_step change i xs d lt = subst (λ (k : ℕ). on_rest k (map change) (set xs i (change (get_or xs i d))) ≡ on_rest i (map change) xs) (sym (add-one i)) (map_suc change i xs d lt)

  pub map_stepped : (change : A → A) (i : ℕ) (xs after target : List A) (y d : A) → i < length xs → after ≡ set xs i y → y ≡ change (get_or xs i d) → on_rest i (map change) xs ≡ target → on_rest (i + 1) (map change) after ≡ target
  map_stepped change i xs after target y d lt after_is y_is so =
      subst (λ (ys : List A). on_rest (i + 1) (map change) ys ≡ target) (sym after_is)
      (subst (λ (x : A). on_rest (i + 1) (map change) (set xs i x) ≡ target) (sym y_is) (map_step change i xs d lt ∙ so))

  skip_suc : (change : A → A) (j : ℕ) (xs : List A) (d : A) → (j < length xs → change (get_or xs j d) ≡ get_or xs j d) → on_rest (suc j) (map change) xs ≡ on_rest j (map change) xs
  skip_suc change zero [] d same = refl
  skip_suc change (suc j) [] d same = refl
  skip_suc change zero (x ∷ xs) d same = ap (λ (y : A). y ∷ map change xs) (sym (same (omega arith)))
  skip_suc change (suc j) (x ∷ xs) d same = ap (λ (ys : List A). x ∷ ys) (skip_suc change j xs d (λ lt. same (omega arith)))

  pub map_skip : (change : A → A) (i : ℕ) (xs : List A) (d : A) → (i < length xs → change (get_or xs i d) ≡ get_or xs i d) → on_rest (i + 1) (map change) xs ≡ on_rest i (map change) xs
  map_skip change i xs d same = subst (λ (k : ℕ). on_rest k (map change) xs ≡ on_rest i (map change) xs) (sym (add-one i)) (skip_suc change i xs d same)

  module _ {B : Type 0} (seen : A → Option B) where
    past_suc : (j : ℕ) (xs : List A) (d : A) → (j < length xs → seen (get_or xs j d) ≡ None) → filter_map seen (drop (suc j) xs) ≡ filter_map seen (drop j xs)
    past_suc zero [] d none = refl
    past_suc (suc j) [] d none = refl
    past_suc zero (x ∷ xs) d none = rw (none (omega arith)) refl
    past_suc (suc j) (x ∷ xs) d none = past_suc j xs d (λ lt. none (omega arith))

    pub map_past : (i : ℕ) (xs : List A) (d : A) → (i < length xs → seen (get_or xs i d) ≡ None) → filter_map seen (drop (i + 1) xs) ≡ filter_map seen (drop i xs)
    map_past i xs d none = subst (λ (k : ℕ). filter_map seen (drop k xs) ≡ filter_map seen (drop i xs)) (sym (add-one i)) (past_suc i xs d none)
