-- What is said of entries by their keys is said of the keys.
use Rattle.std.proofs.Common.{ℕ, ◌≡◌, Bool, true, false, List, [], ◌∷◌, ◌++◌, cond, map, refl, sym, ap, ◌∙◌, inl, inr}
use Rattle.std.specs.Prelude.{filter, not}
use Rattle.std.specs.List.{list_any}
use Rattle.std.proofs.lemmas.Bool.{cases_Bool}
use Rattle.dt_tokens.specs.Keys.{keys_in}

module _ {K V : Type 0} where
  pub keys_behind : (es : List (K × V)) (e : K × V) → keys_in (es ++ e ∷ []) ≡ keys_in es ++ e.0 ∷ []
  keys_behind [] e = refl
  keys_behind (d ∷ es) e = ap (λ (l : List K). d.0 ∷ l) (keys_behind es e)

  module _ (p q : K → Bool) (agree : (k : K) → p k ≡ q k) where
    pub any_key : (es : List (K × V)) → list_any (λ (e : K × V). p e.0) es ≡ list_any q (keys_in es)
    any_key [] = refl
    any_key (e ∷ es) = rw (agree e.0, any_key es) refl

    pub keys_kept : (es : List (K × V)) → keys_in (filter (λ (e : K × V). not (p e.0)) es) ≡ filter (λ (k : K). not (q k)) (keys_in es)
    keys_kept [] = refl
    keys_kept (e ∷ es) = elim (cases_Bool (q e.0)) [
      | inl y ↦ rw (agree e.0, y) (keys_kept es)
      | inr n ↦ rw (agree e.0, n) (ap (λ (l : List K). e.0 ∷ l) (keys_kept es))
    ]
