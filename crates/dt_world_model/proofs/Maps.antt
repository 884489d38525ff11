-- The entries of a map are a table. A map tests the key that is asked for against an entry's, a table an entry's against the one that is asked for.
use Rattle.std.proofs.Common.{ℕ, ◌≡◌, ◌∙◌, ◌==◌, Bool, true, false, List, [], ◌∷◌, Option, Some, None, is_some, refl, sym, ap, inl, inr, arith}
use Rattle.std.specs.Prelude.{◌&&◌, if◌then◌else◌, unwrap_or}
use Rattle.std.specs.List.{AllByRecursion, IsDistinct}
use Rattle.std.specs.Map.{keys_of, lookup, set_value}
use Rattle.std.proofs.lemmas.Bool.{cases_Bool}
use Rattle.std.proofs.lemmas.Bool.Decides.{nat_tests}
use Rattle.dt_units.specs.declared.endpoints.Flow.{Flow}
use Rattle.dt_world_model.specs.Tables.{Distinct, Lacks, look, same_flow, write}
use Rattle.dt_world_model.proofs.Tables.{flow_is, flow_self}

-- A TABLE BY A TEST is a map by another that says the same the other way round
module _ {K A : Type 0} (equal same : K → K → Bool) (agree : (j k : K) → equal j k ≡ same k j) (is : (j k : K) → same j k ≡ true → j ≡ k) where
  module _ (k : K) where
    pub looked : (es : List (K × A)) → lookup (equal k) es ≡ look same k es
    looked [] = refl
    looked (e ∷ es) =
        elim (cases_Bool (same e.0 k)) [
          | inl y ↦ let t : equal k e.0 ≡ true = agree k e.0 ∙ y in rw (y, t) refl
          | inr n ↦ let t : equal k e.0 ≡ false = agree k e.0 ∙ n in rw (n, t) (looked es)
        ]

    pub written : (a b : A) (es : List (K × A)) → lookup (equal k) es ≡ Some b → set_value (equal k) es a ≡ write same k a es
    written a b [] h = absurd cc
    written a b (e ∷ es) h =
        elim (cases_Bool (same e.0 k)) [
          | inl y ↦ let t : equal k e.0 ≡ true = agree k e.0 ∙ y in rw (y, t) (ap (λ (j : K). (j, a) ∷ es) (is e.0 k y))
          | inr n ↦
              let t : equal k e.0 ≡ false = agree k e.0 ∙ n in
              let rest : lookup (equal k) es ≡ Some b = rw t at h in
              rw (n, t) (ap (λ (r : List (K × A)). e ∷ r) (written a b es rest))
        ]

    -- any function that computes as a map's insertion does
    module _ (insert : List (K × A) → K → A → List (K × A)) (none : (a : A) → insert [] k a ≡ (k, a) ∷ []) (one : (a : A) (e : K × A) (es : List (K × A)) → insert (e ∷ es) k a ≡ (if equal k e.0 then (e.0, a) ∷ es else e ∷ insert es k a)) where
      pub inserted : (a : A) (es : List (K × A)) → insert es k a ≡ write same k a es
      inserted a [] = none a
      inserted a (e ∷ es) =
          one a e es
          ∙ elim (cases_Bool (same e.0 k)) [
            | inl y ↦ let t : equal k e.0 ≡ true = agree k e.0 ∙ y in rw (y, t) (ap (λ (j : K). (j, a) ∷ es) (is e.0 k y))
            | inr n ↦ let t : equal k e.0 ≡ false = agree k e.0 ∙ n in rw (n, t) (ap (λ (r : List (K × A)). e ∷ r) (inserted a es))
          ]

    lacks : (es : List (K × A)) → AllByRecursion (λ j. equal k j ≡ false) (keys_of es) → Lacks same k es
    lacks [] h = tt
    lacks (e ∷ es) h = (sym (agree k e.0) ∙ h.0, lacks es h.1)

    -- what stands under the key is written again
    pub stays : (a : A) (es : List (K × A)) → look same k es ≡ Some a → write same k a es ≡ es
    stays a [] h = absurd cc
    stays a (e ∷ es) h =
        elim (cases_Bool (same e.0 k)) [
          | inl y ↦
              let found : Some e.1 ≡ Some a = rw y at h in
              let value : e.1 ≡ a = cc in
              rw y (ap (λ (j : K). (j, a) ∷ es) (sym (is e.0 k y)) ∙ ap (λ (b : A). (e.0, b) ∷ es) (sym value))
          | inr n ↦ let rest : look same k es ≡ Some a = rw n at h in rw n (ap (λ (r : List (K × A)). e ∷ r) (stays a es rest))
        ]

  -- keys that are distinct to the map are so to the table
  pub distinct : (es : List (K × A)) → IsDistinct equal (keys_of es) → Distinct same es
  unfolding IsDistinct
  distinct [] h = tt
  distinct (e ∷ es) h = (lacks e.0 es h.0, distinct es h.1)

-- FLOWS: their equality as it is derived
abbrev pub equal_flows : Flow → Flow → Bool
equal_flows f g = (f.from.0 == g.from.0) && ((f.from_port == g.from_port) && ((f.to.0 == g.to.0) && (f.to_port == g.to_port)))

either_way : (m n : ℕ) → (m == n) ≡ (n == m)
either_way m n = grind (arith, nat_tests)

regrouped : (a b c d : Bool) → (a && (b && (c && d))) ≡ (((a && b) && c) && d)
regrouped true true c d = refl
regrouped true false c d = refl
regrouped false b c d = refl

pub flows_agree : (f g : Flow) → equal_flows f g ≡ same_flow g f
flows_agree f g = rw (either_way f.from.0 g.from.0, either_way f.from_port g.from_port, either_way f.to.0 g.to.0, either_way f.to_port g.to_port) (regrouped (g.from.0 == f.from.0) (g.from_port == f.from_port) (g.to.0 == f.to.0) (g.to_port == f.to_port))

module _ {A : Type 0} where
  pub flows_distinct : (es : List (Flow × A)) → IsDistinct equal_flows (keys_of es) → Distinct same_flow es
  flows_distinct es h = distinct equal_flows same_flow flows_agree flow_is es h

  module _ (f : Flow) where
    pub flow_looked : (es : List (Flow × A)) → lookup (equal_flows f) es ≡ look same_flow f es
    flow_looked es = looked equal_flows same_flow flows_agree flow_is f es

    pub flow_written : (a b : A) (es : List (Flow × A)) → lookup (equal_flows f) es ≡ Some b → set_value (equal_flows f) es a ≡ write same_flow f a es
    flow_written a b es h = written equal_flows same_flow flows_agree flow_is f a b es h

    pub flow_stays : (a : A) (es : List (Flow × A)) → look same_flow f es ≡ Some a → write same_flow f a es ≡ es
    flow_stays a es h = stays equal_flows same_flow flows_agree flow_is f a es h

    module _ (insert : List (Flow × A) → Flow → A → List (Flow × A)) (none : (a : A) → insert [] f a ≡ (f, a) ∷ []) (one : (a : A) (e : Flow × A) (es : List (Flow × A)) → insert (e ∷ es) f a ≡ (if equal_flows f e.0 then (e.0, a) ∷ es else e ∷ insert es f a)) where
      pub flow_inserted : (a : A) (es : List (Flow × A)) → insert es f a ≡ write same_flow f a es
      flow_inserted a es = inserted equal_flows same_flow flows_agree flow_is f insert none one a es

    -- one that is there stands as it stood
    pub flow_there : (d : A) (es : List (Flow × A)) → is_some (look same_flow f es) ≡ true → es ≡ write same_flow f (unwrap_or (look same_flow f es) d) es
    flow_there d es h = by (look same_flow f es) refl h
      where
        by : (found : Option A) → look same_flow f es ≡ found → is_some found ≡ true → es ≡ write same_flow f (unwrap_or found d) es
        by None e k = absurd cc
        by (Some a) e k = sym (flow_stays a es e)

    -- what is written twice stands as it was written last
    pub flow_again : (a b : A) (es : List (Flow × A)) → write same_flow f b (write same_flow f a es) ≡ write same_flow f b es
    flow_again a b [] = rw (flow_self f) refl
    flow_again a b (e ∷ es) =
        elim (cases_Bool (same_flow e.0 f)) [
          | inl y ↦ rw (y, flow_self f) refl
          | inr n ↦ rw (n, n) (ap (λ (r : List (Flow × A)). e ∷ r) (flow_again a b es))
        ]

    -- where the map finds nothing there is nothing
    pub flow_absent : (es : List (Flow × A)) → false ≡ is_some (lookup (equal_flows f) es) → look same_flow f es ≡ None
    flow_absent es e = by (look same_flow f es) (sym (ap is_some (flow_looked es)) ∙ sym e)
      where
        by : (found : Option A) → is_some found ≡ false → found ≡ None
        by None h = refl
        by (Some a) h = absurd cc

    pub flow_not_found : {P : Type 0} (es : List (Flow × A)) → is_some (look same_flow f es) ≡ true → lookup (equal_flows f) es ≡ None → P
    flow_not_found es there none = absurd (let t : is_some (lookup (equal_flows f) es) ≡ true = ap is_some (flow_looked es) ∙ there in let n = ap is_some none in cc)
