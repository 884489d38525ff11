-- Counts of flows after a look-up was changed.
use Rattle.std.proofs.Common.{ℕ, zero, suc, ◌≡◌, ◌+◌, ◌-◌, ◌<◌, Bool, true, false, List, [], ◌∷◌, ◌++◌, Option, Some, None, cond, length, refl, sym, ap, subst, ◌∙◌, inl, inr, arith}
use Rattle.std.specs.Prelude.{count_by, filter, if◌then◌else◌, is_some, not}
use Rattle.std.specs.Option.{unwrap_or}
use Rattle.std.specs.Map.{lookup}
use Rattle.std.proofs.lemmas.Bool.{cases_Bool}
use Rattle.dt_units.specs.declared.endpoints.Flow.{Flow}
use Rattle.dt_world_model.specs.Tables.{look, same_flow}
use Rattle.dt_world_model.proofs.Maps.{equal_flows, flow_looked, flows_agree}
use Rattle.dt_world_model.proofs.Tables.{flow_is, flow_self}
use Rattle.dt_tokens.specs.Counts.{count_of}

pub looked_up : (es : List (Flow × ℕ)) (f : Flow) → unwrap_or (lookup (equal_flows f) es) 0 ≡ count_of es f
looked_up es f = ap (λ (o : Option ℕ). unwrap_or o 0) (flow_looked f es)

same_either : (f g : Flow) → same_flow f g ≡ same_flow g f
same_either f g = by (same_flow f g) (same_flow g f) refl refl
  where
    by : (a b : Bool) → same_flow f g ≡ a → same_flow g f ≡ b → a ≡ b
    by true true x y = refl
    by false false x y = refl
    by true false x y = sym (subst (λ (h : Flow). same_flow h f ≡ true) (flow_is f g x) (flow_self f)) ∙ y
    by false true x y = sym x ∙ subst (λ (h : Flow). same_flow h g ≡ true) (flow_is g f y) (flow_self g)

pub flows_same : (f g : Flow) → equal_flows f g ≡ same_flow f g
flows_same f g = flows_agree f g ∙ same_either g f

plus_zero : (n : ℕ) → n ≡ n + 0
plus_zero n = omega arith

less_zero : (n : ℕ) → n ≡ n - 0
less_zero n = omega arith

pub not_zero : (n : ℕ) → 0 ≡ n → 0 < n → ⊥
not_zero n e less = omega arith

-- the look-ups of a map after a change at a flow
abbrev pub Changed : Flow → Option ℕ → List (Flow × ℕ) → List (Flow × ℕ) → Type 0
Changed f o old new = (q : Flow) → lookup (equal_flows q) new ≡ cond (equal_flows f q) o (lookup (equal_flows q) old)

module _ (f : Flow) (o : Option ℕ) (old new : List (Flow × ℕ)) (changed : Changed f o old new) where
  pub here : (q : Flow) → same_flow f q ≡ true → count_of new q ≡ unwrap_or o 0
  here q y = sym (looked_up new q) ∙ ap (λ (p : Option ℕ). unwrap_or p 0) (changed q ∙ ap (λ (b : Bool). cond b o (lookup (equal_flows q) old)) (flows_same f q ∙ y))

  pub there : (q : Flow) → same_flow f q ≡ false → count_of new q ≡ count_of old q
  there q n = sym (looked_up new q) ∙ ap (λ (p : Option ℕ). unwrap_or p 0) (changed q ∙ ap (λ (b : Bool). cond b o (lookup (equal_flows q) old)) (flows_same f q ∙ n)) ∙ looked_up old q

  pub more_counted : o ≡ Some (count_of old f + 1) → (q : Flow) → count_of new q ≡ count_of old q + (if same_flow f q then 1 else 0)
  more_counted is q = elim (cases_Bool (same_flow f q)) [
    | inl y ↦ rw y (here q y ∙ ap (λ (p : Option ℕ). unwrap_or p 0) is ∙ ap (λ (g : Flow). count_of old g + 1) (flow_is f q y))
    | inr n ↦ rw n (there q n ∙ plus_zero (count_of old q))
  ]

  pub less_counted : unwrap_or o 0 ≡ count_of old f - 1 → (q : Flow) → count_of new q ≡ count_of old q - (if same_flow f q then 1 else 0)
  less_counted is q = elim (cases_Bool (same_flow f q)) [
    | inl y ↦ rw y (here q y ∙ is ∙ ap (λ (g : Flow). count_of old g - 1) (flow_is f q y))
    | inr n ↦ rw n (there q n ∙ less_zero (count_of old q))
  ]
