-- Tokens that are the keys of a map, and how many each flow has.
use Rattle.std.proofs.Common.{ℕ, zero, suc, ◌≡◌, ◌+◌, ◌-◌, ◌<◌, ◌≤◌, ◌&&◌, ◌==◌, Bool, true, false, List, [], ◌∷◌, ◌++◌, Option, Some, None, cond, length, refl, sym, ap, subst, ◌∙◌, inl, inr, arith}
use Rattle.std.specs.Prelude.{count_by, filter, if◌then◌else◌, is_some, not}
use Rattle.std.specs.List.{list_any}
use Rattle.std.proofs.lemmas.Bool.{cases_Bool}
use Rattle.std.proofs.lemmas.List.Sums.{count_by-le-length, sum_by-cons, sum_by_push}
use Rattle.std.proofs.lemmas.Bool.Decides.{nat_tests}
use Rattle.dt_units.specs.declared.endpoints.Flow.{Flow}
use Rattle.dt_world_model.specs.Tables.{same_flow}
use Rattle.dt_world_model.proofs.Maps.{equal_flows}
use Rattle.dt_world_model.proofs.Tables.{flow_is, flow_self}
use Rattle.dt_service_model.specs.declared.names.Token.{Token}
use Rattle.dt_service_model.specs.Names.{same_token}
use Rattle.dt_service_model.specs.Whole.{without_token}
use Rattle.dt_tokens.specs.declared.tokens.Name.{Name}
use Rattle.dt_tokens.specs.Tokens.{AreCounted, name_of, of_flow, token_of, tokens_in}
use Rattle.dt_tokens.specs.Counts.{count_of}
use Rattle.dt_tokens.proofs.FlowCounts.{flows_same}

-- the equality of names as it is derived
abbrev pub equal_names : Name → Name → Bool
equal_names m n = equal_flows m.flow n.flow && ((m.life == n.life) && (m.count == n.count))

pub names_agree : (t : Token) (n : Name) → equal_names (name_of t) n ≡ same_token t (token_of n)
names_agree t n = ap (λ (b : Bool). b && ((t.number.life == n.life) && (t.number.count == n.count))) (flows_same t.flow n.flow)

of_cons : (f : Flow) (s : Token) (ts : List Token) → of_flow f (s ∷ ts) ≡ cond (same_flow s.flow f) 1 0 + of_flow f ts
of_cons f s ts = sum_by-cons (λ (x : Token). cond (same_flow x.flow f) 1 0) s ts

as_one : (b : Bool) → b ≡ true → cond {A = ℕ} b 1 0 ≡ 1
as_one b is = rw is refl

as_none : (b : Bool) → b ≡ false → cond {A = ℕ} b 1 0 ≡ 0
as_none b is = rw is refl

-- those of a flow are some of all
pub of_flow_within : (f : Flow) (ts : List Token) → of_flow f ts ≤ length ts
of_flow_within f ts = count_by-le-length (λ (x : Token). same_flow x.flow f) ts

-- a key stands for a token
pub as_many : (es : List (Name × Unit {0})) → length (tokens_in es) ≡ length es
as_many [] = refl
as_many (e ∷ es) = ap suc (as_many es)

pub tokens_behind : (es : List (Name × Unit {0})) (e : Name × Unit {0}) → tokens_in (es ++ e ∷ []) ≡ tokens_in es ++ token_of e.0 ∷ []
tokens_behind [] e = refl
tokens_behind (d ∷ es) e = ap (λ (l : List Token). token_of d.0 ∷ l) (tokens_behind es e)

module _ (t : Token) where
  abbrev is_its : Name × Unit {0} → Bool
  is_its e = equal_names (name_of t) e.0

  pub any_name : (es : List (Name × Unit {0})) → list_any is_its es ≡ list_any (same_token t) (tokens_in es)
  any_name [] = refl
  any_name (e ∷ es) = rw (names_agree t e.0, any_name es) refl

  pub names_kept : (es : List (Name × Unit {0})) → tokens_in (filter (λ (e : Name × Unit {0}). not (is_its e)) es) ≡ without_token t (tokens_in es)
  names_kept [] = refl
  names_kept (e ∷ es) = elim (cases_Bool (same_token t (token_of e.0))) [
    | inl y ↦ rw (names_agree t e.0, y) (names_kept es)
    | inr n ↦ rw (names_agree t e.0, n) (ap (λ (l : List Token). token_of e.0 ∷ l) (names_kept es))
  ]

  its_flow : (s : Token) → same_token t s ≡ true → t.flow ≡ s.flow
  its_flow s y = flow_is t.flow s.flow (first_is (same_flow t.flow s.flow) _ y)
    where
      first_is : (a b : Bool) → a && b ≡ true → a ≡ true
      first_is true b e = refl
      first_is false b e = e

  without_it : (s : Token) (ts : List Token) → same_token t s ≡ true → without_token t (s ∷ ts) ≡ without_token t ts
  without_it s ts y = rw y refl

  with_other : (s : Token) (ts : List Token) → same_token t s ≡ false → without_token t (s ∷ ts) ≡ s ∷ without_token t ts
  with_other s ts n = rw n refl

  fewer : (ts : List Token) → length (without_token t ts) ≤ length ts
  fewer [] = omega arith
  fewer (s ∷ ts) = elim (cases_Bool (same_token t s)) [
    | inl y ↦ omega (arith, fewer ts, ap (λ (l : List Token). length l) (without_it s ts y))
    | inr n ↦ omega (arith, fewer ts, ap (λ (l : List Token). length l) (with_other s ts n))
  ]

  -- of a flow there is one less for each that goes, where it is the token's
  module _ (f : Flow) where
    abbrev Kept : (b : Bool) → List Token → Type 0
    Kept b ts = of_flow f ts ≡ of_flow f (without_token t ts) + (if b then length ts - length (without_token t ts) else 0)

    kept_by : (b : Bool) → same_flow t.flow f ≡ b → (ts : List Token) → Kept b ts
    kept_by true own [] = refl
    kept_by false own [] = refl
    kept_by true own (s ∷ ts) = elim (cases_Bool (same_token t s)) [
      | inl y ↦
          let e = without_it s ts y in
          let one = as_one (same_flow s.flow f) (subst (λ (g : Flow). same_flow g f ≡ true) (its_flow s y) own) in
          omega (arith, kept_by true own ts, fewer ts, of_cons f s ts, one, ap (of_flow f) e, ap (λ (l : List Token). length l) e)
      | inr n ↦
          let e = with_other s ts n in
          omega (arith, kept_by true own ts, fewer ts, of_cons f s ts, of_cons f s (without_token t ts), ap (of_flow f) e, ap (λ (l : List Token). length l) e)
    ]
    kept_by false own (s ∷ ts) = elim (cases_Bool (same_token t s)) [
      | inl y ↦
          let e = without_it s ts y in
          let none = as_none (same_flow s.flow f) (subst (λ (g : Flow). same_flow g f ≡ false) (its_flow s y) own) in
          omega (arith, kept_by false own ts, of_cons f s ts, none, ap (of_flow f) e)
      | inr n ↦
          let e = with_other s ts n in
          omega (arith, kept_by false own ts, of_cons f s ts, of_cons f s (without_token t ts), ap (of_flow f) e)
    ]

    -- where one goes, and where none does
    counted_gone : (ts : List Token) → length (without_token t ts) + 1 ≡ length ts → of_flow f (without_token t ts) ≡ of_flow f ts - (if same_flow t.flow f then 1 else 0)
    counted_gone ts one = by (same_flow t.flow f) refl
      where
        by : (b : Bool) → same_flow t.flow f ≡ b → of_flow f (without_token t ts) ≡ of_flow f ts - (if b then 1 else 0)
        by true own = omega (arith, one, kept_by true own ts)
        by false own = omega (arith, kept_by false own ts)

    counted_same : (ts : List Token) → length (without_token t ts) ≡ length ts → of_flow f (without_token t ts) ≡ of_flow f ts
    counted_same ts none = by (same_flow t.flow f) refl
      where
        by : (b : Bool) → same_flow t.flow f ≡ b → of_flow f (without_token t ts) ≡ of_flow f ts
        by true own = omega (arith, none, kept_by true own ts)
        by false own = omega (arith, kept_by false own ts)

  -- WHAT A MAP'S REMOVE DID
  module _ (es new : List (Name × Unit {0})) (kept : new ≡ filter (λ (e : Name × Unit {0}). not (is_its e)) es) where
    pub gone : tokens_in new ≡ without_token t (tokens_in es)
    gone = ap tokens_in kept ∙ names_kept es

    module _ (b : Bool) (one : length new + (if b then 1 else 0) ≡ length es) where
      removed_one : b ≡ true → length (without_token t (tokens_in es)) + 1 ≡ length (tokens_in es)
      removed_one is =
          let is_one : length new + 1 ≡ length es = subst (λ (c : Bool). length new + (if c then 1 else 0) ≡ length es) is one in
          omega (arith, is_one, as_many new, as_many es, ap (λ (l : List Token). length l) gone)

      removed_none : b ≡ false → length (without_token t (tokens_in es)) ≡ length (tokens_in es)
      removed_none is =
          let is_none : length new + 0 ≡ length es = subst (λ (c : Bool). length new + (if c then 1 else 0) ≡ length es) is one in
          omega (arith, is_none, as_many new, as_many es, ap (λ (l : List Token). length l) gone)

      module _ (counts : List (Flow × ℕ)) (counted : AreCounted counts (tokens_in es)) where
        -- a name that was there is counted of its flow
        pub some_counted : b ≡ true → 0 < count_of counts t.flow
        some_counted is = omega (arith, counted t.flow, removed_one is, kept_by t.flow true (flow_self t.flow) (tokens_in es))

        pub still_counted : b ≡ false → AreCounted counts (tokens_in new)
        still_counted is = λ f. counted f ∙ sym (counted_same f (tokens_in es) (removed_none is)) ∙ sym (ap (of_flow f) gone)

        pub less_counted : b ≡ true → (after : List (Flow × ℕ)) → ((f : Flow) → count_of after f ≡ count_of counts f - (if same_flow t.flow f then 1 else 0)) → AreCounted after (tokens_in new)
        less_counted is after less = λ f.
            less f ∙ ap (λ (n : ℕ). n - (if same_flow t.flow f then 1 else 0)) (counted f)
            ∙ sym (counted_gone f (tokens_in es) (removed_one is)) ∙ sym (ap (of_flow f) gone)

  -- WHAT A MAP'S PUSH DID
  module _ (es : List (Name × Unit {0})) (counts after : List (Flow × ℕ)) (counted : AreCounted counts (tokens_in es)) where
    pub more_counted : ((f : Flow) → count_of after f ≡ count_of counts f + (if same_flow t.flow f then 1 else 0)) → AreCounted after (tokens_in es ++ t ∷ [])
    more_counted more = λ f. more f ∙ omega (arith, counted f, sum_by_push (λ (x : Token). cond (same_flow x.flow f) 1 0) (tokens_in es) t)

-- WHAT CAME LAST goes
pub same_self : (t : Token) → same_token t t ≡ true
same_self t = rw (flow_self t.flow, own t.number.life, own t.number.count) refl
  where
    own : (n : ℕ) → (n == n) ≡ true
    own n = grind (arith, nat_tests)

pub put_back : (t : Token) (ts : List Token) → list_any (same_token t) ts ≡ false → without_token t (ts ++ t ∷ []) ≡ ts
put_back t [] none = rw (same_self t) refl
put_back t (s ∷ ts) none = elim (cases_Bool (same_token t s)) [
  | inl y ↦ let off : true ≡ false = rw y at none in absurd (apart off)
  | inr n ↦ let rest : list_any (same_token t) ts ≡ false = rw n at none in rw n (ap (λ (l : List Token). s ∷ l) (put_back t ts rest))
]
  where
    apart : true ≡ false → ⊥
    apart e = cc
