-- Entries from the last to the first: what is found among them, and what goes.
use Rattle.std.proofs.Common.{ℕ, zero, suc, ◌≡◌, ◌≤◌, ◌<◌, ◌-◌, ◌^◌, ◌||◌, Bool, true, false, List, [], ◌∷◌, ◌++◌, Option, Some, None, cond, length, take, refl, sym, ap, ◌∙◌, inl, inr, arith}
use Rattle.std.specs.Prelude.{◌+◌, if◌then◌else◌, is_some, filter, not, reverse}
use Rattle.std.specs.List.{IsDistinct, list_any}
use Rattle.std.specs.Cmp.{IsEquivalence}
use Rattle.std.specs.Map.{keys_of, lookup, lookup_entry, remove_entry}
use Rattle.std.proofs.lemmas.Bool.{cases_Bool}
use Rattle.lru.specs.LruCache.{LruCache, put_entries}
use mathlib.Core.List.{reverse_aux, reverse_aux-eq}
use Rattle.std.specs.List.{AllByRecursion}
use Rattle.std.specs.Option.{option_map_or}

-- the first of two that is there
abbrev first_of : {A : Type 0} → Option A → Option A → Option A
first_of None b = b
first_of (Some a) b = Some a

true_false : true ≡ false → ⊥
true_false e = cc

or_false : (b : Bool) → b || false ≡ b
or_false true = refl
or_false false = refl

module _ {K V : Type 0} (test : K → Bool) where
  abbrev passes : K × V → Bool
  passes e = test e.0

  abbrev fails : K × V → Bool
  fails e = not (test e.0)

  -- one entry passes at most
  abbrev Once : List (K × V) → Type 0
  Once [] = Unit {0}
  Once (e ∷ es) = (test e.0 ≡ true → lookup test es ≡ None) × Once es

  rest_none : (e : K × V) (es : List (K × V)) → lookup test (e ∷ es) ≡ None → (test e.0 ≡ false) × (lookup test es ≡ None)
  rest_none e es h = elim (cases_Bool (test e.0)) [ inl y ↦ let h' = rw y at h in absurd (some_none e.1 h') | inr n ↦ (n, rw n at h) ]
    where
      some_none : (v : V) → Some v ≡ None → ⊥
      some_none v e = cc

  none_removed : (es : List (K × V)) → lookup test es ≡ None → remove_entry test es ≡ es
  none_removed [] h = refl
  none_removed (e ∷ es) h = let r = rest_none e es h in rw r.0 (ap (λ (l : List (K × V)). e ∷ l) (none_removed es r.1))

  pub no_entry : (es : List (K × V)) → lookup test es ≡ None → lookup_entry test es ≡ None
  no_entry [] h = refl
  no_entry (e ∷ es) h = let r = rest_none e es h in rw r.0 (no_entry es r.1)

  any_onto : (es r : List (K × V)) → list_any passes (reverse_aux es r) ≡ is_some (lookup test es) || list_any passes r
  any_onto [] r = refl
  any_onto (e ∷ es) r = any_onto es (e ∷ r) ∙ by (lookup test es) (test e.0)
    where
      by : (o : Option V) (b : Bool) → is_some o || (b || list_any passes r) ≡ is_some (cond b (Some e.1) o) || list_any passes r
      by None true = refl
      by None false = refl
      by (Some v) true = refl
      by (Some v) false = refl

  pub any_reverse : (es : List (K × V)) → list_any passes (reverse es) ≡ is_some (lookup test es)
  any_reverse es = any_onto es [] ∙ or_false (is_some (lookup test es))

  pub none_there : (es : List (K × V)) → list_any passes (reverse es) ≡ false → lookup test es ≡ None
  none_there es h = by (lookup test es) (sym (any_reverse es) ∙ h)
    where
      by : (o : Option V) → is_some o ≡ false → o ≡ None
      by None e = refl
      by (Some v) e = absurd (true_false e)

  found_onto : (es r : List (K × V)) → Once es → lookup test (reverse_aux es r) ≡ first_of (lookup test es) (lookup test r)
  found_onto [] r once = refl
  found_onto (e ∷ es) r once = found_onto es (e ∷ r) once.1 ∙ elim (cases_Bool (test e.0)) [
    | inl y ↦ rw y (rw (once.0 y) refl)
    | inr n ↦ rw n refl
  ]

  first_none : (o : Option V) → first_of o None ≡ o
  first_none None = refl
  first_none (Some v) = refl

  pub found_reverse : (es : List (K × V)) → Once es → lookup test (reverse es) ≡ lookup test es
  found_reverse es once = found_onto es [] once ∙ first_none (lookup test es)

  kept_onto : (es r : List (K × V)) → Once es → filter fails (reverse_aux es r) ≡ reverse_aux (remove_entry test es) (filter fails r)
  kept_onto [] r once = refl
  kept_onto (e ∷ es) r once = kept_onto es (e ∷ r) once.1 ∙ elim (cases_Bool (test e.0)) [
    | inl y ↦ rw y (ap (λ (l : List (K × V)). reverse_aux l (filter fails r)) (none_removed es (once.0 y)))
    | inr n ↦ rw n refl
  ]

  pub kept_reverse : (es : List (K × V)) → Once es → reverse (remove_entry test es) ≡ filter fails (reverse es)
  kept_reverse es once = sym (kept_onto es [] once)

  -- where one goes there is one less
  pub one_less : (es : List (K × V)) → length (remove_entry test es) + (if is_some (lookup test es) then 1 else 0) ≡ length es
  one_less [] = refl
  one_less (e ∷ es) = let r = one_less es in elim (cases_Bool (test e.0)) [
    | inl y ↦ rw y (omega arith)
    | inr n ↦ rw n (omega arith)
  ]

-- DISTINCT KEYS: one equal to a key at most
module _ {K V : Type 0} (eq : K → K → Bool) (laws : IsEquivalence eq) (k : K) where
  pub once_of : (es : List (K × V)) → IsDistinct eq (keys_of es) → Once (eq k) es
  unfolding IsDistinct
  once_of [] d = tt
  once_of (e ∷ es) d = (λ y. none es y d.0, once_of es d.1)
    where
      apart : (x y : K) → eq k x ≡ true → eq x y ≡ false → eq k y ≡ false
      apart x y is off = laws.congr k x y is ∙ off

      none : (fs : List (K × V)) → eq k e.0 ≡ true → AllByRecursion (λ y. eq e.0 y ≡ false) (keys_of fs) → lookup (eq k) fs ≡ None
      none [] y a = refl
      none (f ∷ fs) y a = rw (apart e.0 f.0 y a.0) (none fs y a.1)

module _ {A : Type 0} where
  taken_whole : (n : ℕ) (xs : List A) → length xs ≤ n → take n xs ≡ xs
  taken_whole zero [] le = refl
  taken_whole (suc n) [] le = refl
  taken_whole zero (x ∷ xs) le = absurd (omega arith)
  taken_whole (suc n) (x ∷ xs) le = ap (λ (l : List A). x ∷ l) (taken_whole n xs (omega arith))

-- AN ENTRY COMES
module _ {K V : Type 0} (eq : K → K → Bool) (c : LruCache K V) (k : K) (v : V) where
  pub pushed_reverse : list_any (λ (e : K × V). eq k e.0) (reverse c.entries) ≡ false → c.cap ≡ 2 ^ 64 - 1 → length c.entries < 2 ^ 63
      → reverse (put_entries eq c k v) ≡ reverse c.entries ++ (k, v) ∷ []
  pushed_reverse none cap less =
      ap (λ (o : Option (K × V)). reverse (option_map_or (λ e. (e.0, v) ∷ remove_entry (eq k) c.entries) o ((k, v) ∷ take (c.cap - 1) c.entries))) (no_entry (eq k) c.entries (none_there (eq k) c.entries none))
      ∙ ap (λ (l : List (K × V)). reverse ((k, v) ∷ l)) (taken_whole (c.cap - 1) c.entries (rw cap (omega (arith, less))))
      ∙ reverse_aux-eq c.entries ((k, v) ∷ [])
