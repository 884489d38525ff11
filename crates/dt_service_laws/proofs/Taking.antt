-- Where the first element that passes stands, and the list without it.
use Rattle.std.proofs.Common.{ℕ, suc, ◌+◌, ◌≡◌, ◌⊎◌, Bool, true, false, List, [], ◌∷◌, ◌++◌, length, Some, None, refl, ap, ◌∙◌, inl, inr, arith}
use Rattle.std.specs.Prelude.{cond, filter, nat_lt, not, slice_get}
use Rattle.std.specs.List.{position, position_or_len, remove}
use Rattle.std.proofs.lemmas.Bool.{cases_Bool}
use Rattle.std.proofs.lemmas.Bool.Decides.{nat_tests}
use Rattle.std.proofs.lemmas.List.{length-append}

-- A LIST by the first of its elements that passes
pub record NonePasses {X : Type 0} (p : X → Bool) (xs : List X) : Type 0 where
  pub none : filter p xs ≡ []
  pub place : position p xs ≡ None

pub record FirstPasses {X : Type 0} (p : X → Bool) (xs : List X) : Type 0 where
  pub front : List X
  pub x : X
  pub back : List X
  pub is : xs ≡ front ++ x ∷ back
  pub passes : p x ≡ true
  pub before : filter p front ≡ []
  pub place : position p xs ≡ Some (length front)

module _ {X : Type 0} (p : X → Bool) where
  record None' (xs : List X) : Type 0 where
    none : filter p xs ≡ []
    count : position_or_len p xs ≡ length xs

  record First (xs : List X) : Type 0 where
    front : List X
    x : X
    back : List X
    is : xs ≡ front ++ x ∷ back
    passes : p x ≡ true
    before : filter p front ≡ []
    count : position_or_len p xs ≡ length front

  parts : (xs : List X) → None' xs ⊎ First xs
  parts [] = inl (record { none = refl; count = refl })
  parts (x ∷ xs) =
      elim (cases_Bool (p x)) [
        | inl y ↦ inr (record { front = []; x = x; back = xs; is = refl; passes = y; before = refl; count = ap (λ (b : Bool). cond (not b) (1 + position_or_len p xs) 0) y })
        | inr o ↦
            let skip : position_or_len p (x ∷ xs) ≡ 1 + position_or_len p xs = ap (λ (b : Bool). cond (not b) (1 + position_or_len p xs) 0) o in
            elim (parts xs) [
              | inl l ↦ inl (record { none = ap (λ (b : Bool). cond b (x ∷ filter p xs) (filter p xs)) o ∙ l.none; count = (let c = l.count in omega (arith, skip, c)) })
              | inr r ↦ inr (record {
                front = x ∷ r.front;
                x = r.x;
                back = r.back;
                is = ap (λ (ys : List X). x ∷ ys) r.is;
                passes = r.passes;
                before = ap (λ (b : Bool). cond b (x ∷ filter p r.front) (filter p r.front)) o ∙ r.before;
                count = (let c = r.count in omega (arith, skip, c));
              })
            ]
      ]

  pub by_first : (xs : List X) → NonePasses p xs ⊎ FirstPasses p xs
  by_first xs =
      elim (parts xs) [
        | inl l ↦ inl (record { none = l.none; place = (let c = l.count in let no : nat_lt (position_or_len p xs) (length xs) ≡ false = grind (arith, nat_tests, c) in ap (λ (b : Bool). cond b (Some (position_or_len p xs)) None) no) })
        | inr r ↦ inr (record {
          front = r.front;
          x = r.x;
          back = r.back;
          is = r.is;
          passes = r.passes;
          before = r.before;
          place = (
              let c = r.count in
              let len : length xs ≡ length r.front + suc (length r.back) = ap length r.is ∙ length-append r.front (r.x ∷ r.back) in
              let yes : nat_lt (position_or_len p xs) (length xs) ≡ true = grind (arith, nat_tests, c, len) in
              ap (λ (b : Bool). cond b (Some (position_or_len p xs)) None) yes ∙ ap (λ (k : ℕ). Some k) c
              );
        })
      ]

  pub got : (front : List X) (x : X) (back : List X) → slice_get (front ++ x ∷ back) (length front) ≡ Some x
  got [] x back = refl
  got (y ∷ front) x back = got front x back

  pub removed : (front : List X) (x : X) (back : List X) → remove (front ++ x ∷ back) (length front) ≡ front ++ back
  removed [] x back = refl
  removed (y ∷ front) x back = ap (λ (ys : List X). y ∷ ys) (removed front x back)
