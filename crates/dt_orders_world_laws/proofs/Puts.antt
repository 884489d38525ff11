-- Tables that are put, and lists.
use Rattle.std.proofs.Common.{◌≡◌, ◌≢◌, ◌∙◌, ℕ, Bool, true, false, ap, sym, subst, arith, refl}
use Rattle.std.specs.Prelude.{◌==◌, if◌then◌else◌, Option, Some, None}
use Rattle.std.proofs.lemmas.Bool.Decides.{nat_tests}
use Rattle.dt_orders_model.specs.declared.lanes.Attempt.{Attempt}
use Rattle.dt_orders_model.specs.Lanes.{is_same_attempt}
use Rattle.dt_orders_world_laws.specs.Clients.{put_at}

-- what holds of what is put, and of each other place, holds at each place
pub at_put_at : {A : Type 0} (P : ℕ → A → Type 0) (f : ℕ → A) (here : ℕ) (x : A) → P here x → ((l : ℕ) → l ≢ here → P l (f l)) → (l : ℕ) → P l (put_at f here x l)
at_put_at P f here x one rest l = by (l == here) refl
  where
    by : (t : Bool) → (l == here) ≡ t → P l (if t then x else f l)
    by true e = let is : l ≡ here = grind (arith, nat_tests) in subst (λ (n : ℕ). P n x) (sym is) one
    by false e = let other : l ≢ here = grind (arith, nat_tests) in rest l other

-- and of each place as it was, too
pub at_put : {A : Type 0} (P : ℕ → A → Type 0) (f : ℕ → A) (here : ℕ) (x : A) → P here x → ((l : ℕ) → P l (f l)) → (l : ℕ) → P l (put_at f here x l)
at_put P f here x one rest l = at_put_at P f here x one (λ n other. rest n) l

pub put_here : {A : Type 0} (f : ℕ → A) (here : ℕ) (x : A) → put_at f here x here ≡ x
put_here {A = A} f here x = let is : (here == here) ≡ true = grind (arith, nat_tests) in ap (λ (b : Bool). if b then x else f here) is

pub some_is : {A : Type 0} (a b : A) → Some a ≡ Some b → a ≡ b
some_is {A = A} a b e = ap (λ (o : Option A). get o) e
  where
    get : Option A → A
    get None = a
    get (Some x) = x

abbrev IsNone : {A : Type 0} → Option A → Type 0
IsNone None = Unit {0}
IsNone (Some x) = ⊥

pub none_is : {A : Type 0} (a : A) → None ≡ Some a → ⊥
none_is {A = A} a e = subst (λ (o : Option A). IsNone o) e tt

-- attempts that are the same
pub attempt_is : (a b : Attempt) → is_same_attempt a b ≡ true → a ≡ b
attempt_is a b h =
    let n : a.nonce ≡ b.nonce = grind (arith, nat_tests) in
    let c : a.count ≡ b.count = grind (arith, nat_tests) in
    ap (λ (x : ℕ). record { nonce = x; count = a.count }) n ∙ ap (λ (x : ℕ). record { nonce = b.nonce; count = x }) c

pub apart : {b : Bool} → b ≡ true → b ≡ false → ⊥
apart x y = cc
