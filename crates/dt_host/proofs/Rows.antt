-- The earliest of the moments that members of a list have.
use Rattle.std.proofs.Common.{ℕ, zero, suc, ◌≡◌, ◌≤◌, List, [], ◌∷◌, Option, Some, None, refl, ap, ◌∙◌, arith}
use Rattle.dt_units.specs.Moments.{earlier}
use Rattle.dt_world_model.specs.Tables.{earliest}
use Rattle.dt_table.specs.Firsts.{HasNone, IsFirstIn, moment_in}

module _ {A : Type 0} (moment : A → Option ℕ) where
  pub none_earliest : (xs : List A) → HasNone moment xs → earliest moment xs ≡ None
  none_earliest [] none = refl
  none_earliest (x ∷ xs) none = ap (λ (o : Option ℕ). earlier o (earliest moment xs)) (own (moment x) (none 0)) ∙ none_earliest xs (λ j m e. none (suc j) m e)
    where
      own : (o : Option ℕ) → ((m : ℕ) → o ≡ Some m → ⊥) → o ≡ None
      own None h = refl
      own (Some m) h = absurd (h m refl)

  abbrev IsNotBelow : ℕ → Option ℕ → Type 0
  IsNotBelow m None = Unit {0}
  IsNotBelow m (Some n) = m ≤ n

  not_below : (m : ℕ) (o : Option ℕ) → ((n : ℕ) → o ≡ Some n → m ≤ n) → IsNotBelow m o
  not_below m None h = tt
  not_below m (Some n) h = h n refl

  earlier_not_below : (m : ℕ) (a b : Option ℕ) → IsNotBelow m a → IsNotBelow m b → IsNotBelow m (earlier a b)
  earlier_not_below m None b h k = k
  earlier_not_below m (Some n) None h k = h
  earlier_not_below m (Some n) (Some i) h k = omega arith

  all_not_below : (m : ℕ) (xs : List A) → ((i n : ℕ) → moment_in moment xs i ≡ Some n → m ≤ n) → IsNotBelow m (earliest moment xs)
  all_not_below m [] h = tt
  all_not_below m (x ∷ xs) h = earlier_not_below m (moment x) (earliest moment xs) (not_below m (moment x) (h 0)) (all_not_below m xs (λ i n e. h (suc i) n e))

  front : (m : ℕ) (b : Option ℕ) → IsNotBelow m b → earlier (Some m) b ≡ Some m
  front m None h = refl
  front m (Some n) h = ap (λ (k : ℕ). Some k) (omega arith)

  back : (m : ℕ) (a : Option ℕ) → IsNotBelow m a → earlier a (Some m) ≡ Some m
  back m None h = refl
  back m (Some n) h = ap (λ (k : ℕ). Some k) (omega arith)

  pub some_earliest : (xs : List A) (m i : ℕ) → IsFirstIn moment xs m i → earliest moment xs ≡ Some m
  some_earliest xs m i first = by xs i first.there first.least
    where
      by : (xs : List A) (i : ℕ) → moment_in moment xs i ≡ Some m → ((j n : ℕ) → moment_in moment xs j ≡ Some n → m ≤ n) → earliest moment xs ≡ Some m
      by [] i e least = absurd cc
      by (x ∷ xs) zero e least = ap (λ (o : Option ℕ). earlier o (earliest moment xs)) e ∙ front m (earliest moment xs) (all_not_below m xs (λ j n f. least (suc j) n f))
      by (x ∷ xs) (suc i) e least = ap (earlier (moment x)) (by xs i e (λ j n f. least (suc j) n f)) ∙ back m (moment x) (not_below m (moment x) (least 0))

-- Of the lesser of two moments it is the lesser of the earliest two.
swapped : (a b c d : Option ℕ) → earlier (earlier a b) (earlier c d) ≡ earlier (earlier a c) (earlier b d)
swapped None None c d = refl
swapped None (Some b) None d = refl
swapped None (Some b) (Some c) None = ap (λ (k : ℕ). Some k) (omega arith)
swapped None (Some b) (Some c) (Some d) = ap (λ (k : ℕ). Some k) (omega arith)
swapped (Some a) None None d = refl
swapped (Some a) None (Some c) None = refl
swapped (Some a) None (Some c) (Some d) = ap (λ (k : ℕ). Some k) (omega arith)
swapped (Some a) (Some b) None None = refl
swapped (Some a) (Some b) None (Some d) = ap (λ (k : ℕ). Some k) (omega arith)
swapped (Some a) (Some b) (Some c) None = ap (λ (k : ℕ). Some k) (omega arith)
swapped (Some a) (Some b) (Some c) (Some d) = ap (λ (k : ℕ). Some k) (omega arith)

pub earliest_of_both : {A : Type 0} (f g : A → Option ℕ) (xs : List A) → earliest (λ x. earlier (f x) (g x)) xs ≡ earlier (earliest f xs) (earliest g xs)
earliest_of_both f g [] = refl
earliest_of_both f g (x ∷ xs) = ap (earlier (earlier (f x) (g x))) (earliest_of_both f g xs) ∙ swapped (f x) (g x) (earliest f xs) (earliest g xs)
