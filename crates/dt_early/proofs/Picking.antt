-- The datagram at the first place where a test holds is the one that is picked, and what is left is shorter.
use Rattle.std.proofs.Common.{◌≡◌, ◌+◌, ◌<◌, ℕ, zero, suc, Bool, true, false, List, [], ◌∷◌, length, get_or, Option, Some, None, refl, ap, inl, inr, subst, sym, ◌∙◌, arith}
use Rattle.std.proofs.lemmas.Bool.{cases_Bool}
use Rattle.std.specs.List.{position, remove}
use Rattle.std.proofs.lemmas.List.Quantifiers.{position-Some}
use Rattle.std.proofs.lemmas.List.Sums.{fails_before_first}
use Rattle.dt_early.specs.Early.{Early, EarlyShelf, pick, with_held}

module _ (test : Early → Bool) where
  passed_over : (h : Early) (hs : List Early) → test h ≡ false → pick test (h ∷ hs) ≡ ((pick test hs).0, h ∷ (pick test hs).1)
  passed_over h hs e = rw e refl

  pick_at : (hs : List Early) (i : ℕ) (d : Early) → i < length hs → d ≡ get_or hs i d → test (get_or hs i d) ≡ true → ((k : ℕ) → k < i → test (get_or hs k d) ≡ false) → pick test hs ≡ (Some d, remove hs i)
  pick_at [] i d h is hit misses = absurd (omega arith)
  pick_at (x ∷ hs) zero d h is hit misses = rw (hit, sym is) refl
  pick_at (x ∷ hs) (suc i) d h is hit misses =
      passed_over x hs (misses zero (omega arith)) ∙ ap (λ (r : Option Early × List Early). (r.0, x ∷ r.1)) (pick_at hs i d (omega arith) is hit (λ k below. misses (suc k) (omega arith)))

  pub picked : (hs : List Early) (i : ℕ) (d : Early) → position test hs ≡ Some i → d ≡ get_or hs i d → pick test hs ≡ (Some d, remove hs i)
  picked hs i d at is = let first = position-Some test hs i d at in pick_at hs i d first.0 is first.1 first.2

  pub picked_is : (hs : List Early) (i : ℕ) (d : Early) → position test hs ≡ Some i → d ≡ get_or hs i d → test d ≡ true
  picked_is hs i d at is = let first = position-Some test hs i d at in rw is first.1

  pick_none : (hs : List Early) → ((k : ℕ) (d : Early) → k < length hs → test (get_or hs k d) ≡ false) → pick test hs ≡ (None, hs)
  pick_none [] misses = refl
  pick_none (x ∷ hs) misses = passed_over x hs (misses zero x (omega arith)) ∙ ap (λ (r : Option Early × List Early). (r.0, x ∷ r.1)) (pick_none hs (λ k d below. misses (suc k) d (omega arith)))

  pub nowhere : (hs : List Early) → position test hs ≡ None → pick test hs ≡ (None, hs)
  nowhere hs at = pick_none hs (λ k d below. fails_before_first test hs k d (grind (arith, at, below)))

  pub took : (hs : List Early) (i : ℕ) (d : Early) → position test hs ≡ Some i → d ≡ get_or hs i d → Some d ≡ (pick test hs).0
  took hs i d at is = sym (ap (λ (r : Option Early × List Early). r.0) (picked hs i d at is))

  pub falls : (hs : List Early) (h : Early) → Some h ≡ (pick test hs).0 → length (pick test hs).1 < length hs
  falls [] h e = absurd cc
  falls (x ∷ hs) h e =
      elim (cases_Bool (test x)) [
        | inl y ↦ rw y (omega arith)
        | inr n ↦ rw n (let less = falls hs h (rw n at e) in omega (arith, less))
      ]

  abbrev shelf_with : (most of_flow : ℕ) → List Early → EarlyShelf
  shelf_with most of_flow hs = record { most = most; of_flow = of_flow; held = hs }

  pub left_by : (most of_flow : ℕ) (hs rest : List Early) (s : EarlyShelf) (i : ℕ) (d : Early) → shelf_with most of_flow hs ≡ s → position test s.held ≡ Some i → d ≡ get_or hs i d → rest ≡ remove hs i → shelf_with most of_flow rest ≡ with_held (pick test s.held).1 s
  left_by most of_flow hs rest s i d view at is left =
      subst (λ (x : EarlyShelf). position test x.held ≡ Some i → shelf_with most of_flow rest ≡ with_held (pick test x.held).1 x) view
      (λ at. ap (shelf_with most of_flow) (left ∙ sym (ap (λ (r : Option Early × List Early). r.1) (picked hs i d at is)))) at

  pub stays_as : (s : EarlyShelf) → position test s.held ≡ None → s ≡ with_held (pick test s.held).1 s
  stays_as s at = rw (nowhere s.held at) refl

  pub none_left : (hs : List Early) → (pick test hs).0 ≡ None → (pick test hs).1 ≡ hs
  none_left [] e = refl
  none_left (x ∷ hs) e =
      elim (cases_Bool (test x)) [
        | inl y ↦ let no : Some x ≡ None = rw y at e in absurd cc
        | inr n ↦ rw n (ap (λ (r : List Early). x ∷ r) (none_left hs (rw n at e)))
      ]
