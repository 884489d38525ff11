-- Some of a list, in its order.
use Rattle.std.specs.Prelude.{List, [], ◌∷◌}

-- SOME OF A LIST: each at its place is taken once or left out, and what is taken keeps its order
pub data AreSomeOf {A : Type 0} : List A → List A → Type 0 where
  none : {ys : List A} → AreSomeOf [] ys
  takes : {x : A} {xs ys : List A} → AreSomeOf xs ys → AreSomeOf (x ∷ xs) (x ∷ ys)
  skips : {y : A} {xs ys : List A} → AreSomeOf xs ys → AreSomeOf xs (y ∷ ys)
