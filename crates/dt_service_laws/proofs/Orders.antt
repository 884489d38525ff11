-- Some of a list, in its order.
use Rattle.std.proofs.Common.{List, [], ◌∷◌, ◌++◌, map}
use Rattle.dt_service_laws.specs.Orders.{AreSomeOf, none, skips, takes}

pub skip : {A : Type 0} {xs ys : List A} (zs : List A) → AreSomeOf xs ys → AreSomeOf xs (zs ++ ys)
skip [] h = h
skip (z ∷ zs) h = skips (skip zs h)

pub keep : {A : Type 0} {xs ys : List A} (zs : List A) → AreSomeOf xs ys → AreSomeOf (zs ++ xs) (zs ++ ys)
keep [] h = h
keep (z ∷ zs) h = takes (keep zs h)

pub all_of : {A : Type 0} (xs : List A) → AreSomeOf xs xs
all_of [] = none
all_of (x ∷ xs) = takes (all_of xs)

pub both : {A : Type 0} {xs ys us vs : List A} → AreSomeOf xs ys → AreSomeOf us vs → AreSomeOf (xs ++ us) (ys ++ vs)
both {ys} none k = skip ys k
both (takes h) k = takes (both h k)
both (skips h) k = skips (both h k)

pub some_through : {A : Type 0} {xs ys zs : List A} → AreSomeOf xs ys → AreSomeOf ys zs → AreSomeOf xs zs
some_through none k = none
some_through (takes h) (takes k) = takes (some_through h k)
some_through (takes h) (skips k) = skips (some_through (takes h) k)
some_through (skips h) (takes k) = skips (some_through h k)
some_through (skips h) (skips k) = skips (some_through (skips h) k)

pub mapped : {A B : Type 0} (g : A → B) {xs ys : List A} → AreSomeOf xs ys → AreSomeOf (map g xs) (map g ys)
mapped g none = none
mapped g (takes h) = takes (mapped g h)
mapped g (skips h) = skips (mapped g h)
