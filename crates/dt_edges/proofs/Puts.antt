-- Puts one after another.
use Rattle.std.proofs.Common.{◌≡◌, ℕ, zero, suc, zero-add, ◌+◌, List, [], ◌∷◌, ◌++◌, length, take, drop, refl, ap, sym, subst, ◌∙◌, length-drop, take_all, arith, ◌-◌, min, Option, Result, Ok, Err, IsErr}
use Rattle.std.proofs.Math.Nat.{suc-add}
use Rattle.std.proofs.Math.Seq.{take-nil, take-append-add}
use Rattle.std.proofs.lemmas.List.{drop-drop, take-append-le, take_min}
use Rattle.std.specs.Io.KnownBytes.{Appends, Keeps, WriteAppends}
use Rattle.std.proofs.KnownBytes.{Appends-nil, Appends-trans, Appends-kept}
use Rattle.dt_edges.specs.Counts.{HasRisen}
use Rattle.dt_edges.specs.Sinks.{SinkSight, Grows, Takes, TakesPart, Puts}

-- the first n + k octets are the first n, and the first k of the rest
pub take_further : (xs : List ℕ) (n k : ℕ) → take (n + k) xs ≡ take n xs ++ take k (drop n xs)
take_further xs zero k = rw zero-add refl
take_further [] (suc n) k = rw (suc-add, take-nil k) refl
take_further (x ∷ xs) (suc n) k = rw suc-add (ap (λ ys. x ∷ ys) (take_further xs n k))

-- the rest from octet n on, as the code cuts it
pub drop_cut : (xs waiting : List ℕ) (n : ℕ) → xs ≡ waiting → take (length xs - n) (drop n xs) ≡ drop n waiting
drop_cut xs waiting n e = take_all (length xs - n) (drop n xs) (omega (arith, length-drop n xs)) ∙ ap (drop n) e

-- what is left of a rest when its first k octets are cut off, as the code cuts it
pub rest_cut : (xs rest : List ℕ) (n k : ℕ) → rest ≡ drop n xs → take (length rest - k) (drop k rest) ≡ drop (n + k) xs
rest_cut xs rest n k r = drop_cut rest (drop n xs) k r ∙ drop-drop k n xs

-- the first n octets of a list are a first part of a longer one, too
take_first : (xs ys : List ℕ) (n : ℕ) → take n xs ≡ take (min n (length xs)) (xs ++ ys)
take_first xs ys n = sym (take-append-le (min n (length xs)) xs ys (omega arith) ∙ take_min n xs)

-- WHAT HAS REACHED ITS END

pub grows_same : (a : Option (List ℕ)) → Grows a a
grows_same a = ([], Appends-nil a)

pub grows_then : (a b c : Option (List ℕ)) → Grows a b → Grows b c → Grows a c
grows_then a b c p q = (p.0 ++ q.0, Appends-trans a b c p.0 q.0 p.1 q.1)

-- what a write leaves
pub grows_by_write : {E : Type 0} (a b : Option (List ℕ)) (octets : List ℕ) (r : Result ℕ E) → WriteAppends a b r octets → Grows a b
grows_by_write a b octets (Ok n) h = (take n octets, h)
grows_by_write a b octets (Err e) h = ([], Appends-kept a a b [] (Appends-nil a) h)

-- WHAT A SINK TOOK

-- nothing was put, and nothing changed
pub takes_nothing : (a : SinkSight) → Takes [] a a
takes_nothing a = record { held = Appends-nil a.held; reached = grows_same a.reached; faults = refl; identity = refl }

-- what is taken in two parts is taken at once
pub takes_then : (xs ys : List ℕ) (a b c : SinkSight) → Takes xs a b → Takes ys b c → Takes (xs ++ ys) a c
takes_then xs ys a b c p q = record {
  held = Appends-trans a.held b.held c.held xs ys p.held q.held;
  reached = grows_then a.reached b.reached c.reached p.reached q.reached;
  faults = q.faults ∙ p.faults;
  identity = q.identity ∙ p.identity;
}

-- the same octets, in other words
pub takes_as : (xs ys : List ℕ) (a b : SinkSight) → xs ≡ ys → Takes xs a b → Takes ys a b
takes_as xs ys a b e p = subst (λ zs. Takes zs a b) e p

-- the first n octets are taken, and then the first k of the rest
pub takes_further : (xs rest : List ℕ) (n k : ℕ) (a b c : SinkSight) → rest ≡ drop n xs → Takes (take n xs) a b → Takes (take k rest) b c → Takes (take (n + k) xs) a c
takes_further xs rest n k a b c r p q =
    takes_as _ _ a c (ap (λ zs. take n xs ++ take k zs) r ∙ sym (take_further xs n k)) (takes_then (take n xs) (take k rest) a b c p q)

-- A first part of the first of two parts is one of both.
pub takes_part_first : (xs ys : List ℕ) (a b : SinkSight) → TakesPart xs a b → TakesPart (xs ++ ys) a b
takes_part_first xs ys a b p = record {
  count = min p.count (length xs);
  held = subst (Appends a.held b.held) (take_first xs ys p.count) p.held;
  reached = p.reached;
  faults = p.faults;
  identity = p.identity;
}

-- the first of two parts was taken, and a first part of the second
pub takes_part_then : (xs ys : List ℕ) (a b c : SinkSight) → Takes xs a b → TakesPart ys b c → TakesPart (xs ++ ys) a c
takes_part_then xs ys a b c p q = record {
  count = length xs + q.count;
  held = subst (Appends a.held c.held) (sym (take-append-add xs ys q.count)) (Appends-trans a.held b.held c.held xs (take q.count ys) p.held q.held);
  reached = grows_then a.reached b.reached c.reached p.reached q.reached;
  faults = subst (λ n. HasRisen n c.faults) p.faults q.faults;
  identity = q.identity ∙ p.identity;
}

-- the first n octets were taken, and then a put failed that took nothing
pub takes_until : (xs : List ℕ) (n : ℕ) (a b c : SinkSight) → Takes (take n xs) a b → Keeps b.held c.held → Grows b.reached c.reached → HasRisen b.faults c.faults → c.identity ≡ b.identity → TakesPart xs a c
takes_until xs n a b c p k r f i = record {
  count = n;
  held = Appends-kept a.held b.held c.held (take n xs) p.held k;
  reached = grows_then a.reached b.reached c.reached p.reached r;
  faults = subst (λ m. HasRisen m c.faults) p.faults f;
  identity = i ∙ p.identity;
}

-- CALLS ONE AFTER ANOTHER

-- A put of two parts, of which the first was taken: what the put of the second says, it says of both.
pub puts_then : {S T E : Type 0} (sight : S → SinkSight) (xs ys : List ℕ) (r : Result T E) (old between new : S) → Takes xs (sight old) (sight between) → Puts sight ys r between new → Puts sight (xs ++ ys) r old new
puts_then sight xs ys (Ok _) old between new p q = takes_then xs ys (sight old) (sight between) (sight new) p q
puts_then sight xs ys (Err _) old between new p q = takes_part_then xs ys (sight old) (sight between) (sight new) p q

-- A call that fails within the first of two parts: it puts a first part of both.
pub puts_failed : {S T E : Type 0} (sight : S → SinkSight) (xs ys : List ℕ) (r : Result T E) (old new : S) → TakesPart xs (sight old) (sight new) → IsErr r → Puts sight (xs ++ ys) r old new
puts_failed sight xs ys (Ok _) old new p is = cc
puts_failed sight xs ys (Err _) old new p is = takes_part_first xs ys (sight old) (sight new) p

-- The first n octets were taken, and then a put failed that took nothing: so does the call.
pub puts_until : {S T E : Type 0} (sight : S → SinkSight) (xs : List ℕ) (n : ℕ) (r : Result T E) (old between new : S) → Takes (take n xs) (sight old) (sight between) → IsErr r → Keeps (sight between).held (sight new).held → Grows (sight between).reached (sight new).reached
    → HasRisen (sight between).faults (sight new).faults → (sight new).identity ≡ (sight between).identity → Puts sight xs r old new
puts_until sight xs n (Ok _) old between new p is k g f i = cc
puts_until sight xs n (Err _) old between new p is k g f i = takes_until xs n (sight old) (sight between) (sight new) p k g f i

-- Name this set on a function that puts two parts one after the other, the second by a call that it
-- answers with or by `?` and `Ok`, and no file is needed:
-- `#[tactic(auto, using(dt_edges::proofs::Puts::two_parts))]`.
pub ruleset two_parts = (puts_then, puts_failed)
