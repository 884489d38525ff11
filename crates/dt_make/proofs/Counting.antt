-- The texts of the numbers from 0 on, put one after another.
use Rattle.std.proofs.Common.{◌≡◌, ℕ, ◌+◌, ◌<◌, List, take, flat_map, sym, ap, subst, ◌∙◌, get_or, length, take_all, Result, IsErr, arith}
use Rattle.std.specs.List.{range_with_len}
use Rattle.std.proofs.lemmas.List.FromFn.{length-range_with_len, get_or-range_with_len}
use Rattle.dt_edges.specs.Sinks.{SinkSight, Takes, TakesPart, Puts}
use Rattle.dt_edges.proofs.Puts.{takes_as}
use Rattle.dt_log.proofs.Parts.{takes_next, text_around, puts_failed_between}

-- the number at place i of those from 0 to n - 1
at_place : (n i : ℕ) → i < n → get_or (range_with_len 0 n) i 0 ≡ i
at_place n i h = get_or-range_with_len 0 n i 0 h ∙ omega arith

in_range : (n i : ℕ) → i < n → i < length (range_with_len 0 n)
in_range n i h = rw (length-range_with_len 0 n) h

-- the texts of the numbers before i were put, and then that of i
pub number_taken : (f : ℕ → List ℕ) (n i : ℕ) (text : List ℕ) (a b c : SinkSight) → i < n → text ≡ f i → Takes (flat_map f (take i (range_with_len 0 n))) a b → Takes text b c → Takes (flat_map f (take (i + 1) (range_with_len 0 n))) a c
number_taken f n i text a b c h e p q =
    takes_next f (range_with_len 0 n) i 0 a b c (in_range n i h) p (takes_as _ _ b c (e ∙ ap f (sym (at_place n i h))) q)

-- the texts of the numbers before i were put, and a first part of that of i
pub number_failed : {S T E : Type 0} (sight : S → SinkSight) (f : ℕ → List ℕ) (n i : ℕ) (text : List ℕ) (r : Result T E) (old between new : S) → i < n → text ≡ f i → Takes (flat_map f (take i (range_with_len 0 n))) (sight old) (sight between) → TakesPart text (sight between) (sight new) → IsErr r → Puts sight (flat_map f (range_with_len 0 n)) r old new
number_failed sight f n i text r old between new h e p q is =
    puts_failed_between sight _ _ _ _ r old between new (text_around f (range_with_len 0 n) i 0 (in_range n i h)) p (subst (λ t. TakesPart t (sight between) (sight new)) (e ∙ ap f (sym (at_place n i h))) q) is

-- all of the numbers
pub all_taken : (f : ℕ → List ℕ) (n i : ℕ) (a b : SinkSight) → i ≡ n → Takes (flat_map f (take i (range_with_len 0 n))) a b → Takes (flat_map f (range_with_len 0 n)) a b
all_taken f n i a b e p = takes_as _ _ a b (ap (flat_map f) (take_all i (range_with_len 0 n) (omega (arith, e, length-range_with_len 0 n)))) p
