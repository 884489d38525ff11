-- Puts of a text in parts.
use Rattle.std.proofs.Common.{◌≡◌, ℕ, suc, ◌+◌, add-one, ◌<◌, List, [], ◌∷◌, ◌++◌, length, get_or, drop-cons, take, drop, flat_map, ap, sym, subst, ◌∙◌, append_assoc, append-nil, map, Result, Ok, Err, IsErr}
use Rattle.std.proofs.lemmas.List.Folds.{flat_map-map}
use Rattle.std.proofs.Math.Seq.{take-suc}
use Rattle.std.proofs.lemmas.List.{take-append-drop}
use Rattle.std.proofs.lemmas.List.Concat.{flat_map-append}
use Rattle.dt_edges.specs.Sinks.{SinkSight, Takes, TakesPart, Puts}
use Rattle.dt_edges.proofs.Puts.{puts_then, puts_failed, takes_then, takes_as, takes_part_first, takes_part_then}
use Rattle.dt_log.specs.Words.{Text, spaced}
use Rattle.dt_log.specs.declared.words.Word.{Word}
use Rattle.dt_log.specs.Wording.{word_text, after_space, after_spaces}

-- a put of a text is one of a text that equals it
pub puts_as : {S T E : Type 0} (sight : S → SinkSight) (text same : List ℕ) (r : Result T E) (old new : S) → text ≡ same → Puts sight same r old new → Puts sight text r old new
puts_as sight text same r old new e p = subst (λ t. Puts sight t r old new) (sym e) p

-- One octet, and then a text: what the put of the text says, it says of both.
pub octet_then : {S T E : Type 0} (sight : S → SinkSight) (octet : ℕ) (ys : List ℕ) (r : Result T E) (old between new : S) → Takes (octet ∷ []) (sight old) (sight between) → Puts sight ys r between new → Puts sight (octet ∷ ys) r old new
octet_then sight octet ys r old between new h p = puts_then sight (octet ∷ []) ys r old between new h p

-- A call that fails at the octet puts a first part of both.
pub octet_failed : {S T E : Type 0} (sight : S → SinkSight) (octet : ℕ) (ys : List ℕ) (r : Result T E) (old new : S) → TakesPart (octet ∷ []) (sight old) (sight new) → IsErr r → Puts sight (octet ∷ ys) r old new
octet_failed sight octet ys r old new p is = puts_failed sight (octet ∷ []) ys r old new p is

pub ruleset after_octet = (octet_then, octet_failed)

-- a put that fails in a middle part puts a first part of the whole
pub takes_part_between : (text xs ys zs : List ℕ) (a b c : SinkSight) → text ≡ xs ++ (ys ++ zs) → Takes xs a b → TakesPart ys b c → TakesPart text a c
takes_part_between text xs ys zs a b c e p q =
    subst (λ t. TakesPart t a c) (sym e) (takes_part_then xs (ys ++ zs) a b c p (takes_part_first ys zs b c q))

-- the same, for the call that hands its failure on
pub puts_failed_between : {S T E : Type 0} (sight : S → SinkSight) (text xs ys zs : List ℕ) (r : Result T E) (old between new : S) → text ≡ xs ++ (ys ++ zs) → Takes xs (sight old) (sight between) → TakesPart ys (sight between) (sight new) → IsErr r → Puts sight text r old new
puts_failed_between sight text xs ys zs (Ok _) old between new e p q is = cc
puts_failed_between sight text xs ys zs (Err _) old between new e p q is = takes_part_between text xs ys zs (sight old) (sight between) (sight new) e p q

-- the texts of some items are taken, and then the text of more of them
pub takes_more : {X : Type 0} (f : X → List ℕ) (before piece : List X) (a b c : SinkSight) → Takes (flat_map f before) a b → Takes (flat_map f piece) b c → Takes (flat_map f (before ++ piece)) a c
takes_more f before piece a b c p q =
    takes_as _ _ a c (sym (flat_map-append f before piece)) (takes_then (flat_map f before) (flat_map f piece) a b c p q)

-- the texts of the items before one are taken, and then its own
pub takes_next : {X : Type 0} (f : X → List ℕ) (xs : List X) (i : ℕ) (d : X) (a b c : SinkSight) → i < length xs → Takes (flat_map f (take i xs)) a b → Takes (f (get_or xs i d)) b c → Takes (flat_map f (take (i + 1) xs)) a c
takes_next f xs i d a b c h p q =
    let x = get_or xs i d in
    rw (add-one i, take-suc xs i d h) (takes_more f (take i xs) (x ∷ []) a b c p (takes_as (f x) (f x ++ []) b c (sym (append-nil (f x))) q))

-- items, of which the first n of the rest are cut off
pub cut_further : {X : Type 0} (xs before rest piece more : List X) (n : ℕ) → xs ≡ before ++ rest → piece ≡ take n rest → more ≡ drop n rest → xs ≡ (before ++ piece) ++ more
cut_further xs before rest piece more n e p m =
    e ∙ ap (λ ys. before ++ ys) (sym (take-append-drop n rest)) ∙ sym (append_assoc before (take n rest) (drop n rest)) ∙ ap (λ ys. (before ++ ys) ++ drop n rest) (sym p) ∙ ap (λ ys. (before ++ piece) ++ ys) (sym m)

-- the text of all items in the same parts
pub text_in_parts : {X : Type 0} (f : X → List ℕ) (xs before piece more : List X) → xs ≡ (before ++ piece) ++ more → flat_map f xs ≡ flat_map f before ++ (flat_map f piece ++ flat_map f more)
text_in_parts f xs before piece more e =
    ap (flat_map f) (e ∙ append_assoc before piece more) ∙ flat_map-append f before (piece ++ more) ∙ ap (λ t. flat_map f before ++ t) (flat_map-append f piece more)

-- the text of all items around the one at index i
pub text_around : {X : Type 0} (f : X → List ℕ) (xs : List X) (i : ℕ) (d : X) → i < length xs → flat_map f xs ≡ flat_map f (take i xs) ++ (f (get_or xs i d) ++ flat_map f (drop (suc i) xs))
text_around f xs i d h =
    ap (flat_map f) (sym (take-append-drop i xs)) ∙ flat_map-append f (take i xs) (drop i xs) ∙ ap (λ ys. flat_map f (take i xs) ++ flat_map f ys) (drop-cons xs i d h)

-- words with one space between two of them: the first, and then the rest after spaces
spaced_first : (word : Text) (more : List Text) → spaced (word ∷ more) ≡ word ++ flat_map after_space more
spaced_first word [] = sym (append-nil word)
spaced_first word (next ∷ more) = ap (λ t. word ++ 32 ∷ t) (spaced_first next more)

-- the words of the code after spaces are their texts after spaces
texts_behind : (words : List Word) → flat_map after_space (map word_text words) ≡ after_spaces words
texts_behind words = flat_map-map after_space word_text words

-- a line in the parts in which the code puts it
pub row_parts : (first : Word) (some more : List Word) (end : List ℕ) → spaced (word_text first ∷ map word_text some ++ map word_text more) ++ end ≡ word_text first ++ (after_spaces some ++ (after_spaces more ++ end))
row_parts first some more end =
    ap (λ t. t ++ end) (spaced_first (word_text first) (map word_text some ++ map word_text more)
    ∙ ap (λ t. word_text first ++ t) (flat_map-append after_space (map word_text some) (map word_text more)
    ∙ ap (λ t. t ++ flat_map after_space (map word_text more)) (texts_behind some)
    ∙ ap (λ t. after_spaces some ++ t) (texts_behind more)))
    ∙ append_assoc (word_text first) (after_spaces some ++ after_spaces more) end
    ∙ ap (λ t. word_text first ++ t) (append_assoc (after_spaces some) (after_spaces more) end)
