-- Lists that are told, step by step.
use Rattle.std.proofs.Common.{◌≡◌, ℕ, ◌+◌, Bool, true, false, List, [], ◌∷◌, ◌++◌, length, Option, Some, None, refl, sym, ap, subst, ◌∙◌, append_assoc, arith}
use Rattle.std.proofs.lemmas.List.{append-nil}
use Rattle.dt_edges.specs.Telling.{NotesAll, NotesNothing}
use Rattle.dt_node.specs.Deeds.{FatesFrom, Sublist, count_true, held, left, none}

pub notes_none : {A : Type 0} (before : Option (List A)) → NotesAll [] before before
notes_none None = tt
notes_none (Some all) = (all, refl, sym (append-nil all))

pub notes_same : {A : Type 0} (xs : List A) (before between after : Option (List A)) → between ≡ before → NotesAll xs between after → NotesAll xs before after
notes_same xs before between after e h = subst (λ (b : Option (List _)). NotesAll xs b after) e h

notes_from : {A : Type 0} (xs ys all zs : List A) (before between : Option (List A)) → between ≡ Some zs → all ≡ zs ++ ys → NotesAll xs before between → (ws : List A) × (before ≡ Some ws) × (all ≡ ws ++ (xs ++ ys))
notes_from xs ys all zs before between e f h =
    let k = rw e at h in
    (k.0, k.1, f ∙ ap (λ a. a ++ ys) k.2 ∙ append_assoc k.0 xs ys)

pub notes_then : {A : Type 0} (xs ys : List A) (before between after : Option (List A)) → NotesAll xs before between → NotesAll ys between after → NotesAll (xs ++ ys) before after
notes_then xs ys before between None h k = tt
notes_then xs ys before between (Some all) h k = notes_from xs ys all k.0 before between k.1 k.2 h

pub nothing_notes : {A : Type 0} (before after : Option (List A)) → NotesNothing before after → NotesAll [] before after
nothing_notes before None h = tt
nothing_notes before (Some all) h = (all, h, sym (append-nil all))

-- what is told in the end is what came, where nothing was told before
pub sub_all : {A : Type 0} (xs : List A) → Sublist xs xs
sub_all [] = none
sub_all (x ∷ xs) = held x xs xs (sub_all xs)

pub sub_none : {A : Type 0} (xs : List A) → Sublist [] xs
sub_none [] = none
sub_none (x ∷ xs) = left x [] xs (sub_none xs)

pub sub_then : {A : Type 0} {xs ys us vs : List A} → Sublist xs ys → Sublist us vs → Sublist (xs ++ us) (ys ++ vs)
sub_then none h = h
sub_then (left x ms ns s) h = left x _ _ (sub_then s h)
sub_then (held x ms ns s) h = held x _ _ (sub_then s h)

pub fates_then : (failing : List ℕ) (calls : ℕ) (f g : List Bool) → FatesFrom failing calls f → FatesFrom failing (calls + length f) g → FatesFrom failing calls (f ++ g)
fates_then failing calls [] g h k = let e : calls + length {A = Bool} [] ≡ calls = omega arith in subst (λ (n : ℕ). FatesFrom failing n g) e k
fates_then failing calls (gone ∷ f) g h k = (h.0, fates_then failing (calls + 1) f g h.1 (let e : calls + length (gone ∷ f) ≡ (calls + 1) + length f = omega arith in subst (λ (n : ℕ). FatesFrom failing n g) e k))

pub count_append : (f g : List Bool) → count_true (f ++ g) ≡ count_true f + count_true g
count_append [] g = omega arith
count_append (true ∷ f) g = omega (arith, count_append f g)
count_append (false ∷ f) g = count_append f g
