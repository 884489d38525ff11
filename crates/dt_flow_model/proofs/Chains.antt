-- Segments that follow each other, and lists in parts.
use Rattle.std.proofs.Common.{ℕ, zero, suc, ◌+◌, ◌≡◌, List, [], ◌∷◌, ◌++◌, length, drop, refl, arith}
use Rattle.std.specs.List.{All}
use Rattle.std.proofs.lemmas.List.Elements.{All-nil, All-cons, All-head, All-tail}
use Rattle.dt_flow_model.specs.Facts.{Chain}
use Rattle.dt_flow_model.specs.SendRecord.{Segment, end_of, items_in, next_from}

pub chain_next : (n : ℕ) (gs : List Segment) → Chain n gs → next_from n gs ≡ n + items_in gs
chain_next n [] h = omega arith
chain_next n (g ∷ gs) h = let e = chain_next (g.offset + length g.items) gs h.2 in omega arith

pub chain_rest : (n : ℕ) (xs ys : List Segment) → Chain n (xs ++ ys) → Chain (next_from n xs) ys
chain_rest n [] ys h = h
chain_rest n (g ∷ gs) ys h = chain_rest (g.offset + length g.items) gs ys h.2

pub chain_front : (n : ℕ) (xs ys : List Segment) → Chain n (xs ++ ys) → Chain n xs
chain_front n [] ys h = tt
chain_front n (g ∷ gs) ys h = (h.0, h.1, chain_front (g.offset + length g.items) gs ys h.2)

pub next_append : (n : ℕ) (xs ys : List Segment) → next_from n (xs ++ ys) ≡ next_from (next_from n xs) ys
next_append n [] ys = refl
next_append n (g ∷ gs) ys = next_append (g.offset + length g.items) gs ys

pub chain_join : (n : ℕ) (xs ys : List Segment) → Chain n xs → Chain (next_from n xs) ys → Chain n (xs ++ ys)
chain_join n [] ys p q = q
chain_join n (g ∷ gs) ys p q = (p.0, p.1, chain_join (g.offset + length g.items) gs ys p.2 q)

pub items_append : (xs ys : List Segment) → items_in (xs ++ ys) ≡ items_in xs + items_in ys
items_append [] ys = omega arith
items_append (g ∷ gs) ys = omega (arith, items_append gs ys)

pub all_at : {X : Type 0} (P : X → Type 0) (before after : List X) (x : X) → All P (before ++ x ∷ after) → P x
all_at P [] after x h = All-head P x after h
all_at P (b ∷ before) after x h = all_at P before after x (All-tail P b (before ++ x ∷ after) h)

pub all_swap : {X : Type 0} (P : X → Type 0) (before after : List X) (x y : X) → P y → All P (before ++ x ∷ after) → All P (before ++ y ∷ after)
all_swap P [] after x y k h = All-cons P y after k (All-tail P x after h)
all_swap P (b ∷ before) after x y k h = All-cons P b (before ++ y ∷ after) (All-head P b (before ++ x ∷ after) h) (all_swap P before after x y k (All-tail P b (before ++ x ∷ after) h))

pub all_drop : {X : Type 0} (P : X → Type 0) (n : ℕ) (xs : List X) → All P xs → All P (drop n xs)
all_drop P zero xs h = h
all_drop P (suc n) [] h = h
all_drop P (suc n) (x ∷ xs) h = all_drop P n xs (All-tail P x xs h)

pub all_front : {X : Type 0} (P : X → Type 0) (xs ys : List X) → All P (xs ++ ys) → All P xs
all_front P [] ys h = All-nil P
all_front P (x ∷ xs) ys h = All-cons P x xs (All-head P x (xs ++ ys) h) (all_front P xs ys (All-tail P x (xs ++ ys) h))

pub all_rest : {X : Type 0} (P : X → Type 0) (xs ys : List X) → All P (xs ++ ys) → All P ys
all_rest P [] ys h = h
all_rest P (x ∷ xs) ys h = all_rest P xs ys (All-tail P x (xs ++ ys) h)

pub swap_chain : (offset : ℕ) (before : List Segment) (g : Segment) (after : List Segment) (last : ℕ) → Chain offset (before ++ g ∷ after) → Chain offset (before ++ (record g { last = last }) ∷ after)
swap_chain offset [] g after last h = h
swap_chain offset (b ∷ before) g after last h = (h.0, h.1, swap_chain (end_of b) before g after last h.2)
