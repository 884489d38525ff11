-- How many items stand before the first that has a mark.
use Rattle.std.proofs.Common.{◌≡◌, ℕ, suc, ◌+◌, ◌-◌, ◌<◌, ◌≤◌, min, true, false, cond, List, [], ◌∷◌, ◌++◌, length, get_or, take, drop, refl, ap, ◌∙◌, sym, arith}
use Rattle.std.proofs.lemmas.List.{drop_more, drop-drop, length-drop, length-take, length-take-le, take_min, take_more, take-append-drop}
use Rattle.dt_items.specs.declared.item.Item.{Item}
use Rattle.dt_items.specs.Unmarked.{is_unmarked, unmarked_count}
use Rattle.dt_items.proofs.Copies.{take_both}

at_unmarked : (item : Item) (items : List Item) → is_unmarked item ≡ true → unmarked_count (item ∷ items) ≡ suc (unmarked_count items)
at_unmarked item items h = ap (λ b. cond b (suc (unmarked_count items)) 0) h

at_marked : (item : Item) (items : List Item) → is_unmarked item ≡ false → unmarked_count (item ∷ items) ≡ 0
at_marked item items h = ap (λ b. cond b (suc (unmarked_count items)) 0) h

-- the item at a place has no mark: it counts
pub counts_on : (items : List Item) (i : ℕ) (d : Item) → i < length items → is_unmarked (get_or items i d) ≡ true → unmarked_count (drop i items) ≡ suc (unmarked_count (drop (i + 1) items))
counts_on items i d lt h = ap unmarked_count (drop_more items i d lt) ∙ at_unmarked (get_or items i d) (drop (i + 1) items) h

-- the item at a place has one: the count ends
pub counts_no_more : (items : List Item) (i : ℕ) (d : Item) → i < length items → is_unmarked (get_or items i d) ≡ false → unmarked_count (drop i items) ≡ 0
counts_no_more items i d lt h = ap unmarked_count (drop_more items i d lt) ∙ at_marked (get_or items i d) (drop (i + 1) items) h

pub count_fits : (items : List Item) → unmarked_count items ≤ length items
count_fits [] = omega arith
count_fits (item ∷ items) =
    elim (is_unmarked item) as (λ b. cond b (suc (unmarked_count items)) 0 ≤ suc (length items)) [
      | true ↦ omega (arith, count_fits items)
      | false ↦ omega arith
    ]

-- a mark stands among the first items: those after them don't count
stops_in : (front back : List Item) → unmarked_count front < length front → unmarked_count (front ++ back) ≡ unmarked_count front
stops_in [] back h = absurd (omega arith)
stops_in (item ∷ front) back h =
    elim (is_unmarked item) as (λ b. cond b (suc (unmarked_count front)) 0 < suc (length front) → cond b (suc (unmarked_count (front ++ back))) 0 ≡ cond b (suc (unmarked_count front)) 0) [
      | true ↦ λ p. ap suc (stops_in front back (omega arith))
      | false ↦ λ p. refl
    ] h

-- none does: those after them count too
goes_past : (front back : List Item) → length front ≤ unmarked_count front → unmarked_count (front ++ back) ≡ unmarked_count front + unmarked_count back
goes_past [] back h = omega arith
goes_past (item ∷ front) back h =
    elim (is_unmarked item) as (λ b. suc (length front) ≤ cond b (suc (unmarked_count front)) 0 → cond b (suc (unmarked_count (front ++ back))) 0 ≡ cond b (suc (unmarked_count front)) 0 + unmarked_count back) [
      | true ↦ λ p. let more = goes_past front back (omega arith) in omega arith
      | false ↦ λ p. absurd (omega arith)
    ] h

-- of two slices, the count ends in the first
pub count_in_front : (front back : List Item) (most there : ℕ) → there ≡ min most (length front) → unmarked_count (take there front) < there → unmarked_count (take there front) ≡ unmarked_count (take most (front ++ back))
count_in_front front back most there e h =
    let same : take there front ≡ take most front = ap (λ k. take k front) e ∙ take_min most front in
    let long : length (take there front) ≡ there = length-take there front ∙ omega (arith, e) in
    let short : unmarked_count (take most front) < length (take most front) = omega (arith, ap unmarked_count same, ap length same, long) in
    ap unmarked_count same ∙ sym (stops_in (take most front) (take (most - length front) back) short) ∙ ap unmarked_count (sym (take_both front back most))

-- or it goes on in the second
pub count_in_both : (front back : List Item) (most there left : ℕ) → there ≡ min most (length front) → there ≤ unmarked_count (take there front) → left ≡ min (most - there) (length back) → unmarked_count (take there front) + unmarked_count (take left back) ≡ unmarked_count (take most (front ++ back))
count_in_both front back most there left e h f =
    let same : take there front ≡ take most front = ap (λ k. take k front) e ∙ take_min most front in
    let long : length (take there front) ≡ there = length-take there front ∙ omega (arith, e) in
    let all : length (take most front) ≤ unmarked_count (take most front) = omega (arith, ap unmarked_count same, ap length same, long) in
    let rest : most - there ≡ most - length front = omega (arith, e) in
    let behind : take left back ≡ take (most - length front) back = ap (λ k. take k back) f ∙ take_min (most - there) back ∙ ap (λ k. take k back) rest in
    ap (λ n. n + unmarked_count (take left back)) (ap unmarked_count same)
    ∙ ap (λ items. unmarked_count (take most front) + unmarked_count items) behind
    ∙ sym (goes_past (take most front) (take (most - length front) back) all)
    ∙ ap unmarked_count (sym (take_both front back most))

-- where all of the first so many count, one more does that has no mark
pub all_count_on : (items : List Item) (i : ℕ) (d : Item) → i < length items → unmarked_count (take i items) ≡ i → is_unmarked (get_or items i d) ≡ true → unmarked_count (take (i + 1) items) ≡ i + 1
all_count_on items i d lt h e =
    let long : length (take i items) ≡ i = length-take-le i items (omega arith) in
    let one : unmarked_count (get_or items i d ∷ []) ≡ 1 = at_unmarked (get_or items i d) [] e in
    omega (arith, ap unmarked_count (take_more items i d lt), goes_past (take i items) (get_or items i d ∷ []) (omega arith), one, h)

-- where all of a block count, so do they in the whole
pub counts_block : (items : List Item) (i n : ℕ) → i + n ≤ length items → unmarked_count (take n (drop i items)) ≡ length (take n (drop i items)) → unmarked_count items ≡ i + unmarked_count (drop i items) → unmarked_count items ≡ i + n + unmarked_count (drop (i + n) items)
counts_block items i n lt h e =
    let long : length (take n (drop i items)) ≡ n = length-take-le n (drop i items) (omega (arith, length-drop i items)) in
    let split : unmarked_count (drop i items) ≡ n + unmarked_count (drop n (drop i items)) =
    ap unmarked_count (sym (take-append-drop n (drop i items))) ∙ goes_past (take n (drop i items)) (drop n (drop i items)) (omega arith) ∙ ap (λ k. k + unmarked_count (drop n (drop i items))) (h ∙ long) in
    omega (arith, e, split, ap unmarked_count (drop-drop n i items))
