-- How the length of a cut is found item by item.
use Rattle.std.proofs.Common.{add-one, ◌≡◌, ℕ, zero, suc, ◌+◌, ◌-◌, ◌==◌, ◌<◌, ◌≤◌, Bool, true, false, not, ◌&&◌, ◌||◌, if◌then◌else◌, cond, List, [], ◌∷◌, length, get_or, take, drop, refl, sym, ap, ◌∙◌, arith}
use Rattle.std.proofs.lemmas.List.{drop_all, drop-drop}
use Rattle.std.proofs.lemmas.Bool.Decides.{nat_tests}
use Rattle.std.proofs.Math.Seq.{drop-cons}
use Rattle.std.proofs.lemmas.Bool.{eqb-true, eqb-false}
use Rattle.dt_items.specs.declared.item.Item.{Item}
use Rattle.dt_items.specs.Unmarked.{is_unmarked, unmarked_count}
use Rattle.dt_items.proofs.Longest.{all_off}
use Rattle.dt_flow_model.specs.SendRecord.{cut_length}

-- the item after which a segment ends, with what follows it
abbrev after_item : ℕ → Item → List Item → ℕ
after_item n x xs = if x.end then 0 else cut_length n false xs

stops : (n : ℕ) (first full : Bool) (x : Item) (xs : List Item) → (full ≡ true → n ≡ 0) → (full || (x.begin && not first)) ≡ true → cut_length n first (x ∷ xs) ≡ 0
stops zero first full x xs f h = refl
stops (suc n) first true x xs f h = absurd (let e = f refl in omega arith)
stops (suc n) first false x xs f h = rw h refl

goes : (n : ℕ) (first full : Bool) (x : Item) (xs : List Item) → (full ≡ false → 0 < n) → (full || (x.begin && not first)) ≡ false → cut_length n first (x ∷ xs) ≡ suc (after_item (n - 1) x xs)
goes n first true x xs f h = cc
goes zero first false x xs f h = absurd (let e = f refl in omega arith)
goes (suc n) first false x xs f h = let e : suc n - 1 ≡ n = omega arith in rw (h, e) refl

no_zero : (i : ℕ) → (suc i == 0) ≡ false
no_zero i = grind arith

cut_none : (n : ℕ) (first : Bool) → cut_length n first [] ≡ 0
cut_none zero first = refl
cut_none (suc n) first = refl

left_false : (a b : Bool) → (a || b) ≡ false → a ≡ false
left_false true b h = h
left_false false b h = refl

-- the item at a place beyond the segment: the segment ends before it
pub beyond : (most i : ℕ) (items : List Item) (d : Item) → i < length items → i ≤ most → ((i == most) || ((get_or items i d).begin && not (i == 0))) ≡ true → cut_length (most - i) (i == 0) (drop i items) ≡ 0
beyond most i items d lt le h = rw (drop-cons items i d lt) (stops (most - i) (i == 0) (i == most) (get_or items i d) (drop (suc i) items) (λ e. let q = eqb-true i most e in omega arith) h)

-- the item at a place within the segment: it goes into it
pub within : (most i : ℕ) (items : List Item) (d : Item) → i < length items → i ≤ most → ((i == most) || ((get_or items i d).begin && not (i == 0))) ≡ false → cut_length (most - i) (i == 0) (drop i items) ≡ suc (after_item (most - i - 1) (get_or items i d) (drop (suc i) items))
within most i items d lt le h = rw (drop-cons items i d lt) (goes (most - i) (i == 0) (i == most) (get_or items i d) (drop (suc i) items) (λ e. let q = eqb-false i most e in omega arith) h)

-- the whole cut, where the items before a place go into it
abbrev pub so_far : ℕ → ℕ → List Item → Type 0
so_far most i items = cut_length most true items ≡ i + cut_length (most - i) (i == 0) (drop i items)

pub ends_beyond : (most i : ℕ) (items : List Item) (d : Item) → i < length items → i ≤ most → so_far most i items → ((i == most) || ((get_or items i d).begin && not (i == 0))) ≡ true → i ≡ cut_length most true items
ends_beyond most i items d lt le s h = omega (arith, s, beyond most i items d lt le h)

pub ends_at : (most i : ℕ) (items : List Item) (d : Item) → i < length items → i ≤ most → so_far most i items → ((i == most) || ((get_or items i d).begin && not (i == 0))) ≡ false → (get_or items i d).end ≡ true → i + 1 ≡ cut_length most true items
ends_at most i items d lt le s h e = omega (arith, s, within most i items d lt le h ∙ ap (λ b. suc (if b then 0 else cut_length (most - i - 1) false (drop (suc i) items))) e)

pub goes_on : (most i : ℕ) (items : List Item) (d : Item) → i < length items → i ≤ most → so_far most i items → ((i == most) || ((get_or items i d).begin && not (i == 0))) ≡ false → (get_or items i d).end ≡ false → so_far most (i + 1) items
goes_on most i items d lt le s h e =
    let tail : ℕ → ℕ = λ n. suc (cut_length n false (drop (suc i) items)) in
    let one : most - i - 1 ≡ most - suc i = omega arith in
    let step = within most i items d lt le h ∙ ap (λ b. suc (if b then 0 else cut_length (most - i - 1) false (drop (suc i) items))) e ∙ ap tail one in
    rw (add-one i, no_zero i) (omega (arith, s, step))

pub ends_all : (most : ℕ) (items : List Item) (i : ℕ) → length items ≤ i → so_far most i items → i ≡ cut_length most true items
ends_all most items i le s = omega (arith, s, ap (cut_length (most - i) (i == 0)) (drop_all i items le) ∙ cut_none (most - i) (i == 0))

-- an item that isn't beyond the segment stands below its greatest length
pub below_most : (most i : ℕ) (begins : Bool) → i ≤ most → ((i == most) || begins) ≡ false → i + 1 ≤ most
below_most most i begins le h = let differs = eqb-false i most (left_false (i == most) begins h) in omega arith

-- items without marks go into a segment after its first item, as many as there is room for
over : (m : ℕ) (items : List Item) → cut_length m false items ≡ unmarked_count (take m items) + cut_length (m - unmarked_count (take m items)) false (drop (unmarked_count (take m items)) items)
over zero items = refl
over (suc m) [] = let e : suc m - 0 ≡ suc m = omega arith in omega (arith, ap (λ k. cut_length k false []) e)
over (suc m) (x ∷ xs) =
    elim (is_unmarked x) as (λ b. is_unmarked x ≡ b → cut_length (suc m) false (x ∷ xs) ≡ cond b (suc (unmarked_count (take m xs))) 0 + cut_length (suc m - cond b (suc (unmarked_count (take m xs))) 0) false (drop (cond b (suc (unmarked_count (take m xs))) 0) (x ∷ xs))) [
      | true ↦ λ e.
          let off = all_off x.end x.begin x.run e in
          let step : cut_length (suc m) false (x ∷ xs) ≡ suc (cut_length m false xs) = rw (off.0, off.1) refl in
          let less : suc m - suc (unmarked_count (take m xs)) ≡ m - unmarked_count (take m xs) = omega arith in
          rw less (omega (arith, step, over m xs))
      | false ↦ λ e. let same : suc m - 0 ≡ suc m = omega arith in omega (arith, ap (λ k. cut_length k false (x ∷ xs)) same)
    ] refl

pub jumps : (most i place from n : ℕ) (all items : List Item) → items ≡ drop from all → place ≡ from + i → 0 < i → i ≤ most → so_far most i items → n ≡ unmarked_count (take (most - i) (drop place all)) → so_far most (i + n) items
jumps most i place from n all items e p some le s h =
    let there : drop place all ≡ drop i items = ap (λ k. drop k all) p ∙ sym (drop-drop i from all) ∙ ap (drop i) (sym e) in
    let count : n ≡ unmarked_count (take (most - i) (drop i items)) = h ∙ ap (λ xs. unmarked_count (take (most - i) xs)) there in
    let first : (i == 0) ≡ false = grind (arith, nat_tests) in
    let later : (i + n == 0) ≡ false = grind (arith, nat_tests) in
    let rest : most - i - n ≡ most - (i + n) = omega arith in
    let step : cut_length (most - i) false (drop i items) ≡ n + cut_length (most - i - n) false (drop n (drop i items)) =
    over (most - i) (drop i items) ∙ ap (λ k. k + cut_length (most - i - k) false (drop k (drop i items))) (sym count) in
    let behind : drop n (drop i items) ≡ drop (i + n) items = drop-drop n i items in
    let whole : cut_length most true items ≡ i + cut_length (most - i) false (drop i items) = s ∙ ap (λ b. i + cut_length (most - i) b (drop i items)) first in
    let left : cut_length (most - i - n) false (drop n (drop i items)) ≡ cut_length (most - (i + n)) (i + n == 0) (drop (i + n) items) =
    ap (λ k. cut_length k false (drop n (drop i items))) rest ∙ ap (λ xs. cut_length (most - (i + n)) false xs) behind ∙ ap (λ b. cut_length (most - (i + n)) b (drop (i + n) items)) (sym later) in
    omega (arith, whole, step, left)
