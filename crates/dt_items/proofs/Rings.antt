-- Items that are pushed on a ring, one after another.
use Rattle.std.proofs.Common.{◌≡◌, ℕ, suc, ◌+◌, ◌-◌, ◌<◌, ◌≤◌, Bool, List, [], ◌∷◌, ◌++◌, length, drop, take, get_or, sym, ap, ◌∙◌, append_assoc, length-append, length-take-le, arith}
use Rattle.std.proofs.lemmas.List.{drop-take, length-map, map-append, take-append-drop, take-take, take_more}
use Rattle.circular_buffer.specs.Buffer.{Buffer, buffer, keep_last}
use Rattle.dt_items.specs.declared.item.Item.{Item}
use Rattle.dt_items.specs.Unread.{marked, unmarked, unmarked_item}
use Rattle.dt_items.proofs.Marks.{blank, middle}

-- what fits is kept whole
keep_all : (n : ℕ) (items : List Item) → length items ≤ n → keep_last n items ≡ items
keep_all n items h =
    let e : length items - n ≡ 0 = omega arith in
    ap (λ k. drop k items) e

-- one more of these items, where the ones before it stand after what was there
pub pushed : (now was : Buffer Item) (items : List Item) (i : ℕ) (item : Item) → i < length items → length was.items + length items ≤ was.capacity → item ≡ get_or items i blank
    → now ≡ buffer (was.items ++ take i items) was.capacity
    → buffer (keep_last now.capacity (now.items ++ item ∷ [])) now.capacity ≡ buffer (was.items ++ take (i + 1) items) was.capacity
pushed now was items i item p q e h =
    let all : now.items ++ item ∷ [] ≡ was.items ++ take (i + 1) items =
    ap (λ b. b.items ++ item ∷ []) h ∙ append_assoc was.items (take i items) (item ∷ []) ∙ ap (λ x. was.items ++ (take i items ++ x ∷ [])) e ∙ ap (λ r. was.items ++ r) (sym (take_more items i blank p)) in
    let room : now.capacity ≡ was.capacity = ap (λ b. b.capacity) h in
    let l = length-take-le (i + 1) items (omega arith) in
    let m = length-append was.items (take (i + 1) items) in
    let n = ap length all in
    ap (λ b. buffer b now.capacity) (keep_all now.capacity (now.items ++ item ∷ []) (omega arith)) ∙ ap (λ r. buffer r now.capacity) all ∙ ap (λ k. buffer (was.items ++ take (i + 1) items) k) room

take_sum : (n m : ℕ) (xs : List ℕ) → take (n + m) xs ≡ take n xs ++ take m (drop n xs)
take_sum n m xs = sym (
    ap (λ front. front ++ take m (drop n xs)) (sym (take-take n (n + m) xs (omega arith)))
    ∙ ap (λ back. take n (take (n + m) xs) ++ back) (sym (drop-take n m xs))
    ∙ take-append-drop n (take (n + m) xs)
    )

-- so many more octets without marks, where the ones before them stand after what was there
pub appended : (now was : Buffer Item) (octets : List ℕ) (done count : ℕ) (items : List Item) → done + count ≤ length octets → length was.items + length octets ≤ was.capacity → items ≡ unmarked (take count (drop done octets))
    → now ≡ buffer (was.items ++ unmarked (take done octets)) was.capacity
    → buffer (keep_last now.capacity (now.items ++ items)) now.capacity ≡ buffer (was.items ++ unmarked (take (done + count) octets)) was.capacity
appended now was octets done count items p q e h =
    let both : unmarked (take done octets) ++ items ≡ unmarked (take (done + count) octets) =
    ap (λ more. unmarked (take done octets) ++ more) e ∙ sym (map-append unmarked_item (take done octets) (take count (drop done octets))) ∙ ap unmarked (sym (take_sum done count octets)) in
    let all : now.items ++ items ≡ was.items ++ unmarked (take (done + count) octets) =
    ap (λ b. b.items ++ items) h ∙ append_assoc was.items (unmarked (take done octets)) items ∙ ap (λ r. was.items ++ r) both in
    let room : now.capacity ≡ was.capacity = ap (λ b. b.capacity) h in
    let l = length-take-le (done + count) octets p in
    let k = length-map (take (done + count) octets) unmarked_item in
    let m = length-append was.items (unmarked (take (done + count) octets)) in
    let n = ap length all in
    ap (λ b. buffer b now.capacity) (keep_all now.capacity (now.items ++ items) (omega arith)) ∙ ap (λ r. buffer r now.capacity) all ∙ ap (λ k. buffer (was.items ++ unmarked (take (done + count) octets)) k) room

-- the octets between the first and the last stand after the first
pub appended_middle : (now first was : Buffer Item) (octets : List ℕ) (last : ℕ) (begin end run : Bool) → suc last ≡ length octets → 0 < last
    → first ≡ buffer (was.items ++ take 1 (marked octets begin end run)) was.capacity
    → now ≡ buffer (first.items ++ unmarked (take (last - 1) (drop 1 octets))) first.capacity
    → now ≡ buffer (was.items ++ take last (marked octets begin end run)) was.capacity
appended_middle now first was octets last begin end run p q f h =
    let between = unmarked (take (last - 1) (drop 1 octets)) in
    h ∙ ap (λ b. buffer (b.items ++ between) b.capacity) f ∙ ap (λ r. buffer r was.capacity) (append_assoc was.items (take 1 (marked octets begin end run)) between ∙ ap (λ r. was.items ++ r) (sym (middle octets last begin end run p q)))
