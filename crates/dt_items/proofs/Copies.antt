-- Octets of the items that lie in two slices.
use Rattle.std.proofs.Common.{◌≡◌, ℕ, ◌+◌, ◌-◌, ◌<◌, ◌≤◌, zero, suc, min, List, [], ◌∷◌, ◌++◌, length, get_or, set, take, drop, sym, ap, ◌∙◌, append_assoc, length-append, length-take-le, arith}
use Rattle.std.proofs.lemmas.List.{append-nil, drop_all, drop_at, drop-drop, drop_more, length-drop, length-map, map-append, map_push, set_at, take_all, take_at, take_min, take_more}
use Rattle.dt_items.specs.declared.item.Item.{Item}
use Rattle.dt_items.specs.Unread.{octets_of}
use Rattle.dt_items.proofs.Marks.{blank}

-- the items after the first slice stand in the second
pub behind_front : (front back : List Item) (from : ℕ) → length front ≤ from → drop from (front ++ back) ≡ drop (from - length front) back
behind_front [] back from h = let e : from - 0 ≡ from = omega arith in sym (ap (λ k. drop k back) e)
behind_front (x ∷ front) back zero h = absurd (omega arith)
behind_front (x ∷ front) back (suc from) h =
    let e : suc from - suc (length front) ≡ from - length front = omega arith in
    behind_front front back from (omega arith) ∙ sym (ap (λ k. drop k back) e)

-- one octet more is written after those of the items before it
pub written_more : (items : List Item) (was room : List ℕ) (i : ℕ) → i < length items → length items ≤ length was → room ≡ octets_of (take i items) ++ drop i was
    → set room i (get_or items i blank).octet ≡ octets_of (take (i + 1) items) ++ drop (i + 1) was
written_more items was room i p q h =
    let octet = (get_or items i blank).octet in
    let l : length (octets_of (take i items)) ≡ i = length-map _ _ ∙ length-take-le i items (omega arith) in
    ap (λ b. set b i octet) (h ∙ ap (λ r. octets_of (take i items) ++ r) (drop_more was i 0 (omega arith)))
    ∙ set_at (octets_of (take i items)) (get_or was i 0) (drop (i + 1) was) octet i l
    ∙ sym (ap (λ r. r ++ drop (i + 1) was) (ap octets_of (take_more items i blank p) ∙ map_push _ (take i items) (get_or items i blank)) ∙ append_assoc (octets_of (take i items)) (octet ∷ []) (drop (i + 1) was))

pub take_both : (front back : List Item) (count : ℕ) → take count (front ++ back) ≡ take count front ++ take (count - length front) back
take_both [] back count =
    let e : count - 0 ≡ count = omega arith in
    sym (ap (λ k. take count [] ++ take k back) e ∙ ap (λ (none : List Item). none ++ take count back) (take_all count [] (omega arith)))
take_both (x ∷ front) back zero = let e : 0 - suc (length front) ≡ 0 = omega arith in sym (ap (λ k. take k back) e)
take_both (x ∷ front) back (suc count) =
    let e : suc count - suc (length front) ≡ count - length front = omega arith in
    ap (λ r. x ∷ r) (take_both front back count) ∙ sym (ap (λ k. x ∷ (take count front ++ take k back)) e)

-- what is left of a count after the first slice fits into the second
pub rest_fits : (front back : List Item) (count first : ℕ) → first ≡ min count (length front) → count ≤ length front + length back → count - first ≤ length back
rest_fits front back count first f p = omega (arith, f)

-- the octets of the first slice are written, and after them those of the second: the room's rest stays
pub copied : (front back : List Item) (was one part : List ℕ) (count first size : ℕ) → first ≡ min count (length front) → count ≤ length front + length back → count ≤ length was
    → one ≡ octets_of (take first front) ++ drop (length (take first front)) was → size ≡ length one - first
    → part ≡ octets_of (take (count - first) back) ++ drop (length (take (count - first) back)) (take size (drop first one))
    → take first one ++ (part ++ drop size (drop first one)) ≡ octets_of (take count (front ++ back)) ++ drop count was
copied front back was one part count first size f p q h s g =
    let heads = octets_of (take first front) in
    let tails = octets_of (take (count - first) back) in
    let k : length (take first front) ≡ first = length-take-le first front (omega (arith, f)) in
    let m : length (take (count - first) back) ≡ count - first = length-take-le (count - first) back (rest_fits front back count first f p) in
    let l : length heads ≡ first = length-map _ _ ∙ k in
    let rest = drop first was in
    let one_is : one ≡ heads ++ rest = h ∙ ap (λ n. heads ++ drop n was) k in
    let size_is : length rest ≤ size = omega (arith, f, s, l, ap length one_is, length-append heads rest, length-drop first was) in
    let behind : drop first one ≡ rest = ap (drop first) one_is ∙ drop_at heads rest first l in
    let mid : take size (drop first one) ≡ rest = ap (take size) behind ∙ take_all size rest size_is in
    let after : drop size (drop first one) ≡ [] = ap (drop size) behind ∙ drop_all size rest size_is in
    let whole : first + (count - first) ≡ count = omega (arith, f) in
    let left : drop (length (take (count - first) back)) (take size (drop first one)) ≡ drop count was =
    ap (λ n. drop n (take size (drop first one))) m ∙ ap (drop (count - first)) mid ∙ drop-drop (count - first) first was ∙ ap (λ n. drop n was) whole in
    let part_is : part ≡ tails ++ drop count was = g ∙ ap (λ r. tails ++ r) left in
    let short : count - first ≡ count - length front = omega (arith, f) in
    let same : take first front ++ take (count - first) back ≡ take count (front ++ back) =
    ap (λ n. take n front ++ take (count - first) back) f ∙ ap (λ r. r ++ take (count - first) back) (take_min count front) ∙ ap (λ n. take count front ++ take n back) short ∙ sym (take_both front back count) in
    ap (λ r. r ++ (part ++ drop size (drop first one))) (ap (take first) one_is ∙ take_at heads rest first l)
    ∙ ap (λ r. heads ++ (part ++ r)) after
    ∙ ap (λ r. heads ++ r) (append-nil part ∙ part_is)
    ∙ sym (append_assoc heads tails (drop count was))
    ∙ ap (λ r. r ++ drop count was) (sym (map-append (λ (item : Item). item.octet) (take first front) (take (count - first) back)) ∙ ap octets_of same)
