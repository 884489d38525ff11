-- What a read takes of the items, and what it leaves.
use Rattle.std.proofs.Common.{◌≡◌, ℕ, zero, suc, ◌+◌, ◌-◌, ◌<◌, ◌≤◌, true, false, cond, List, [], ◌∷◌, ◌++◌, length, set, take, drop, Some, refl, subst, sym, ap, ◌∙◌, arith}
use Rattle.std.specs.List.{slice_get}
use Rattle.std.proofs.lemmas.List.{append-nil, drop_all, take_all, take-append-drop}
use Rattle.dt_items.specs.declared.item.Item.{Item}
use Rattle.dt_items.specs.Unread.{goes_on, following, first_piece, last_item, octets_of, TakesPiece}

-- a prefix of as many items as the piece has is the piece
following_prefix : (n : ℕ) (before : Item) (items : List Item) → take (length (following n before items)) items ≡ following n before items
following_prefix n before [] = refl
following_prefix zero before (item ∷ items) = refl
following_prefix (suc n) before (item ∷ items) =
    elim (goes_on before item) as (λ b. take (length (cond b (item ∷ following n item items) [])) (item ∷ items) ≡ cond b (item ∷ following n item items) []) [
      | true ↦ ap (λ r. item ∷ r) (following_prefix n item items)
      | false ↦ refl
    ]

pub first_piece-prefix : (n : ℕ) (items : List Item) → take (length (first_piece n items)) items ≡ first_piece n items
first_piece-prefix n [] = refl
first_piece-prefix zero (item ∷ items) = refl
first_piece-prefix (suc n) (item ∷ items) = ap (λ r. item ∷ r) (following_prefix n item items)

following_fits : (n : ℕ) (before : Item) (items : List Item) → length (following n before items) ≤ n
following_fits n before [] = omega arith
following_fits zero before (item ∷ items) = omega arith
following_fits (suc n) before (item ∷ items) =
    elim (goes_on before item) as (λ b. length (cond b (item ∷ following n item items) []) ≤ suc n) [
      | true ↦ omega (arith, following_fits n item items)
      | false ↦ omega arith
    ]

pub first_piece-fits : (n : ℕ) (items : List Item) → length (first_piece n items) ≤ n
first_piece-fits n [] = omega arith
first_piece-fits zero (item ∷ items) = omega arith
first_piece-fits (suc n) (item ∷ items) = omega (arith, following_fits n item items)

-- what a read of a buffer of m octets and one more does, where the first item and those after it that
-- go on its piece are written to its front
pub takes : (m : ℕ) (first : Item) (rest : List Item) (was : List ℕ) (more : ℕ) (last : Item) (buf : List ℕ) → more ≡ length (following m first rest) → last ≡ last_item first (take more rest)
    → buf ≡ first.octet ∷ (octets_of (take more rest) ++ drop (suc more) was)
    → TakesPiece (suc m) (first ∷ rest) was (record { len = more + 1; begin = first.begin; end = last.end; run = first.run }) (drop more rest) buf
takes m first rest was more last buf e l b =
    let piece : take more rest ≡ following m first rest = ap (λ k. take k rest) e ∙ following_prefix m first rest in
    let len : length (following m first rest) ≡ more = sym e in
    let ended : (last_item first (following m first rest)).end ≡ last.end = ap (λ items. (last_item first items).end) (sym piece) ∙ ap (λ (item : Item). item.end) (sym l) in
    record {
      told = ap (λ k. Some (record { len = k + 1; begin = first.begin; end = (last_item first (following m first rest)).end; run = first.run })) len ∙ ap (λ z. Some (record { len = more + 1; begin = first.begin; end = z; run = first.run })) ended;
      split = ap (λ items. first ∷ items) (sym (take-append-drop more rest) ∙ ap (λ items. items ++ drop more rest) piece);
      octets = b ∙ ap (λ items. first.octet ∷ (octets_of items ++ drop (suc more) was)) piece ∙ ap (λ k. first.octet ∷ (octets_of (following m first rest) ++ drop (suc k) was)) e;
    }

-- the same where the first octet is written, and those of the others to the rest of the buffer
pub takes_behind : (first : Item) (rest : List Item) (was : List ℕ) (more size : ℕ) (last : Item) (room : List ℕ) → 0 < length was → size ≡ length (set was 0 first.octet) - 1 → more ≡ length (following (length was - 1) first rest) → last ≡ last_item first (take more rest)
    → room ≡ octets_of (take more rest) ++ drop more (take size (drop 1 (set was 0 first.octet)))
    → TakesPiece (length was) (first ∷ rest) was (record { len = more + 1; begin = first.begin; end = last.end; run = first.run }) (drop (more + 1 - 1) rest) (take 1 (set was 0 first.octet) ++ (room ++ drop size (drop 1 (set was 0 first.octet))))
takes_behind first rest [] more size last room some z e l b = absurd (omega arith)
takes_behind first rest (w ∷ was) more size last room some z e l b =
    let one : suc (length was) - 1 ≡ length was = omega arith in
    let same : more + 1 - 1 ≡ more = omega arith in
    let within : length was ≤ size = omega arith in
    let written : room ++ drop size was ≡ octets_of (take more rest) ++ drop more was =
    ap (λ r. room ++ r) (drop_all size was within) ∙ append-nil room ∙ b ∙ ap (λ r. octets_of (take more rest) ++ drop more r) (take_all size was within) in
    subst (λ (k : ℕ). TakesPiece (suc (length was)) (first ∷ rest) (w ∷ was) (record { len = more + 1; begin = first.begin; end = last.end; run = first.run }) (drop k rest) (first.octet ∷ (room ++ drop size was))) (sym same)
    (takes (length was) first rest (w ∷ was) more last (first.octet ∷ (room ++ drop size was)) (e ∙ ap (λ k. length (following k first rest)) one) l (ap (λ r. first.octet ∷ r) written))

last_item-at : (first : Item) (items : List Item) (k : ℕ) (x : Item) → slice_get items k ≡ Some x → last_item first (take (suc k) items) ≡ x
last_item-at first [] k x h = cc
last_item-at first (item ∷ items) zero x h = cc
last_item-at first (item ∷ items) (suc k) x h = last_item-at item items k x h

pub last_item-is : (first : Item) (items : List Item) (more : ℕ) (x : Item) → 0 < more → slice_get items (more - 1) ≡ Some x → x ≡ last_item first (take more items)
last_item-is first items zero x lt h = absurd (omega arith)
last_item-is first items (suc k) x lt h =
    let e : suc k - 1 ≡ k = omega arith in
    sym (last_item-at first items k x (ap (slice_get items) (sym e) ∙ h))
