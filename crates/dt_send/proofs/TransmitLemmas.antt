-- What is told and written of a segment that goes out.
use Rattle.std.proofs.Common.{ℕ, ◌+◌, ◌<◌, ◌≤◌, ◌≡◌, Bool, true, false, List, [], ◌∷◌, ◌++◌, length, take, drop, get_or, Some, refl, sym, ap, ◌∙◌, arith, eqb, append_assoc}
use Rattle.std.specs.Prelude.{◌&&◌}
use Rattle.std.specs.List.{slice_get}
use Rattle.std.proofs.lemmas.List.{drop-drop, drop-take, get_or-drop, get_or-take, length-drop, length-map, length-take-le, map-append, take-append-drop, take-take, take_at}
use Rattle.std.proofs.lemmas.Option.{get_or_from_slice_get}
use Rattle.std.proofs.lemmas.Bool.Decides.{nat_tests}
use Rattle.dt_items.specs.declared.item.Item.{Item}
use Rattle.dt_items.specs.Unread.{octets_of}
use Rattle.dt_items.proofs.Marks.{blank, marked-at}
use Rattle.dt_flow_model.specs.Keeping.{IsPieceSent}
use Rattle.dt_flow_model.specs.SendRecord.{begins, ends}

-- an item of a sent segment
pub item_within : (all : List Item) (from n i place : ℕ) (x : Item) → place ≡ from + i → i < n → slice_get all place ≡ Some x → get_or (take n (drop from all)) i blank ≡ x
item_within all from n i place x e lt h = get_or-take n (drop from all) i blank lt ∙ get_or-drop from all i blank ∙ ap (λ (k : ℕ). get_or all k blank) (sym e) ∙ get_or_from_slice_get all place x blank h

pub begins-first : (items : List Item) (x : Item) → 0 < length items → get_or items 0 blank ≡ x → begins items ≡ x.begin
begins-first [] x lt h = absurd (omega arith)
begins-first (i ∷ is) x lt h = ap (λ (j : Item). j.begin) h

and_true : (b c : Bool) → c ≡ true → (b && c) ≡ b
and_true true c h = h
and_true false c h = refl

pub ends-last : (items : List Item) (i : ℕ) (x : Item) → IsPieceSent items → i + 1 ≡ length items → get_or items i blank ≡ x → ends items ≡ x.end
ends-last items i x piece e h =
    let n : length (octets_of items) ≡ length items = length-map items (λ (j : Item). j.octet) in
    let at = marked-at (octets_of items) i (begins items) (ends items) false blank (omega arith) in
    let last : eqb (i + 1) (length (octets_of items)) ≡ true = grind (arith, nat_tests) in
    sym (ap (λ (j : Item). j.end) (sym h ∙ ap (λ (is : List Item). get_or is i blank) piece ∙ at) ∙ and_true (ends items) (eqb (i + 1) (length (octets_of items))) last)

-- so many items, and then more of them
take_sum : (n m : ℕ) (items : List Item) → take (n + m) items ≡ take n items ++ take m (drop n items)
take_sum n m items = sym (
    ap (λ front. front ++ take m (drop n items)) (sym (take-take n (n + m) items (omega arith)))
    ∙ ap (λ back. take n (take (n + m) items) ++ back) (sym (drop-take n m items))
    ∙ take-append-drop n (take (n + m) items)
    )

-- the octets of more items stand after those of the items before them
pub appended : (items : List Item) (from done more : ℕ) (was now stage rest next : List ℕ) → from + done + more ≤ length items → now ≡ was ++ octets_of (take done (drop from items))
    → stage ≡ octets_of (take more (drop (from + done) items)) ++ rest → next ≡ now ++ take more stage → next ≡ was ++ octets_of (take (done + more) (drop from items))
appended items from done more was now stage rest next there so_far made e =
    let there_is : drop (from + done) items ≡ drop done (drop from items) = sym (drop-drop done from items) in
    let piece = take more (drop (from + done) items) in
    let size : length (octets_of piece) ≡ more = length-map piece (λ (item : Item). item.octet) ∙ length-take-le more (drop (from + done) items) (omega (arith, length-drop (from + done) items)) in
    let staged : take more stage ≡ octets_of piece = ap (take more) made ∙ take_at (octets_of piece) rest more size in
    let before = octets_of (take done (drop from items)) in
    e
    ∙ ap (λ (front : List ℕ). front ++ take more stage) so_far
    ∙ append_assoc was before (take more stage)
    ∙ ap (λ (back : List ℕ). was ++ (before ++ back)) (staged ∙ ap (λ (l : List Item). octets_of (take more l)) there_is)
    ∙ ap (λ (back : List ℕ). was ++ back) (sym (map-append (λ (item : Item). item.octet) (take done (drop from items)) (take more (drop done (drop from items)))) ∙ ap octets_of (sym (take_sum done more (drop from items))))
