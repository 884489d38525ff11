-- Sent segments as parts of one list of items.
use Rattle.std.proofs.Common.{ℕ, zero, suc, ◌+◌, ◌≤◌, ◌≡◌, List, [], ◌∷◌, ◌++◌, length, take, drop, set, Some, refl, sym, ap, ◌∙◌, subst, arith}
use Rattle.std.specs.List.{All, slice_get}
use Rattle.std.specs.Option.{option_map}
use Rattle.std.proofs.lemmas.List.{drop-drop, drop_more, take-append-drop, take-append-le, drop-append-le, length-drop, length-take-le}
use Rattle.std.proofs.lemmas.List.Elements.{All-head}
use Rattle.std.proofs.lemmas.Option.{get_or_from_slice_get, slice_get_within}
use Rattle.dt_items.specs.declared.item.Item.{Item}
use Rattle.dt_flow_model.specs.Facts.{Chain}
use Rattle.dt_flow_model.specs.SendRecord.{Segment, items_in, next_from}
use Rattle.dt_flow_model.proofs.Chains.{all_drop, chain_next}
use Rattle.dt_send.specs.declared.sent_segments.SentSegment.{SentSegment}
use Rattle.dt_send.specs.SentSegments.{segment_of, segments_of, octets_in}

-- the rest of a list from a place on
pub drop_at : {X : Type 0} (xs : List X) (i : ℕ) (x : X) → slice_get xs i ≡ Some x → drop i xs ≡ x ∷ drop (i + 1) xs
drop_at xs i x h = drop_more xs i x (slice_get_within xs i x h) ∙ ap (λ y. y ∷ drop (i + 1) xs) (get_or_from_slice_get xs i x x h)

pub split_at : {X : Type 0} (xs : List X) (i : ℕ) (x : X) → slice_get xs i ≡ Some x → xs ≡ take i xs ++ x ∷ drop (i + 1) xs
split_at xs i x h = sym (take-append-drop i xs) ∙ ap (λ rest. take i xs ++ rest) (drop_at xs i x h)

pub segments-length : (ss : List SentSegment) (items : List Item) → length (segments_of ss items) ≡ length ss
segments-length [] items = refl
segments-length (s ∷ ss) items = ap suc (segments-length ss (drop s.length items))

pub items_in-segments : (ss : List SentSegment) (items : List Item) → octets_in ss ≤ length items → items_in (segments_of ss items) ≡ octets_in ss
items_in-segments [] items h = refl
items_in-segments (s ∷ ss) items h =
    let one : length (take s.length items) ≡ s.length = length-take-le s.length items (omega arith) in
    let rest = items_in-segments ss (drop s.length items) (simp length-drop (omega arith)) in
    omega arith

pub octets_in-append : (ss ts : List SentSegment) → octets_in (ss ++ ts) ≡ octets_in ss + octets_in ts
octets_in-append [] ts = omega arith
octets_in-append (s ∷ ss) ts = omega (arith, octets_in-append ss ts)

pub segments-append : (ss ts : List SentSegment) (items : List Item) → segments_of (ss ++ ts) items ≡ segments_of ss items ++ segments_of ts (drop (octets_in ss) items)
segments-append [] ts items = refl
segments-append (s ∷ ss) ts items =
    ap (λ gs. segment_of s items ∷ gs) (segments-append ss ts (drop s.length items) ∙ ap (λ is. segments_of ss (drop s.length items) ++ segments_of ts is) (drop-drop (octets_in ss) s.length items))

-- items after them change nothing
pub segments-more : (ss : List SentSegment) (items more : List Item) → octets_in ss ≤ length items → segments_of ss (items ++ more) ≡ segments_of ss items
segments-more [] items more h = refl
segments-more (s ∷ ss) items more h =
    ap (λ is. (record { offset = s.offset; items = is; first = s.first; last = s.last }) ∷ segments_of ss (drop s.length (items ++ more))) (take-append-le s.length items more (omega arith))
    ∙ ap (λ is. segment_of s items ∷ segments_of ss is) (drop-append-le s.length items more (omega arith))
    ∙ ap (λ gs. segment_of s items ∷ gs) (segments-more ss (drop s.length items) more (simp length-drop (omega arith)))

-- the segment at a place
pub segment-get : (ss : List SentSegment) (items : List Item) (i : ℕ) (s : SentSegment) → slice_get ss i ≡ Some s → slice_get (segments_of ss items) i ≡ Some (segment_of s (drop (octets_in (take i ss)) items))
segment-get [] items i s h = absurd cc
segment-get (t ∷ ss) items zero s h = ap (λ o. option_map (λ x. segment_of x items) o) h
segment-get (t ∷ ss) items (suc i) s h = segment-get ss (drop t.length items) i s h ∙ ap (λ is. Some (segment_of s is)) (drop-drop (octets_in (take i ss)) t.length items)

pub within-at : (ss : List SentSegment) (i : ℕ) (s : SentSegment) → slice_get ss i ≡ Some s → octets_in (take i ss) + s.length ≤ octets_in ss
within-at [] i s h = absurd cc
within-at (t ∷ ss) zero s h = let same : t ≡ s = cc in let e = ap (λ (x : SentSegment). x.length) same in omega arith
within-at (t ∷ ss) (suc i) s h = let rest = within-at ss i s h in omega arith

pub offset-at : (left : ℕ) (ss : List SentSegment) (items : List Item) (i : ℕ) (s : SentSegment) → octets_in ss ≤ length items → Chain left (segments_of ss items) → slice_get ss i ≡ Some s → s.offset ≡ left + octets_in (take i ss)
offset-at left [] items i s lie chain h = absurd cc
offset-at left (t ∷ ss) items zero s lie chain h = let same : t ≡ s = cc in let e = ap (λ (x : SentSegment). x.offset) same in omega (arith, chain.0)
offset-at left (t ∷ ss) items (suc i) s lie chain h =
    let one : length (take t.length items) ≡ t.length = length-take-le t.length items (omega arith) in
    let rest = offset-at (t.offset + length (take t.length items)) ss (drop t.length items) i s (simp length-drop (omega arith)) chain.2 h in
    omega (arith, chain.0)

-- a fact of each segment holds of the one at a place
pub fact-at : (P : Segment → Type 0) (gs : List Segment) (i : ℕ) (g : Segment) → All P gs → slice_get gs i ≡ Some g → P g
fact-at P gs i g h e = All-head P g (drop (i + 1) gs) (subst (λ hs. All P hs) (drop_at gs i g e) (all_drop P i gs h))

-- where the segments end
pub next-segments : (left : ℕ) (ss : List SentSegment) (items : List Item) → octets_in ss ≤ length items → Chain left (segments_of ss items) → next_from left (segments_of ss items) ≡ left + octets_in ss
next-segments left ss items lie chain = omega (arith, chain_next left (segments_of ss items) chain, items_in-segments ss items lie)

-- the segments from a place on, and those before it
pub segments-drop : (ss : List SentSegment) (items : List Item) (n : ℕ) → segments_of (drop n ss) (drop (octets_in (take n ss)) items) ≡ drop n (segments_of ss items)
segments-drop ss items zero = refl
segments-drop [] items (suc n) = refl
segments-drop (s ∷ ss) items (suc n) = ap (λ is. segments_of (drop n ss) is) (sym (drop-drop (octets_in (take n ss)) s.length items)) ∙ segments-drop ss (drop s.length items) n

pub segments-take : (ss : List SentSegment) (items : List Item) (n : ℕ) → segments_of (take n ss) items ≡ take n (segments_of ss items)
segments-take ss items zero = refl
segments-take [] items (suc n) = refl
segments-take (s ∷ ss) items (suc n) = ap (λ gs. segment_of s items ∷ gs) (segments-take ss (drop s.length items) n)

pub octets_in-parts : (ss : List SentSegment) (n : ℕ) → octets_in (take n ss) + octets_in (drop n ss) ≡ octets_in ss
octets_in-parts ss n = sym (octets_in-append (take n ss) (drop n ss)) ∙ ap octets_in (take-append-drop n ss)

pub waiting-drop : (ss : List SentSegment) (items : List Item) (n : ℕ) → drop (octets_in (drop n ss)) (drop (octets_in (take n ss)) items) ≡ drop (octets_in ss) items
waiting-drop ss items n = drop-drop (octets_in (drop n ss)) (octets_in (take n ss)) items ∙ ap (λ k. drop k items) (octets_in-parts ss n)

pub octets-take-more : (ss : List SentSegment) (i : ℕ) (s : SentSegment) → slice_get ss i ≡ Some s → octets_in (take (i + 1) ss) ≡ octets_in (take i ss) + s.length
octets-take-more [] i s h = absurd cc
octets-take-more (t ∷ ss) zero s h = let same : t ≡ s = cc in let e = ap (λ (x : SentSegment). x.length) same in omega arith
octets-take-more (t ∷ ss) (suc i) s h =
    let rest = octets-take-more ss i s h in
    let e : suc i + 1 ≡ suc (i + 1) = omega arith in
    rw e (omega arith)

pub no_segments : (ss : List SentSegment) (items : List Item) → segments_of ss items ≡ [] → ss ≡ []
no_segments [] items h = refl
no_segments (s ∷ ss) items h = absurd cc

-- a segment goes out again: its last moment alone is another
pub segments-again : (ss : List SentSegment) (items : List Item) (i : ℕ) (s : SentSegment) (now : ℕ) → slice_get ss i ≡ Some s → segments_of (set ss i (record s { last = now })) items ≡ take i (segments_of ss items) ++ (record (segment_of s (drop (octets_in (take i ss)) items)) { last = now }) ∷ drop (i + 1) (segments_of ss items)
segments-again [] items i s now h = absurd cc
segments-again (t ∷ ss) items zero s now h =
    let same : s ≡ t = cc in
    ap (λ (x : SentSegment). (record (segment_of s items) { last = now }) ∷ segments_of ss (drop x.length items)) same
segments-again (t ∷ ss) items (suc i) s now h =
    let e : suc i + 1 ≡ suc (i + 1) = omega arith in
    rw e
    (ap (λ gs. segment_of t items ∷ gs) (segments-again ss (drop t.length items) i s now h)
    ∙ ap (λ is. segment_of t items ∷ (take i (segments_of ss (drop t.length items)) ++ (record (segment_of s is) { last = now }) ∷ drop (i + 1) (segments_of ss (drop t.length items)))) (drop-drop (octets_in (take i ss)) t.length items))

pub octets_in-again : (ss : List SentSegment) (i : ℕ) (s : SentSegment) (now : ℕ) → slice_get ss i ≡ Some s → octets_in (set ss i (record s { last = now })) ≡ octets_in ss
octets_in-again [] i s now h = absurd cc
octets_in-again (t ∷ ss) zero s now h = let same : s ≡ t = cc in ap (λ (x : SentSegment). x.length + octets_in ss) same
octets_in-again (t ∷ ss) (suc i) s now h = ap (λ n. t.length + n) (octets_in-again ss i s now h)
