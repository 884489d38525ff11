-- What waits to be read: octets with their marks, and the pieces that reads take of them.
use Rattle.std.specs.Prelude.{ℕ, zero, suc, ◌+◌, ◌<◌, ◌≤◌, ◌≡◌, Bool, false, not, ◌||◌, if◌then◌else◌, List, [], ◌∷◌, ◌++◌, length, take, drop, map, slice_index_or, Option, Some, None}
use Rattle.dt_items.specs.declared.item.Item.{Item}
use Rattle.dt_items.specs.declared.marked_octets.MarkedOctets.{MarkedOctets}
use Rattle.dt_items.specs.declared.piece.Piece.{Piece}

-- A queue: its unread items, the next to be read first, and the most that there may be.
pub record Backlog : Type 0 where
  pub items : List Item
  pub room : ℕ

-- Octets that come together: the first gets the marks begin and run, the last gets the mark end,
-- and all other marks are off.
abbrev pub marked : List ℕ → Bool → Bool → Bool → List Item
marked [] begin end run = []
marked (octet ∷ []) begin end run = record { octet = octet; begin = begin; end = end; run = run } ∷ []
marked (octet ∷ next ∷ rest) begin end run =
    record { octet = octet; begin = begin; end = false; run = run } ∷ marked (next ∷ rest) false end false

-- octets with their two marks, as items without a run mark
abbrev pub items_of : MarkedOctets → List Item
items_of m = marked m.octets.now m.begin m.end false

-- an octet without marks, and octets without marks
abbrev pub unmarked_item : ℕ → Item
unmarked_item octet = record { octet = octet; begin = false; end = false; run = false }

abbrev pub unmarked : List ℕ → List Item
unmarked octets = map unmarked_item octets

abbrev pub octets_of : List Item → List ℕ
octets_of items = map (λ item. item.octet) items

-- Whether an item goes on the piece of the item before it: that one has no end mark, and this one
-- has neither a begin mark nor a run mark.
abbrev pub goes_on : Item → Item → Bool
goes_on before item = not (before.end || (item.begin || item.run))

-- the items, at most n, that go on the piece of the item before them
abbrev pub following : ℕ → Item → List Item → List Item
following n before [] = []
following zero before (item ∷ items) = []
following (suc n) before (item ∷ items) = if goes_on before item then item ∷ following n item items else []

-- What a read of n octets takes: the longest prefix of at most n items in which an end mark stands
-- only on the last and a begin or run mark only on the first.
abbrev pub first_piece : ℕ → List Item → List Item
first_piece n [] = []
first_piece zero (item ∷ items) = []
first_piece (suc n) (item ∷ items) = item ∷ following n item items

-- the last of some items, the first of which is given
abbrev pub last_item : Item → List Item → Item
last_item item [] = item
last_item item (next ∷ items) = last_item next items

-- What a read tells of the items that it took: nothing where there are none, and else their number,
-- the marks begin and run of the first and the mark end of the last.
abbrev pub piece_told : List Item → Option Piece
piece_told [] = None
piece_told (first ∷ rest) =
    Some (record { len = length rest + 1; begin = first.begin; end = (last_item first rest).end; run = first.run })

-- Items of one piece: an end mark stands only on the last, and a begin or run mark only on the first.
pub record IsOnePiece (items : List Item) : Type 0 where
  pub end_last : (i : ℕ) (d : Item) → i + 1 < length items → (slice_index_or items i d).end ≡ false
  pub begin_first : (i : ℕ) (d : Item) → 0 < i → i < length items → (slice_index_or items i d).begin ≡ false
  pub run_first : (i : ℕ) (d : Item) → 0 < i → i < length items → (slice_index_or items i d).run ≡ false

-- The longest prefix of at most n items that is one piece.
pub record IsLongestPiece (n : ℕ) (items piece : List Item) : Type 0 where
  pub prefix : piece ≡ take (length piece) items
  pub fits : length piece ≤ n
  pub one : IsOnePiece piece
  pub longest : (k : ℕ) → k ≤ n → IsOnePiece (take k items) → length (take k items) ≤ length piece

-- A read of at most n octets: it tells the piece and leaves the items after it, and the octets of the
-- piece stand first in the buffer, whose rest stays.
pub record TakesPiece (n : ℕ) (items : List Item) (was : List ℕ) (piece : Piece) (rest : List Item) (buf : List ℕ) : Type 0 where
  pub told : piece_told (first_piece n items) ≡ Some piece
  pub split : items ≡ first_piece n items ++ rest
  pub octets : buf ≡ octets_of (first_piece n items) ++ drop (length (first_piece n items)) was
