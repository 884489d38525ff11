-- The send record of a flow: what its sender holds, and what an acknowledgement does to it. Moments are readings of the sending station's clock.
use Rattle.std.specs.Prelude.{ℕ, zero, suc, ◌+◌, ◌-◌, ◌<◌, ◌≤◌, ◌≡◌, ◌⊎◌, ◌==◌, min, Bool, true, false, not, if◌then◌else◌, ◌&&◌, ◌||◌, nat_le, List, [], ◌∷◌, ◌++◌, length, take, drop, Option, Some, None}
use Rattle.std.proofs.Math.ListN.{get_or}
use Rattle.dt_items.specs.declared.item.Item.{Item}
use Rattle.dt_units.specs.declared.parameters.Params.{Params}
use Rattle.dt_flow_model.specs.declared.acts.Cut.{Cut}
use Rattle.dt_flow_model.specs.declared.faults.PutFault.{PutFault}
use Rattle.dt_flow_model.specs.declared.faults.PutFault.TheVariants.{Full}
use Rattle.dt_flow_model.specs.Numbering.{number_of, is_crossing, up_to_crossing}

-- octets that went out together. They go out again as they were cut
pub record Segment : Type 0 where
  -- the offset of the first of them
  pub offset : ℕ
  pub items : List Item
  -- the moments of its first and of its last transmission
  pub first : ℕ
  pub last : ℕ

pub record SendRecord : Type 0 where
  -- the offset of the leftmost octet that is neither acknowledged nor given up
  pub left : ℕ
  -- the offset at which the receiver's window ends
  pub edge : ℕ
  -- the later of the record's making and its last transmission of any kind
  pub touched : ℕ
  -- the moment at which an octet whose offset is a multiple of the quantum went out last, or none
  pub crossed : Option ℕ
  -- the segments that went out and are neither acknowledged nor given up, from left on
  pub outstanding : List Segment
  -- the octets that have not gone out
  pub waiting : List Item

-- a record that begins, or begins anew, at now
abbrev pub new_record : Params → ℕ → List Item → SendRecord
new_record p now waiting = record { left = 0; edge = p.window; touched = now; crossed = None; outstanding = []; waiting = waiting }

-- where a segment ends
abbrev pub end_of : Segment → ℕ
end_of g = g.offset + length g.items

-- the end of the last of these segments, or the offset where there is none
abbrev pub next_from : ℕ → List Segment → ℕ
next_from offset [] = offset
next_from offset (g ∷ gs) = next_from (end_of g) gs

-- the offset of the next octet that goes out
abbrev pub next_of : SendRecord → ℕ
next_of x = next_from x.left x.outstanding

-- how many octets these segments have
abbrev pub items_in : List Segment → ℕ
items_in [] = 0
items_in (g ∷ gs) = length g.items + items_in gs

-- how many octets the record holds, and how many more it takes. It holds at most `cap`
abbrev pub held_of : SendRecord → ℕ
held_of x = items_in x.outstanding + length x.waiting

abbrev pub room_of : Params → SendRecord → ℕ
room_of p x = p.cap - held_of x

-- whether so many octets more fit
abbrev pub fits : Params → SendRecord → ℕ → Bool
fits p x count = nat_le (held_of x + count) p.cap

-- octets are put into the record
abbrev pub put : List Item → SendRecord → SendRecord
put items x = record x { waiting = x.waiting ++ items }

-- so many octets are offered: they are refused where they don't fit, with the room that is left; and the record after it
abbrev pub put_fault : Params → SendRecord → ℕ → Option PutFault
put_fault p x count = if fits p x count then None else Some (Full (room_of p x))

abbrev pub after_put : Params → List Item → SendRecord → SendRecord
after_put p items x = if fits p x (length items) then put items x else x

-- the data-run flag of a segment: nothing is outstanding before it
abbrev pub leads : SendRecord → ℕ → Bool
leads x offset = offset == x.left

-- how many of the items, at most `most`, go into one segment: a begin mark stands only on its first, an end mark only on its last
abbrev pub cut_length : ℕ → Bool → List Item → ℕ
cut_length zero at_first items = 0
cut_length (suc most) at_first [] = 0
cut_length (suc most) at_first (i ∷ is) = if i.begin && not at_first then 0 else suc (if i.end then 0 else cut_length most false is)

-- how many octets may go out next: at most `seg`, up to the edge of the window and to the least multiple of the quantum above `next`
abbrev pub may_go : Params → SendRecord → ℕ
may_go p x = min p.seg (min (x.edge - next_of x) (up_to_crossing p (next_of x)))

-- the moment that is noted of a multiple of the quantum, when octets go out at now
abbrev pub crossed_after : Params → ℕ → SendRecord → Option ℕ
crossed_after p now x = if is_crossing p (next_of x) then Some now else x.crossed

-- the cut: the waiting octets that go out next, and those that wait on
abbrev pub cut_size : Params → SendRecord → ℕ
cut_size p x = cut_length (may_go p x) true x.waiting

abbrev pub cut_of : Params → SendRecord → List Item
cut_of p x = take (cut_size p x) x.waiting

abbrev pub rest_of : Params → SendRecord → List Item
rest_of p x = drop (cut_size p x) x.waiting

-- The cut as a rule. It is the longest prefix of the items that has at most `most` octets, an end mark only on its last octet, and a begin mark only on its first.
abbrev pub item_at : List Item → ℕ → Item
item_at items k = get_or items k (record { octet = 0; begin = false; end = false; run = false })

pub record IsCut (most : ℕ) (items : List Item) (size : ℕ) : Type 0 where
  pub prefix : size ≤ length items
  pub at_most : size ≤ most
  pub begin_first : (k : ℕ) → 0 < k → k < size → (item_at items k).begin ≡ false
  pub end_last : (k : ℕ) → k + 1 < size → (item_at items k).end ≡ false
  -- a longer one has too many octets, or an end mark before its last octet, or a begin mark after its first
  pub longest : size < most → size < length items → (last : ℕ) × (size ≡ last + 1) × ((item_at items last).end ≡ true ⊎ (item_at items size).begin ≡ true)

-- whether a message begins with the first of the items, and whether one ends among them
abbrev pub begins : List Item → Bool
begins [] = false
begins (i ∷ is) = i.begin

abbrev pub ends : List Item → Bool
ends [] = false
ends (i ∷ is) = i.end || ends is

-- what is reported of a segment that goes out
abbrev pub cut_told : Params → SendRecord → ℕ → List Item → Cut
cut_told p x offset items = record { number = number_of p offset; length = length items; drf = leads x offset; begin = begins items; end = ends items }

-- an acknowledgement carries the number k and the window w. Where k is the number of left or of the end of an outstanding segment, all segments
-- up to there are acknowledged: the segments split there. Any other number splits nothing
abbrev pub before_all : Segment → Option (List Segment × List Segment) → Option (List Segment × List Segment)
before_all g None = None
before_all g (Some (gone, rest)) = Some (g ∷ gone, rest)

abbrev pub acknowledged : Params → ℕ → ℕ → List Segment → Option (List Segment × List Segment)
acknowledged p k left [] = if number_of p left == k then Some ([], []) else None
acknowledged p k left (g ∷ gs) = if number_of p left == k then Some ([], g ∷ gs) else before_all g (acknowledged p k (end_of g) gs)

-- the record when the first segments are acknowledged: left is their end, and the window begins there
abbrev pub record_acked : SendRecord → List Segment → List Segment → ℕ → SendRecord
record_acked x gone rest w = record x { left = next_from x.left gone; edge = next_from x.left gone + w; outstanding = rest }

-- the record after an acknowledgement, and how many octets it acknowledged; none where it changes nothing
abbrev pub after_split : SendRecord → ℕ → Option (List Segment × List Segment) → Option (SendRecord × ℕ)
after_split x w None = None
after_split x w (Some (gone, rest)) = Some (record_acked x gone rest w, items_in gone)

abbrev pub on_ack : Params → SendRecord → ℕ → ℕ → Option (SendRecord × ℕ)
on_ack p x k w = after_split x w (acknowledged p k x.left x.outstanding)
