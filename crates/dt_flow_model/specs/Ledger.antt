-- The ledger of one flow: a row for each octet that it took, a row for each octet that was given to its receiver, and how much was read.
-- The place of an octet is its row's position in the list of taken rows, over all lives of the sending station.
use Rattle.std.specs.Prelude.{ℕ, zero, suc, ◌+◌, ◌==◌, ◌≡◌, ◌≢◌, Bool, true, false, if◌then◌else◌, ◌&&◌, ◌||◌, List, [], ◌∷◌, ◌++◌, map, Option, Some, None}
use Rattle.std.proofs.Math.ListN.{get_or}
use Rattle.dt_items.specs.declared.item.Item.{Item}
use Rattle.dt_flow_model.specs.declared.rows.Fate.{Fate}
use Rattle.dt_flow_model.specs.declared.rows.Fate.TheVariants.{Open, Acked, Uncertain}
use Rattle.dt_flow_model.specs.declared.rows.Taken.{Taken}
use Rattle.dt_flow_model.specs.declared.rows.Given.{Given}
use Rattle.dt_flow_model.specs.declared.rows.ReadCount.{ReadCount}

-- an octet with its begin mark and end mark, and no run mark: what a sender knows of it
abbrev pub plain : Item → Item
plain item = record { octet = item.octet; begin = item.begin; end = item.end; run = false }

-- the octet of a taken row
abbrev pub item_of : Taken → Item
item_of row = record { octet = row.octet; begin = row.begin; end = row.end; run = false }

-- the octet of a given row, as its sender knows it, and as it stands in the unread queue
abbrev pub sent_item_of : Given → Item
sent_item_of row = record { octet = row.octet; begin = row.begin; end = row.end; run = false }

abbrev pub given_item_of : Given → Item
given_item_of row = record { octet = row.octet; begin = row.begin; end = row.end; run = row.run }

abbrev pub is_open : Fate → Bool
is_open Open = true
is_open Acked = false
is_open Uncertain = false

-- a row that was taken in a life and has no fate yet, with its first moment or none
abbrev pub open_row : ℕ → Option ℕ → Item → Taken
open_row life first item = record { life = life; octet = item.octet; begin = item.begin; end = item.end; first = first; fate = Open }

-- octets are taken: Open rows without a first moment come after all others
abbrev pub take_rows : ℕ → List Item → List Taken → List Taken
take_rows life items rows = rows ++ map (open_row life None) items

-- whether a row waits for its fate in this life
abbrev pub is_open_in : ℕ → Taken → Bool
is_open_in life row = is_open row.fate && (row.life == life)

-- the leftmost `count` Open rows of this life get the fate. There are as many: the ledger ends in the rows that the send record holds
abbrev pub settle : ℕ → Fate → ℕ → List Taken → List Taken
settle life fate zero rows = rows
settle life fate (suc count) [] = []
settle life fate (suc count) (row ∷ rows) = if is_open_in life row then (record row { fate = fate }) ∷ settle life fate count rows else row ∷ settle life fate (suc count) rows

-- `count` rows from the place on get their first moment. They are there: they are rows of octets that wait
abbrev pub note_first : ℕ → ℕ → ℕ → List Taken → List Taken
note_first at place count [] = []
note_first at zero zero (row ∷ rows) = row ∷ rows
note_first at zero (suc count) (row ∷ rows) = (record row { first = Some at }) ∷ note_first at zero count rows
note_first at (suc place) count (row ∷ rows) = row ∷ note_first at place count rows

-- the place of the leftmost Open row of this life that has no first moment, or the end of the rows where there is none
abbrev pub is_unsent : Option ℕ → Bool
is_unsent None = true
is_unsent (Some first) = false

abbrev pub first_unsent : ℕ → List Taken → ℕ
first_unsent life [] = 0
first_unsent life (row ∷ rows) = if is_open_in life row && is_unsent row.first then 0 else suc (first_unsent life rows)

-- octets are given: a row each, from the place on, the first with the run mark or without
abbrev pub given_rows : ℕ → ℕ → Bool → ℕ → List Item → List Given
given_rows life at run place [] = []
given_rows life at run place (item ∷ items) = (record { place = place; octet = item.octet; begin = item.begin; end = item.end; run = run; life = life; at = at }) ∷ given_rows life at false (suc place) items

-- the same octets as they stand in the unread queue
abbrev pub unread_items : Bool → List Item → List Item
unread_items run [] = []
unread_items run (item ∷ items) = (record { octet = item.octet; begin = item.begin; end = item.end; run = run }) ∷ unread_items false items

-- the octets that were given in a life of the receiver, as they stood in its unread queue
abbrev pub given_in : ℕ → List Given → List Item
given_in life [] = []
given_in life (row ∷ rows) = if row.life == life then given_item_of row ∷ given_in life rows else given_in life rows

-- how much was read in a life, by its first entry: each life has one at most, which is a fact that every step keeps. A life without an entry read nothing
abbrev pub read_in : ℕ → List ReadCount → ℕ
read_in life [] = 0
read_in life (r ∷ rs) = if r.life == life then r.count else read_in life rs

-- one read more in a life
abbrev pub note_read : ℕ → ℕ → List ReadCount → List ReadCount
note_read life count [] = (record { life = life; count = count }) ∷ []
note_read life count (r ∷ rs) = if r.life == life then (record { life = life; count = r.count + count }) ∷ rs else r ∷ note_read life count rs

-- no entry is of this life; and each life has at most one entry
abbrev pub HasNoEntry : ℕ → List ReadCount → Type 0
HasNoEntry life [] = Unit {0}
HasNoEntry life (r ∷ rs) = (r.life ≢ life) × HasNoEntry life rs

abbrev pub OneEntryEach : List ReadCount → Type 0
OneEntryEach [] = Unit {0}
OneEntryEach (r ∷ rs) = HasNoEntry r.life rs × OneEntryEach rs

-- the place after the last given one, which is 0 where nothing was given
abbrev pub top_from : ℕ → List Given → ℕ
top_from place [] = place
top_from place (row ∷ rows) = top_from (suc row.place) rows

abbrev pub top : List Given → ℕ
top given = top_from 0 given

-- the moment of the last acceptance, which is 0 where nothing was given
abbrev pub last_from : ℕ → List Given → ℕ
last_from at [] = at
last_from at (row ∷ rows) = last_from row.at rows

abbrev pub last_at : List Given → ℕ
last_at given = last_from 0 given

-- whether a place is given: a given row names it
abbrev pub is_given : List Given → ℕ → Bool
is_given [] place = false
is_given (row ∷ rows) place = (row.place == place) || is_given rows place

-- the taken row at a place. Past the end of the rows a default is read, which isn't Open, isn't Acked and has no first moment. So a premise of one of these says that the row is there; of other sentences Safe and Facts say why their places are in the ledger
abbrev pub no_row : Taken
no_row = record { life = 0; octet = 0; begin = false; end = false; first = None; fate = Uncertain }

abbrev pub no_item : Item
no_item = item_of no_row

abbrev pub row_at : List Taken → ℕ → Taken
row_at rows place = get_or rows place no_row

-- the row has a first moment; on a clock that is ahead by so much it is this reading
abbrev pub HasFirst : ℕ → ℕ → Taken → Type 0
HasFirst clock reading row = (first : ℕ) × (row.first ≡ Some first) × (first + clock ≡ reading)

-- the given row at a position in its list, and the entry at one. What speaks of them bounds the position by the list's length, so that the default stands nowhere
abbrev pub no_given : Given
no_given = record { place = 0; octet = 0; begin = false; end = false; run = false; life = 0; at = 0 }

abbrev pub given_at : List Given → ℕ → Given
given_at rows position = get_or rows position no_given

abbrev pub no_read_count : ReadCount
no_read_count = record { life = 0; count = 0 }

abbrev pub read_count_at : List ReadCount → ℕ → ReadCount
read_count_at entries position = get_or entries position no_read_count
