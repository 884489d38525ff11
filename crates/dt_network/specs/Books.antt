-- The ledger of a flow as the reports of calls tell it, where every call found memory: what its sends took, with each octet's fate, and what its reader accepted.
use Rattle.std.specs.Prelude.{ℕ, ◌+◌, ◌<◌, ◌==◌, ◌≡◌, Bool, true, false, List, [], ◌∷◌, ◌++◌, drop, length, map, Option, Some, None}
use Rattle.dt_items.specs.declared.item.Item.{Item}
use Rattle.dt_items.specs.Unread.{marked}
use Rattle.dt_units.specs.declared.endpoints.Flow.{Flow}
use Rattle.dt_reports.specs.Told.{Told}
use Rattle.dt_reports.specs.declared.reports.Report.TheVariants as report
use Rattle.dt_flow_model.specs.declared.rows.Fate.TheVariants as fate
use Rattle.dt_flow_model.specs.declared.rows.Given.{Given}
use Rattle.dt_flow_model.specs.declared.rows.ReadCount.{ReadCount}
use Rattle.dt_flow_model.specs.declared.rows.Taken.{Taken}
use Rattle.dt_flow_model.specs.Frames.{Mark, marked_packet, value_in}
use Rattle.dt_flow_model.specs.Ledger.{given_at, given_item_of, given_rows, item_of, sent_item_of, settle, take_rows}
use Rattle.dt_flow_model.specs.Safe.{SafeLedger}
use Rattle.dt_world_model.specs.Host.{one_if, receiver_at}
use Rattle.dt_world_model.specs.Tables.{look, same_flow}
use Rattle.dt_world_model.specs.WorldStep.{items_with}
use Rattle.dt_endpoint.specs.Endpoints.{EndpointValue}
use Rattle.dt_network.specs.Network.{Network}
use Rattle.dt_network.specs.Steps.{Call, CallArrive, CallSend, Calls, OpenAgain, Pass, Step, network_after}

-- a row of an octet that was accepted, without its place and its moment, which no report tells
abbrev pub unplaced : Given → Given
unplaced row = record { place = 0; octet = row.octet; begin = row.begin; end = row.end; run = row.run; life = row.life; at = 0 }

-- the rows of a flow's octets, each with its fate; those of the octets that were accepted at its reader, each with the life of the reader then; and how often each node opened again
pub record Book : Type 0 where
  pub rows : List Taken
  pub given : List Given
  pub lives : ℕ → ℕ

abbrev pub new_book : Book
new_book = record { rows = []; given = []; lives = λ n. 0 }

abbrev pub rows_if : {A : Type 0} → Bool → List A → List A → List A
rows_if true after before = after
rows_if false after before = before

-- WHAT A REPORT TELLS of a flow's octets: its call's octets were taken, or so many of the open ones of this life, the first of them, were given up or acknowledged
abbrev pub book_told : Flow → ℕ → List Item → Told → List Taken → List Taken
book_told f life items (report.Took g count) rows = rows_if (same_flow g f) (take_rows life items rows) rows
book_told f life items (report.Uncertain g count) rows = rows_if (same_flow g f) (settle life fate.Uncertain count rows) rows
book_told f life items (report.Settled g count window) rows = rows_if (same_flow g f) (settle life fate.Acked count rows) rows
book_told f life items other rows = rows

abbrev pub book_all : Flow → ℕ → List Item → List Told → List Taken → List Taken
book_all f life items [] rows = rows
book_all f life items (r ∷ rs) rows = book_all f life items rs (book_told f life items r rows)

-- and of what is accepted: the octets of the datagram that comes in the call, in this life of the reader, the first of them with a run mark or without
abbrev pub given_told : Flow → ℕ → List Item → Told → List Given → List Given
given_told f life items (report.Accepted g number count run) rows = rows_if (same_flow g f) (rows ++ map unplaced (given_rows life 0 run 0 items)) rows
given_told f life items other rows = rows

abbrev pub given_all : Flow → ℕ → List Item → List Told → List Given → List Given
given_all f life items [] rows = rows
given_all f life items (r ∷ rs) rows = given_all f life items rs (given_told f life items r rows)

-- THE OCTETS OF A CALL, with the marks of their message: those of a send, and those of the data packet in a datagram
-- what nobody sees of a packet changes nothing of its octets
abbrev pub no_mark : Mark
no_mark = record { birth = 0; place = 0 }

abbrev pub items_in : Call → List Item
items_in (CallSend now flow octets begin end answer) = marked octets begin end false
items_in (CallArrive now link datagram waited answer) = items_with (marked_packet no_mark (value_in datagram))
items_in other = []

-- the reports that a call appended
abbrev pub reports_by : Option EndpointValue → EndpointValue → List Told
reports_by None f = []
reports_by (Some e) f = drop (length e.reports) f.reports

abbrev pub book_by : Flow → ℕ → List Item → List Told → Book → Book
book_by f n items reports b = record { rows = book_all f (b.lives n) items reports b.rows; given = given_all f (b.lives n) items reports b.given; lives = b.lives }

abbrev pub book_from : Flow → ℕ → Call → Option EndpointValue → EndpointValue → Book → Book
book_from f n (OpenAgain again options) o after b = record { rows = b.rows; given = b.given; lives = λ m. b.lives m + one_if (n == m) }
book_from f n call o after b = book_by f n (items_in call) (reports_by o after) b

abbrev pub book_after : Flow → Step → Network → Book → Book
book_after f (Pass by) net b = b
book_after f (Calls n call after) net b = book_from f n call (look ◌==◌ n net.endpoints) after b

abbrev pub book_of : Flow → List Step → Network → Book → Book
book_of f [] net b = b
book_of f (s ∷ steps) net b = book_of f steps (network_after s net) (book_after f s net b)

-- every call found memory
abbrev pub FoundIn : Step → Type 0
FoundIn (Pass by) = Unit {0}
FoundIn (Calls n call after) = after.spent ≡ false

abbrev pub AllFound : List Step → Type 0
AllFound [] = Unit {0}
AllFound (s ∷ steps) = FoundIn s × AllFound steps

-- SOME ROWS WERE READ of those that are gone, in their order; one that wasn't is of a life of the reader before this one. `joined` tells that the row before them was read: a row without a run mark is read directly after the one before it
pub data Chosen (life : ℕ) : (joined : Bool) → List Given → List Item → Type 0 where
  none : {joined : Bool} → Chosen life joined [] []
  picked : {joined : Bool} {row : Given} {rows : List Given} {items : List Item} → (row.run ≡ false → joined ≡ true) → Chosen life true rows items → Chosen life joined (row ∷ rows) (given_item_of row ∷ items)
  lost : {joined : Bool} {row : Given} {rows : List Given} {items : List Item} → row.life < life → Chosen life false rows items → Chosen life joined (row ∷ rows) items

-- THE LEDGER THAT IS TOLD IS SAFE, with the rows that were told as accepted, each at a place. Those that are gone were read, as the reads answered, but for some that were accepted before the reader's last opening; the others lie unread at the reader
pub record IsSafeBook (f : Flow) (net : Network) (book : Book) (read : List Item) : Type 0 where
  pub given : List Given
  pub accepted : map unplaced given ≡ book.given
  pub reads : List ReadCount
  pub safe : SafeLedger (book.lives f.from.0) book.rows given reads
  pub gone : List Given
  pub unread : List Given
  pub split : given ≡ gone ++ unread
  pub chosen : Chosen (book.lives f.to.0) false gone read
  pub unread_is : (reader : EndpointValue) → look ◌==◌ f.to.0 net.endpoints ≡ Some reader → map given_item_of unread ≡ (receiver_at reader.state.host f).unread

-- AN OCTET WAS ACCEPTED: a row of those that were told as accepted has it, with its marks
pub record WasAccepted (given : List Given) (row : Taken) : Type 0 where
  pub index : ℕ
  pub within : index < length given
  pub same : sent_item_of (given_at given index) ≡ item_of row
