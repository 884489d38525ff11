-- The facts about time that each small step of a flow keeps. They are what makes the ledger safe.
-- Numbers that speak of a run are 0 where there is none, so that no fact needs a case for it. A 0 is never weaker than the sentence: below 0 there is no moment and no place, and 0 moments are no wait where nothing was sent.
-- Rows are read with a default (`row_at`), which has no first moment, isn't Open and isn't Acked. A fact whose premise is that a row has a first moment, is Open or is Acked speaks of rows that are there. Of the others each says beside it why its places are in the ledger.
use Rattle.std.specs.Prelude.{ℕ, suc, ◌+◌, ◌-◌, ◌*◌, ◌^◌, ◌<◌, ◌≤◌, ◌≡◌, ◌≢◌, ◌⊎◌, max, true, false, List, [], ◌∷◌, ◌++◌, map, length, Option, Some, None}
use Rattle.std.proofs.Math.ListN.{get_or, drop}
use Rattle.dt_items.specs.declared.item.Item.{Item}
use Rattle.dt_units.specs.declared.parameters.Params.{Params}
use Rattle.dt_units.specs.Times.{send_time, receive_time, spacing_time}
use Rattle.dt_units.specs.Numbers.{quantum}
use Rattle.dt_flow_model.specs.declared.rows.Fate.TheVariants.{Open, Acked, Uncertain}
use Rattle.dt_flow_model.specs.declared.rows.Taken.{Taken}
use Rattle.dt_flow_model.specs.declared.rows.Given.{Given}
use Rattle.dt_flow_model.specs.declared.rows.ReadCount.{ReadCount}
use Rattle.dt_flow_model.specs.Numbering.{number_of}
use Rattle.dt_flow_model.specs.Ledger.{plain, item_of, sent_item_of, open_row, given_in, read_in, OneEntryEach, top, last_at, row_at, no_item}
use Rattle.dt_flow_model.specs.SendRecord.{Segment, SendRecord, end_of, next_of, held_of}
use Rattle.dt_flow_model.specs.ReceiveRecord.{ReceiveRecord, IsLive}
use Rattle.dt_flow_model.specs.Flow.{Run, Crossing, Kind, Data, Ack, Meet, Packet, FlowState}

-- first moments of octets are below this: the last transmission of the run, and one more
abbrev pub firsts_end : Option Run → ℕ
firsts_end None = 0
firsts_end (Some run) = suc run.sent

-- acceptances come before this: `mpl` after the last transmission
abbrev pub accepted_before : Params → Option Run → ℕ
accepted_before p None = 0
accepted_before p (Some run) = run.sent + p.mpl

-- a new run may begin from here on: `send` after the last transmission
abbrev pub free_from : Params → Option Run → ℕ
free_from p None = 0
free_from p (Some run) = run.sent + send_time p

-- numbers never fall, from the one on, and none is above the other
abbrev pub NeverFall : ℕ → ℕ → List ℕ → Type 0
NeverFall least most [] = least ≤ most
NeverFall least most (n ∷ ns) = (least ≤ n) × NeverFall n most ns

-- the life numbers of taken rows, and of given rows
abbrev pub lives_of : List Taken → List ℕ
lives_of [] = []
lives_of (row ∷ rows) = row.life ∷ lives_of rows

abbrev pub lives_given : List Given → List ℕ
lives_given [] = []
lives_given (row ∷ rows) = row.life ∷ lives_given rows

-- a row that is Open is of an earlier life
abbrev pub IsPast : ℕ → Taken → Type 0
IsPast life row = row.fate ≡ Open → row.life < life

abbrev pub AllPast : ℕ → List Taken → Type 0
AllPast life [] = Unit {0}
AllPast life (row ∷ rows) = IsPast life row × AllPast life rows

-- segments follow each other from the offset on, and none is empty
abbrev pub Chain : ℕ → List Segment → Type 0
Chain offset [] = Unit {0}
Chain offset (g ∷ gs) = (g.offset ≡ offset) × (0 < length g.items) × Chain (end_of g) gs

-- each segment first went out at a reading of the clock, so not before its zero
abbrev pub FirstsFrom : ℕ → List Segment → Type 0
FirstsFrom clock [] = Unit {0}
FirstsFrom clock (g ∷ gs) = (clock ≤ g.first) × FirstsFrom clock gs

-- the Open rows that a send record stands for, at a station whose clock is ahead by `clock`: those of its segments, with their first moments, and then those of the octets that wait. By `FirstsFrom` nothing is cut off at 0
abbrev pub rows_out : ℕ → ℕ → List Segment → List Taken
rows_out clock life [] = []
rows_out clock life (g ∷ gs) = map (open_row life (Some (g.first - clock))) g.items ++ rows_out clock life gs

abbrev pub open_rows : ℕ → ℕ → Option SendRecord → List Taken
open_rows clock life None = []
open_rows clock life (Some x) = rows_out clock life x.outstanding ++ map (open_row life None) x.waiting

-- a given row names the place
abbrev pub IsGiven : List Given → ℕ → Type 0
IsGiven [] place = ⊥
IsGiven (row ∷ rows) place = (row.place ≡ place) ⊎ IsGiven rows place

-- places strictly increase, from the one on
abbrev pub Rising : ℕ → List Given → Type 0
Rising place [] = Unit {0}
Rising place (row ∷ rows) = (place ≤ row.place) × Rising (suc row.place) rows

-- moments never fall, from the one on
abbrev pub MomentsRise : ℕ → List Given → Type 0
MomentsRise at [] = Unit {0}
MomentsRise at (row ∷ rows) = (at ≤ row.at) × MomentsRise row.at rows

-- THE SENDER

-- Sender's open places: a send record that has transmitted, with the rows before its open ones.
pub record Sending (clock life : ℕ) (run : Run) (x : SendRecord) (old taken : List Taken) : Type 0 where
  -- its base is the run's: `left` stands at the first of its open rows
  pub base : run.base + x.left ≡ length old
  -- it was touched at the flow's last transmission
  pub sent : run.sent + clock ≡ x.touched
  -- all places of the run before its open ones are settled. `old` is the front of the ledger, so they are in it
  pub settled : (place : ℕ) → run.base ≤ place → place < length old → (row_at taken place).fate ≢ Open
  -- all places from base on are of the present life
  pub of_life : (place : ℕ) → run.base ≤ place → place < length taken → (row_at taken place).life ≡ life

pub record SendFacts (p : Params) (now clock life : ℕ) (run : Option Run) (old taken : List Taken) (x : SendRecord) : Type 0 where
  -- its segments follow each other from left on
  pub chain : Chain x.left x.outstanding
  -- its readings are the world's moments and the clock's zero: `first - clock` is the moment, and nothing is cut off
  pub firsts : FirstsFrom clock x.outstanding
  pub touched : x.touched ≤ now + clock
  -- a record that hasn't transmitted has a window, so that its first transmission is no rendezvous
  pub edge : next_of x ≡ 0 → 0 < x.edge
  -- a record that hasn't transmitted was touched at least `send` after the flow's last transmission
  pub fresh : next_of x ≡ 0 → free_from p run + clock ≤ x.touched
  -- a record that has transmitted is of the present run
  pub sending : 0 < next_of x → (r : Run) × (run ≡ Some r) × Sending clock life r x old taken

-- Sender gone: without a send record, `send` has passed since the last transmission, or will have when the station is no longer silent
abbrev pub SenderFacts : Params → ℕ → ℕ → ℕ → ℕ → Option Run → List Taken → List Taken → Option SendRecord → Type 0
SenderFacts p now clock until life run old taken None = free_from p run + clock ≤ max (now + clock) until
SenderFacts p now clock until life run old taken (Some x) = SendFacts p now clock life run old taken x

-- the sending side of a flow
pub record SendSide (p : Params) (now clock until life : ℕ) (run : Option Run) (taken : List Taken) (sender : Option SendRecord) : Type 0 where
  pub old : List Taken
  -- Sender's open places. The ledger ends in what the send record holds: the rows of its outstanding octets, with the first moments of their segments, and then of its waiting ones. They are Open and of the present life.
  pub ledger : taken ≡ old ++ open_rows clock life sender
  -- Before them nothing of the present life is Open.
  pub past : AllPast life old
  -- Lives rise. The life numbers of taken rows never fall with the place, and none is above the sender's present one.
  pub lives : NeverFall 0 life (lives_of taken)
  pub record_facts : SenderFacts p now clock until life run old taken sender

-- THE RECEIVER

-- Live receiver: a live receive record, with the present run.
pub record Receiving (p : Params) (y : ReceiveRecord) (taken : List Taken) (given : List Given) (run : Run) : Type 0 where
  -- the expected number is that of an offset above 0, and its place is the one after the last given
  pub offset : ℕ
  pub some : 0 < offset
  pub place : run.base + offset ≡ top given
  pub number : y.expected ≡ number_of p offset
  -- each place of the run up to there is given or isn't Open. It is in the ledger, since the last given one is (`GivenFacts.first_is`)
  pub covered : (place : ℕ) → run.base ≤ place → place < top given → IsGiven given place ⊎ ((row_at taken place).fate ≢ Open)

pub record RecvFacts (p : Params) (now clock : ℕ) (run : Option Run) (taken : List Taken) (given : List Given) (y : ReceiveRecord) : Type 0 where
  -- something was given, so `top` and `last_at` are the last row's, and the record was touched when it was given
  pub accepted : 0 < top given
  pub touched : y.touched ≡ last_at given + clock
  -- a live record is of the present run
  pub receiving : IsLive p (now + clock) y → (r : Run) × (run ≡ Some r) × Receiving p y taken given r

-- Receiver gone: without a receive record, `mpl + r` has passed since the last acceptance, or will have when the station is no longer silent
abbrev pub ReceiverFacts : Params → ℕ → ℕ → ℕ → Option Run → List Taken → List Given → Option ReceiveRecord → Type 0
ReceiverFacts p now clock until run taken given None = 0 < top given → last_at given + p.mpl + p.r + clock ≤ max (now + clock) until
ReceiverFacts p now clock until run taken given (Some y) = RecvFacts p now clock run taken given y

-- a given row and its place: the place has a first moment, so it is in the ledger, no later than the row's moment, and the octet and its marks are the place's
pub record GivenFacts (taken : List Taken) (row : Given) : Type 0 where
  pub first : ℕ
  pub first_is : (row_at taken row.place).first ≡ Some first
  pub after : first ≤ row.at
  pub item : item_of (row_at taken row.place) ≡ sent_item_of row

abbrev pub AllGivenFacts : List Taken → List Given → Type 0
AllGivenFacts taken [] = Unit {0}
AllGivenFacts taken (row ∷ rows) = GivenFacts taken row × AllGivenFacts taken rows

-- the ledger, the run and the receiving side of a flow
pub record ReceiveSide (p : Params) (now clock until sender_life : ℕ) (run : Option Run) (taken : List Taken) (given : List Given) (receiver : Option ReceiveRecord) : Type 0 where
  -- the last transmission was by now, and none before the run began
  pub sent_now : firsts_end run ≤ suc now
  pub began : (r : Run) → run ≡ Some r → r.began ≤ r.sent
  -- First moments. Each first moment is at most the moment of the last transmission.
  pub first_end : (place first : ℕ) → (row_at taken place).first ≡ Some first → first < firsts_end run
  -- Among the places that have a first moment, first moments never fall with the place.
  pub firsts : (place later first next : ℕ) → place ≤ later → (row_at taken place).first ≡ Some first → (row_at taken later).first ≡ Some next → first ≤ next
  -- Each given place has a first moment, no later than its row's moment, and its octet and marks are the place's.
  pub given_facts : AllGivenFacts taken given
  -- The moments of given rows never fall, each is at most now, and less than `mpl` after the last transmission.
  pub moments : MomentsRise 0 given
  pub last_now : last_at given ≤ now
  pub last_before : 0 < top given → last_at given < accepted_before p run
  pub record_facts : ReceiverFacts p now clock until run taken given receiver
  -- The places of given rows strictly increase.
  pub rising : Rising 0 given
  -- Each place below the last given one is given, or uncertain, or of an earlier life of the sender. It is in the ledger, since the last given one is.
  pub skipped : (place : ℕ) → place < top given → IsGiven given place ⊎ ((row_at taken place).fate ≡ Uncertain) ⊎ ((row_at taken place).life < sender_life)
  -- Each acknowledged place is given.
  pub acked : (place : ℕ) → (row_at taken place).fate ≡ Acked → IsGiven given place

-- WHAT IS READ

-- a given row without a run mark follows the one before it
abbrev pub JoinsTo : Option Given → Given → Type 0
JoinsTo None row = ⊥
JoinsTo (Some before) row = (suc before.place ≡ row.place) × (before.life ≡ row.life)

abbrev pub Joined : Option Given → List Given → Type 0
Joined before [] = Unit {0}
Joined before (row ∷ rows) = (row.run ≡ false → JoinsTo before row) × Joined (Some row) rows

abbrev pub last_of : Option Given → List Given → Option Given
last_of before [] = before
last_of before (row ∷ rows) = last_of (Some row) rows

abbrev pub life_from : ℕ → List Given → ℕ
life_from life [] = life
life_from life (row ∷ rows) = life_from row.life rows

-- the last given row is of this life, where a record stands. There is one then (`RecvFacts.accepted`), so the default of `life_from` is read nowhere
abbrev pub IsOfLife : ℕ → List Given → Option ReceiveRecord → Type 0
IsOfLife life given None = Unit {0}
IsOfLife life given (Some y) = life_from 0 given ≡ life

pub record ReadSide (life : ℕ) (receiver : Option ReceiveRecord) (unread : List Item) (reads : List ReadCount) (given : List Given) : Type 0 where
  -- What is unread are the octets that were given in the present life, from those on that were read, with their marks.
  pub unread_is : unread ≡ drop (read_in life reads) (given_in life given)
  -- In no life was more read than given, and each life has one entry.
  pub within : (l : ℕ) → read_in l reads ≤ length (given_in l given)
  pub one_entry : OneEntryEach reads
  -- Lives rise. The life numbers of given rows never fall, and none is above the receiver's present one.
  pub lives : NeverFall 0 life (lives_given given)
  -- A given row without a run mark follows the one before it.
  pub joined : Joined None given
  -- Where a receive record stands, the last given row is of the receiver's present life.
  pub of_life : IsOfLife life given receiver

-- NUMBERS THAT GO ROUND. What is near in time is near in place, so the order of numbers is the order of places.

-- the most octets that wait in a send record
abbrev pub most_waiting : ℕ
most_waiting = 65536

-- crossings stand in the order of their places and moments, the last one first
abbrev pub InOrder : List Crossing → Type 0
InOrder [] = Unit {0}
InOrder (c ∷ []) = Unit {0}
InOrder (c ∷ d ∷ rest) = (d.place < c.place) × (d.moment < c.moment) × InOrder (d ∷ rest)

abbrev pub AtFirsts : List Taken → List Crossing → Type 0
AtFirsts taken [] = Unit {0}
AtFirsts taken (c ∷ rest) = ((row_at taken c.place).first ≡ Some c.moment) × AtFirsts taken rest

abbrev pub Neighbours : Params → List Crossing → Type 0
Neighbours p [] = Unit {0}
Neighbours p (c ∷ []) = Unit {0}
Neighbours p (c ∷ d ∷ rest) = (d.moment + send_time p ≤ c.moment) × (c.place ≤ d.place + quantum p + most_waiting) × Neighbours p (d ∷ rest)

abbrev pub ThirdBefore : Params → List Crossing → Type 0
ThirdBefore p [] = Unit {0}
ThirdBefore p (c ∷ []) = Unit {0}
ThirdBefore p (c ∷ d ∷ []) = Unit {0}
ThirdBefore p (c ∷ d ∷ e ∷ rest) = e.moment + spacing_time p < c.moment

abbrev pub BothSides : List Taken → List Crossing → Type 0
BothSides taken [] = Unit {0}
BothSides taken (c ∷ rest) =
    ((place first : ℕ) → (row_at taken place).first ≡ Some first → (place < c.place → first ≤ c.moment) × (c.place ≤ place → c.moment ≤ first))
    × BothSides taken rest

-- a place stands less than the quantum above the last crossing
abbrev pub IsBelowNext : Params → List Crossing → ℕ → Type 0
IsBelowNext p [] place = ⊥
IsBelowNext p (c ∷ rest) place = place < c.place + quantum p

-- the place of the first of these crossings. Where there is none no place has a first moment (`reach`), so its default is read nowhere
abbrev pub lowest : List Crossing → ℕ
lowest [] = 0
lowest (c ∷ []) = c.place
lowest (c ∷ d ∷ rest) = lowest (d ∷ rest)

pub record CrossingFacts (p : Params) (taken : List Taken) (crossings : List Crossing) : Type 0 where
  -- Crossings. At most three are noted.
  pub at_most_three : length crossings ≤ 3
  -- Crossings stand in the order of their places and moments.
  pub order : InOrder crossings
  -- The moment of each is the first moment of its place.
  pub moments : AtFirsts taken crossings
  -- Neighbours are at least `send` apart in moment, and at most the quantum and 65,536 apart in place.
  pub neighbours : Neighbours p crossings
  -- The first of three is more than `spacing` before the third.
  pub third : ThirdBefore p crossings
  -- A place below a crossing has no first moment after the crossing's, and a place at or above it has none before.
  pub sides : BothSides taken crossings
  -- Each place with a first moment is less than the quantum above the last crossing.
  pub reach : (place first : ℕ) → (row_at taken place).first ≡ Some first → IsBelowNext p crossings place
  -- Where there are fewer than three crossings, no place below the first has a first moment.
  pub fewer : length crossings < 3 → (place first : ℕ) → (row_at taken place).first ≡ Some first → lowest crossings ≤ place
  -- Near in time, near in place. Two places whose first moments differ by at most `spacing` are fewer than 2^31 apart.
  pub near : (place later first next : ℕ) → place ≤ later → (row_at taken place).first ≡ Some first → (row_at taken later).first ≡ Some next → next ≤ first + spacing_time p → later < place + 2 ^ 31

-- the place up to which octets are taken at most, but for those that wait in a record that hasn't transmitted
abbrev pub taken_end : Params → List Crossing → ℕ
taken_end p [] = 0
taken_end p (c ∷ rest) = c.place + quantum p + most_waiting

-- a record that has transmitted, with the last crossing
pub record Crossed (p : Params) (clock : ℕ) (run : Run) (x : SendRecord) (last : Crossing) : Type 0 where
  -- what the record noted is the moment of the last crossing
  pub crossed : x.crossed ≡ Some (last.moment + clock)
  -- that crossing stands a multiple of the quantum above base
  pub multiple : ℕ
  pub place : last.place ≡ run.base + multiple * quantum p
  -- and the place of `next` is above it by at most the quantum
  pub above : multiple * quantum p < next_of x
  pub within : next_of x ≤ multiple * quantum p + quantum p

abbrev pub HasCrossed : Params → ℕ → Run → SendRecord → List Crossing → Type 0
HasCrossed p clock run x [] = ⊥
HasCrossed p clock run x (c ∷ rest) = Crossed p clock run x c

pub record SenderCrossings (p : Params) (clock : ℕ) (run : Option Run) (taken : List Taken) (crossings : List Crossing) (x : SendRecord) : Type 0 where
  -- the record holds at most `cap`
  pub held : held_of x ≤ p.cap
  -- a record that hasn't transmitted noted no crossing, and what was taken before its own octets is bounded
  pub uncrossed : next_of x ≡ 0 → x.crossed ≡ None
  pub fresh : next_of x ≡ 0 → length taken ≤ taken_end p crossings + length x.waiting
  -- a record that has transmitted noted the last crossing
  pub going : 0 < next_of x → (r : Run) × (run ≡ Some r) × HasCrossed p clock r x crossings
  -- and each place of its run that went out has a first moment
  pub sent : 0 < next_of x → (r : Run) → run ≡ Some r → (place : ℕ) → r.base ≤ place → place < r.base + next_of x → (first : ℕ) × ((row_at taken place).first ≡ Some first)

-- Without a send record, the count of octets taken is at most the quantum and 65,536 above the last crossing, and it is 0 where there is no crossing.
abbrev pub CrossingsOf : Params → ℕ → Option Run → List Taken → List Crossing → Option SendRecord → Type 0
CrossingsOf p clock run taken crossings None = length taken ≤ taken_end p crossings
CrossingsOf p clock run taken crossings (Some x) = SenderCrossings p clock run taken crossings x

-- Given in time: each given row's moment is less than `mpl + r` after the first moment of its place.
abbrev pub GivenInTime : Params → List Taken → List Given → Type 0
GivenInTime p taken [] = Unit {0}
GivenInTime p taken (row ∷ rows) = ((first : ℕ) → (row_at taken row.place).first ≡ Some first → row.at < first + p.mpl + p.r) × GivenInTime p taken rows

-- the facts on which numbers rest
pub record Spacing (p : Params) (s : FlowState) : Type 0 where
  -- Crossings, and near in time is near in place
  pub crossings : CrossingFacts p s.taken s.crossings
  -- Crossings of the sender's record, and the count of octets taken
  pub sender : CrossingsOf p s.sender_zero s.run s.taken s.crossings s.sender
  -- Given in time
  pub given_in_time : GivenInTime p s.taken s.given

pub record Facts (p : Params) (s : FlowState) : Type 0 where
  pub send_side : SendSide p s.now s.sender_zero s.sender_until s.sender_life s.run s.taken s.sender
  pub receive_side : ReceiveSide p s.now s.receiver_zero s.receiver_until s.sender_life s.run s.taken s.given s.receiver
  pub read_side : ReadSide s.receiver_life s.receiver s.unread s.reads s.given
  pub spacing : Spacing p s

-- PACKETS

-- Data in a packet: it has octets, its places have one first moment, it was made less than `r` after it, and its octets and marks are theirs
pub record DataFacts (p : Params) (taken : List Taken) (items : List Item) (q : Packet) : Type 0 where
  pub some : 0 < length items
  pub first : ℕ
  pub firsts : (k : ℕ) → k < length items → (row_at taken (q.place + k)).first ≡ Some first
  pub items_are : (k : ℕ) → k < length items → item_of (row_at taken (q.place + k)) ≡ plain (get_or items k no_item)
  pub after : first ≤ q.birth
  pub within : q.birth < first + p.r

abbrev pub KindFacts : Params → List Taken → Packet → Kind → Type 0
KindFacts p taken q (Data drf items) = DataFacts p taken items q
KindFacts p taken q (Ack window) = Unit {0}
KindFacts p taken q Meet = Unit {0}

-- a packet was made before this: by the last transmission; or, for an acknowledgement, within `mpl + receive` of it
abbrev pub births_end : Params → Option Run → Kind → ℕ
births_end p run (Data drf items) = firsts_end run
births_end p None (Ack window) = 0
births_end p (Some run) (Ack window) = run.sent + p.mpl + receive_time p
births_end p run Meet = firsts_end run

-- Settled below: before a packet that leads, nothing of the run is Open. Before an acknowledgement, each place of the run is given or isn't Open. These places are in the ledger, since the packet's place stands at most at its end (`PacketFacts.in_ledger`).
abbrev pub Covers : List Taken → List Given → Run → Packet → Kind → Type 0
Covers taken given run q (Data drf items) = drf ≡ true → (place : ℕ) → run.base ≤ place → place < q.place → (row_at taken place).fate ≢ Open
Covers taken given run q (Ack window) = (place : ℕ) → run.base ≤ place → place < q.place → IsGiven given place ⊎ ((row_at taken place).fate ≢ Open)
Covers taken given run q Meet = (place : ℕ) → run.base ≤ place → place < q.place → (row_at taken place).fate ≢ Open

-- Packet of a run: a packet of the present run has the number of an offset, and its place is the offset's.
pub record OfRun (p : Params) (taken : List Taken) (given : List Given) (q : Packet) (run : Run) : Type 0 where
  pub offset : ℕ
  pub place : run.base + offset ≡ q.place
  pub number : q.number ≡ number_of p offset
  pub covers : Covers taken given run q q.kind

-- a packet is of the present run, or so old that it is never met again
abbrev pub IsPresent : Params → Run → ℕ → Kind → Type 0
IsPresent p run birth (Data drf items) = run.began ≤ birth
IsPresent p run birth (Ack window) = run.began < birth + p.mpl
IsPresent p run birth Meet = run.began ≤ birth

abbrev pub IsOlder : Params → Run → ℕ → Kind → Type 0
IsOlder p run birth (Data drf items) = birth + send_time p ≤ run.began
IsOlder p run birth (Ack window) = birth + p.mpl ≤ run.began
IsOlder p run birth Meet = birth + send_time p ≤ run.began

-- what holds of each packet that was ever made
pub record PacketFacts (p : Params) (run : Option Run) (taken : List Taken) (given : List Given) (q : Packet) : Type 0 where
  -- its place stands in the ledger
  pub in_ledger : q.place ≤ length taken
  pub birth : q.birth < births_end p run q.kind
  -- a data packet's octets are those of its places
  pub kind_facts : KindFacts p taken q q.kind
  -- there was a transmission
  pub started : (r : Run) × (run ≡ Some r)
  -- it is of the present run, or too old to matter
  pub origin : (r : Run) → run ≡ Some r → IsPresent p r q.birth q.kind ⊎ IsOlder p r q.birth q.kind
  -- if it is of the present run, its number fits its place, and nothing is Open below it
  pub present : (r : Run) → run ≡ Some r → IsPresent p r q.birth q.kind → OfRun p taken given q r

-- Acknowledged in time. The place before an acknowledgement's, or its own, has a first moment less than `spacing` before its last moment of life.
pub record IsNearOctet (p : Params) (taken : List Taken) (q : Packet) : Type 0 where
  pub place : ℕ
  pub beside : (place ≡ q.place) ⊎ (place + 1 ≡ q.place)
  pub first : ℕ
  pub first_is : (row_at taken place).first ≡ Some first
  pub in_time : q.birth + p.mpl < first + spacing_time p

-- Or no place of its run before its own is Open, and no place from its own on has a first moment `mpl` before its birth or earlier. Places before its own are in the ledger.
pub record IsPastOpen (p : Params) (run : Option Run) (taken : List Taken) (q : Packet) : Type 0 where
  pub settled : (r : Run) → run ≡ Some r → IsPresent p r q.birth q.kind → (place : ℕ) → r.base ≤ place → place < q.place → (row_at taken place).fate ≢ Open
  pub later : (place first : ℕ) → q.place ≤ place → (row_at taken place).first ≡ Some first → q.birth < first + p.mpl

-- For a rendezvous packet no place from its own on has a first moment before its birth.
abbrev pub NearKind : Params → Option Run → List Taken → Packet → Kind → Type 0
NearKind p run taken q (Data drf items) = Unit {0}
NearKind p run taken q (Ack window) = IsNearOctet p taken q ⊎ IsPastOpen p run taken q
NearKind p run taken q Meet = (place first : ℕ) → q.place ≤ place → (row_at taken place).first ≡ Some first → q.birth ≤ first

pub record Near (p : Params) (now : ℕ) (run : Option Run) (taken : List Taken) (q : Packet) : Type 0 where
  -- it was made by now
  pub made : q.birth ≤ now
  pub kind : NearKind p run taken q q.kind

pub record Fits (p : Params) (s : FlowState) (q : Packet) : Type 0 where
  pub facts : PacketFacts p s.run s.taken s.given q
  pub near : Near p s.now s.run s.taken q

-- there is a packet, and it fits
abbrev pub FitsSome : Params → FlowState → Option Packet → Type 0
FitsSome p s None = ⊥
FitsSome p s (Some q) = Fits p s q

abbrev pub AllFit : Params → FlowState → List Packet → Type 0
AllFit p s [] = Unit {0}
AllFit p s (q ∷ qs) = Fits p s q × AllFit p s qs

-- what a step owes: the facts hold after it, each packet that fitted fits still, and the packets that it made fit
pub record Kept (p : Params) (s after : FlowState) (made : List Packet) : Type 0 where
  pub facts : Facts p after
  pub packets : (q : Packet) → Fits p s q → Fits p after q
  pub made_fit : AllFit p after made

-- a fate that isn't Open stays, and so does each row
pub record KeepsFates (rows after : List Taken) : Type 0 where
  pub no_row_goes : length rows ≤ length after
  pub fates : (place : ℕ) → place < length rows → (row_at rows place).fate ≢ Open → (row_at after place).fate ≡ (row_at rows place).fate
