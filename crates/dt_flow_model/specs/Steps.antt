-- The small steps of one flow. What an event does to the flow is a list of these. A closing packet that comes is none: it changes nothing.
use Rattle.std.specs.Prelude.{ℕ, ◌+◌, ◌<◌, ◌≤◌, ◌≡◌, ◌⊎◌, Bool, true, false, List, [], ◌∷◌, ◌++◌, length, Option, Some, None, All, Contains}
use Rattle.dt_items.specs.declared.item.Item.{Item}
use Rattle.dt_units.specs.declared.parameters.Params.{Params}
use Rattle.dt_units.specs.Times.{send_time, receive_time, quiet_time}
use Rattle.dt_flow_model.specs.declared.rows.Fate.TheVariants.{Acked, Uncertain}
use Rattle.dt_flow_model.specs.Numbering.{number_of, up_to_crossing}
use Rattle.dt_units.specs.Numbers.{number_after}
use Rattle.dt_flow_model.specs.Ledger.{settle, note_first, take_rows, given_rows, unread_items, note_read, top}
use Rattle.dt_flow_model.specs.SendRecord.{Segment, SendRecord, end_of, next_from, next_of, held_of, crossed_after, leads, items_in}
use Rattle.dt_flow_model.specs.SendActs.{may_send_from}
use Rattle.dt_flow_model.specs.ReceiveRecord.{ReceiveRecord, IsLive}
use Rattle.dt_flow_model.specs.Flow.{Data, Ack, Meet, Packet, FlowState, sender_reading, receiver_reading, new_flow, run_after, crossings_after, place_of, leads_kind}

-- the same record, but for what it owes and what it told: both are none, or both expect the same and were touched at the same moment
abbrev pub IsSameRecord : Option ReceiveRecord → Option ReceiveRecord → Type 0
IsSameRecord None None = Unit {0}
IsSameRecord None (Some z) = ⊥
IsSameRecord (Some y) None = ⊥
IsSameRecord (Some y) (Some z) = (z.expected ≡ y.expected) × (z.touched ≡ y.touched)

-- the octets are the next ones, and don't get the run mark; or nothing is outstanding before them, they are later ones, and the first gets it
abbrev pub IsNextOrSkip : FlowState → Packet → Bool → Bool → Type 0
IsNextOrSkip s q drf run = (q.place ≡ top s.given) × (run ≡ false) ⊎ (drf ≡ true) × (top s.given < q.place) × (run ≡ true)

-- a record in which octets wait has transmitted
abbrev pub HasTransmitted : Option SendRecord → Type 0
HasTransmitted None = Unit {0}
HasTransmitted (Some x) = 0 < length x.waiting → 0 < next_of x

-- an acknowledgement of these segments, if any, has the place of their end
abbrev pub IsTheirEnd : FlowState → SendRecord → Packet → List Segment → Type 0
IsTheirEnd s x q [] = Unit {0}
IsTheirEnd s x q (g ∷ gs) = q.place ≡ place_of s x (next_from x.left (g ∷ gs))

-- a packet that may come still: it was made less than `mpl` ago
abbrev pub IsAlive : Params → FlowState → Packet → Type 0
IsAlive p s q = s.now < q.birth + p.mpl

-- the flow, the packets that came in the step, the packets that it made, the flow after it
pub data Step (p : Params) : FlowState → List Packet → List Packet → FlowState → Type 0 where
  -- time passes
  passes : (s : FlowState) (by : ℕ) → Step p s [] [] (record s { now = s.now + by })
  -- a station starts again, in its next life, and is silent for a quiet time. A send record that took octets transmits before anything else happens to its station
  sender_restarts : (s : FlowState) → HasTransmitted s.sender → Step p s [] [] (record s { sender = None; sender_life = s.sender_life + 1; sender_until = sender_reading s + quiet_time p })
  receiver_restarts : (s : FlowState) → Step p s [] [] (record s { receiver = None; receiver_life = s.receiver_life + 1; receiver_until = receiver_reading s + quiet_time p; unread = [] })
  -- a sender that isn't silent makes a record
  makes : (s : FlowState) (edge : ℕ) → s.sender ≡ None → s.sender_until ≤ sender_reading s → 0 < edge
      → Step p s [] [] (record s { sender = Some (record { left = 0; edge = edge; touched = sender_reading s; crossed = None; outstanding = []; waiting = [] }) })
  -- the record takes octets, as many as fit
  takes : (s : FlowState) (x : SendRecord) (items : List Item) → s.sender ≡ Some x → held_of x + length items ≤ p.cap
      → Step p s [] [] (record s { sender = Some (record x { waiting = x.waiting ++ items }); taken = take_rows s.sender_life items s.taken })
  -- the leftmost segment is given up
  gives_up : (s : FlowState) (x : SendRecord) (g : Segment) (rest : List Segment) → s.sender ≡ Some x → x.outstanding ≡ g ∷ rest
      → Step p s [] [] (record s { sender = Some (record x { left = end_of g; outstanding = rest }); taken = settle s.sender_life Uncertain (length g.items) s.taken })
  -- a record that holds nothing goes, `send` after it was touched
  releases : (s : FlowState) (x : SendRecord) → s.sender ≡ Some x → x.outstanding ≡ [] → x.waiting ≡ [] → x.touched + send_time p ≤ sender_reading s → Step p s [] [] (record s { sender = None })
  -- a record of which nothing is outstanding begins anew, `send` after it was touched
  renews : (s : FlowState) (x : SendRecord) (edge : ℕ) → s.sender ≡ Some x → x.outstanding ≡ [] → x.touched + send_time p ≤ sender_reading s → 0 < edge
      → Step p s [] [] (record s { sender = Some (record { left = 0; edge = edge; touched = sender_reading s; crossed = None; outstanding = []; waiting = x.waiting }) })
  -- a segment goes out again, less than `r` after its first transmission
  resends : (s : FlowState) (x : SendRecord) (before after : List Segment) (g : Segment) → s.sender ≡ Some x → x.outstanding ≡ before ++ g ∷ after → sender_reading s < g.first + p.r
      → Step p s [] ((record { kind = Data (leads x g.offset) g.items; number = number_of p g.offset; birth = s.now; place = place_of s x g.offset }) ∷ [])
      (record s {
        sender = Some (record x { touched = sender_reading s; outstanding = before ++ (record g { last = sender_reading s }) ∷ after });
        run = run_after s.run (place_of s x 0) s.now (next_of x);
      })
  -- octets that waited go out as a segment, at most up to the next crossing; where it begins at one, `spacing` after the last
  sends : (s : FlowState) (x : SendRecord) (cut rest : List Item) → s.sender ≡ Some x → x.waiting ≡ cut ++ rest → 0 < length cut → length cut ≤ up_to_crossing p (next_of x) → may_send_from p x ≤ sender_reading s
      → Step p s [] ((record { kind = Data (leads x (next_of x)) cut; number = number_of p (next_of x); birth = s.now; place = place_of s x (next_of x) }) ∷ [])
      (record s {
        sender = Some (record x {
          touched = sender_reading s;
          crossed = crossed_after p (sender_reading s) x;
          outstanding = x.outstanding ++ (record { offset = next_of x; items = cut; first = sender_reading s; last = sender_reading s }) ∷ [];
          waiting = rest;
        });
        taken = note_first s.now (place_of s x (next_of x)) (length cut) s.taken;
        run = run_after s.run (place_of s x 0) s.now (next_of x);
        crossings = crossings_after p (next_of x) (place_of s x (next_of x)) s.now s.crossings;
      })
  -- a rendezvous packet goes out, where nothing is outstanding and the window is used up
  meets : (s : FlowState) (x : SendRecord) → s.sender ≡ Some x → x.outstanding ≡ [] → x.edge ≤ next_of x
      → Step p s [] ((record { kind = Meet; number = number_of p x.left; birth = s.now; place = place_of s x x.left }) ∷ [])
      (record s { sender = Some (record x { touched = sender_reading s }); run = run_after s.run (place_of s x 0) s.now (next_of x) })
  -- an acknowledgement comes of the first segments, or of none
  is_acked : (s : FlowState) (x : SendRecord) (q : Packet) (window : ℕ) (gone rest : List Segment) (edge : ℕ) → s.sender ≡ Some x → q.kind ≡ Ack window → IsAlive p s q
      → x.outstanding ≡ gone ++ rest → IsTheirEnd s x q gone
      → Step p s (q ∷ []) []
      (record s { sender = Some (record x { left = next_from x.left gone; edge = edge; outstanding = rest }); taken = settle s.sender_life Acked (items_in gone) s.taken })
  -- a receiver without a record, which isn't silent, accepts a packet that has nothing outstanding before it
  accepts_first : (s : FlowState) (q : Packet) (items : List Item) (due : Option ℕ) (told : ℕ) → s.receiver ≡ None → s.receiver_until ≤ receiver_reading s → q.kind ≡ Data true items → 0 < length items → IsAlive p s q
      → Step p s (q ∷ []) []
      (record s {
        receiver = Some (record { expected = number_after q.number (length items); touched = receiver_reading s; due = due; told = told });
        unread = s.unread ++ unread_items true items;
        given = s.given ++ given_rows s.receiver_life s.now true q.place items;
      })
  -- a live record accepts the next octets, or skips to later ones
  accepts : (s : FlowState) (y : ReceiveRecord) (q : Packet) (drf run : Bool) (items : List Item) (due : Option ℕ) → s.receiver ≡ Some y → IsLive p (receiver_reading s) y → q.kind ≡ Data drf items → 0 < length items → IsAlive p s q
      → IsNextOrSkip s q drf run
      → Step p s (q ∷ []) []
      (record s {
        receiver = Some (record y { expected = number_after q.number (length items); touched = receiver_reading s; due = due });
        unread = s.unread ++ unread_items run items;
        given = s.given ++ given_rows s.receiver_life s.now run q.place items;
      })
  -- the number of a packet that has nothing outstanding before it is acknowledged
  tells_number : (s : FlowState) (q : Packet) (y : Option ReceiveRecord) (window : ℕ) → leads_kind q.kind ≡ true → IsAlive p s q → IsSameRecord s.receiver y
      → Step p s (q ∷ []) ((record { kind = Ack window; number = q.number; birth = s.now; place = q.place }) ∷ []) (record s { receiver = y })
  -- a live record acknowledges what it expects
  tells_expected : (s : FlowState) (y : ReceiveRecord) (due : Option ℕ) (told window : ℕ) → s.receiver ≡ Some y → IsLive p (receiver_reading s) y
      → Step p s [] ((record { kind = Ack window; number = y.expected; birth = s.now; place = top s.given }) ∷ []) (record s { receiver = Some (record y { due = due; told = told }) })
  -- a receive record goes, `receive` after its last acceptance
  receiver_releases : (s : FlowState) (y : ReceiveRecord) → s.receiver ≡ Some y → y.touched + receive_time p ≤ receiver_reading s → Step p s [] [] (record s { receiver = None })
  -- unread octets are read
  reads : (s : FlowState) (y : Option ReceiveRecord) (piece rest : List Item) → s.unread ≡ piece ++ rest → IsSameRecord s.receiver y
      → Step p s [] [] (record s { receiver = y; unread = rest; reads = note_read s.receiver_life (length piece) s.reads })

-- small steps one after another, with the packets that came in them and those that they made
pub data Steps (p : Params) : FlowState → List Packet → List Packet → FlowState → Type 0 where
  none : {s : FlowState} → Steps p s [] [] s
  more : {s mid after : FlowState} {ins made ins' made' : List Packet} → Step p s ins made mid → Steps p mid ins' made' after → Steps p s (ins ++ ins') (made ++ made') after

-- what a packet that came did: a small step, which may take it, or nothing
abbrev pub IsStepOrNothing : Params → FlowState → Packet → List Packet → FlowState → Type 0
IsStepOrNothing p s q made after = Step p s (q ∷ []) made after ⊎ Step p s [] made after ⊎ (after ≡ s) × (made ≡ [])

-- what small steps lead to from a first start, with all packets that were ever made. A step may take any of them: packets are lost, come again and come in any order
pub data Reached (p : Params) : FlowState → List Packet → Type 0 where
  starts : (sender_zero receiver_zero : ℕ) → Reached p (new_flow sender_zero receiver_zero) []
  goes : {s after : FlowState} {packets ins made : List Packet} → Reached p s packets → All (Contains packets) ins → Step p s ins made after → Reached p after (made ++ packets)
