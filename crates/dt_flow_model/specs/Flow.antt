-- One flow between two stations: the records at its two ends, its ledger, and the run that its sender is in.
-- Moments are the world's. A station's clock is ahead of them by a constant, its zero; the moments in a record and of a quiet time are readings of the station's clock.
use Rattle.std.specs.Prelude.{ℕ, zero, suc, ◌+◌, ◌-◌, ◌==◌, Bool, true, false, if◌then◌else◌, nat_le, List, [], ◌∷◌, length, Option, Some, None}
use Rattle.dt_items.specs.declared.item.Item.{Item}
use Rattle.dt_flow_model.specs.declared.rows.Taken.{Taken}
use Rattle.dt_flow_model.specs.declared.rows.Given.{Given}
use Rattle.dt_flow_model.specs.declared.rows.ReadCount.{ReadCount}
use Rattle.dt_units.specs.declared.parameters.Params.{Params}
use Rattle.dt_units.specs.Times.{send_time}
use Rattle.dt_flow_model.specs.Numbering.{number_of, is_crossing}
use Rattle.dt_units.specs.Numbers.{number_distance}
use Rattle.dt_flow_model.specs.Ledger.{top}
use Rattle.dt_flow_model.specs.SendRecord.{SendRecord, next_of}
use Rattle.dt_flow_model.specs.ReceiveRecord.{ReceiveRecord, Receiver}

pub data Kind : Type 0 where
  -- octets, with the data-run flag or without
  Data : (drf : Bool) → (items : List Item) → Kind
  -- an acknowledgement, with the window
  Ack : (window : ℕ) → Kind
  -- a rendezvous packet, which asks for the window
  Meet : Kind

-- a packet of the flow, with two tags that nobody on the wire sees: the moment when it was made, and the place that its number stands for
pub record Packet : Type 0 where
  pub kind : Kind
  pub number : ℕ
  pub birth : ℕ
  pub place : ℕ

-- the run of a flow: the octets of one send record, from its first transmission on
pub record Run : Type 0 where
  -- the place of offset 0
  pub base : ℕ
  -- the moment of the record's first transmission
  pub began : ℕ
  -- the moment of the flow's last transmission of any kind
  pub sent : ℕ

-- a crossing: a first transmission whose first octet has an offset that is a multiple of the quantum
pub record Crossing : Type 0 where
  pub place : ℕ
  pub moment : ℕ

pub record FlowState : Type 0 where
  pub now : ℕ
  -- the sending station: its clock's zero, its life number, the reading until which it is silent, and the flow's send record or none
  pub sender_zero : ℕ
  pub sender_life : ℕ
  pub sender_until : ℕ
  pub sender : Option SendRecord
  -- the receiving station likewise, with what is unread there
  pub receiver_zero : ℕ
  pub receiver_life : ℕ
  pub receiver_until : ℕ
  pub receiver : Option ReceiveRecord
  pub unread : List Item
  -- the ledger
  pub taken : List Taken
  pub given : List Given
  pub reads : List ReadCount
  -- the run of the last send record that transmitted, or none before the first transmission
  pub run : Option Run
  -- the last three crossings, the last one first, or all where there were fewer
  pub crossings : List Crossing

-- what the clocks of the two stations read
abbrev pub sender_reading : FlowState → ℕ
sender_reading s = s.now + s.sender_zero

abbrev pub receiver_reading : FlowState → ℕ
receiver_reading s = s.now + s.receiver_zero

-- the flow's receiver
abbrev pub receiver_of : FlowState → Receiver
receiver_of s = record { unread = s.unread; standing = s.receiver }

-- a flow of two stations that started for the first time
abbrev pub new_flow : ℕ → ℕ → FlowState
new_flow sender_zero receiver_zero =
    record {
      now = 0;
      sender_zero = sender_zero;
      sender_life = 0;
      sender_until = 0;
      sender = None;
      receiver_zero = receiver_zero;
      receiver_life = 0;
      receiver_until = 0;
      receiver = None;
      unread = [];
      taken = [];
      given = [];
      reads = [];
      run = None;
      crossings = [];
    }

-- the run after a transmission at now by a record whose next offset was `next`: a record's first transmission begins a run, whose offset 0 stands at the place `base`
abbrev pub run_after : Option Run → ℕ → ℕ → ℕ → Option Run
run_after run base now zero = Some (record { base = base; began = now; sent = now })
run_after None base now (suc next) = Some (record { base = base; began = now; sent = now })
run_after (Some run) base now (suc next) = Some (record { base = run.base; began = run.began; sent = now })

-- the last three crossings after a first transmission at now, whose first octet has this offset and stands at this place
abbrev pub first_two : List Crossing → List Crossing
first_two [] = []
first_two (c ∷ []) = c ∷ []
first_two (c ∷ d ∷ rest) = c ∷ d ∷ []

abbrev pub crossings_if : Bool → ℕ → ℕ → List Crossing → List Crossing
crossings_if true place now crossings = (record { place = place; moment = now }) ∷ first_two crossings
crossings_if false place now crossings = crossings

abbrev pub crossings_after : Params → ℕ → ℕ → ℕ → List Crossing → List Crossing
crossings_after p offset place now crossings = crossings_if (is_crossing p offset) place now crossings

-- the place of an offset of the send record: the count taken, less the count waiting, less how far the offset is before the next one. Of offsets up to the next one nothing is cut off at 0: a flow took all that its record did, which is a law
abbrev pub place_of : FlowState → SendRecord → ℕ → ℕ
place_of s x offset = length s.taken - length x.waiting - (next_of x - offset)

-- The tag of a data or rendezvous packet, known by its number: the count taken, less the count waiting, less how far the number is before the next one. That it is the packet's place is a law.
abbrev pub tag_of : Params → FlowState → SendRecord → ℕ → ℕ
tag_of p s x number = length s.taken - length x.waiting - number_distance (number_of p (next_of x)) number

-- The tag of an acknowledgement: the place after the last given one where its number is the expected one, else the place of the packet that it answers.
abbrev pub ack_place : Option ReceiveRecord → List Given → ℕ → ℕ → ℕ
ack_place None given number answered = answered
ack_place (Some y) given number answered = if number == y.expected then top given else answered

-- What is reported of a first transmission at now, from the ledger, the run and the crossings alone. Its place is that of the leftmost Open octet of the present life that has no first moment.
-- It begins a run where there was none, or where `send` has passed since the last transmission. Any other transmission goes on with the run.
abbrev pub begins_run : Params → ℕ → Option Run → Bool
begins_run p now None = true
begins_run p now (Some run) = nat_le (run.sent + send_time p) now

abbrev pub run_goes_on : ℕ → Option Run → Option Run
run_goes_on now None = None
run_goes_on now (Some run) = Some (record { base = run.base; began = run.began; sent = now })

abbrev pub run_told : Params → ℕ → ℕ → Option Run → Option Run
run_told p place now run = if begins_run p now run then Some (record { base = place; began = now; sent = now }) else run_goes_on now run

abbrev pub base_in : Option Run → ℕ
base_in None = 0
base_in (Some run) = run.base

abbrev pub crossings_told : Params → ℕ → ℕ → Option Run → List Crossing → List Crossing
crossings_told p place now run crossings = crossings_after p (place - base_in (run_told p place now run)) place now crossings

-- does the packet say that its sender has nothing outstanding before it
abbrev pub leads_kind : Kind → Bool
leads_kind (Data drf items) = drf
leads_kind (Ack window) = false
leads_kind Meet = true
