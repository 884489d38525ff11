-- What the records of a flow keep, so that their numbers fit and their packets can be spelled: the ranges on which code can rest.
-- Counts of octets and moments have no bound by themselves. Whoever keeps records meets two conditions, which a world and a node are shown to meet: a flow takes fewer octets than `octets_below`, and no reading is above `most_moment`. With them all that a record keeps, and each sum that it makes, fits into 64 bits.
use Rattle.std.specs.Prelude.{ℕ, ◌+◌, ◌^◌, ◌<◌, ◌≤◌, ◌≡◌, All, false, List, length, Option, Some, None}
use Rattle.dt_items.specs.declared.item.Item.{Item}
use Rattle.dt_items.specs.Unread.{marked, octets_of}
use Rattle.dt_units.specs.declared.parameters.Params.{Params}
use Rattle.dt_units.specs.Times.{give_time, receive_time, send_time}
use Rattle.dt_flow_model.specs.SendRecord.{Segment, SendRecord, begins, end_of, ends, held_of, next_of}
use Rattle.dt_flow_model.specs.SendActs.{may_send_from, most_segments}
use Rattle.dt_flow_model.specs.ReceiveRecord.{ReceiveRecord, Receiver}
use Rattle.dt_flow_model.specs.Facts.{Chain}

-- FLOWS AND SEGMENTS

-- items of one packet: the octets with a begin mark on the first and an end mark on the last, or without, and no run mark
abbrev pub IsPieceSent : List Item → Type 0
IsPieceSent items = items ≡ marked (octets_of items) (begins items) (ends items) false

-- a segment is one piece of 1 to `seg` octets
pub record IsSegment (p : Params) (g : Segment) : Type 0 where
  pub piece : IsPieceSent g.items
  pub some : 1 ≤ length g.items
  pub fits : length g.items ≤ p.seg

-- THE SEND RECORD

abbrev pub HasNoRun : Item → Type 0
HasNoRun item = item.run ≡ false

-- the widest window of an acknowledgement, and of the parameters
abbrev pub most_window : ℕ
most_window = 65536

pub record IsSendRecord (p : Params) (x : SendRecord) : Type 0 where
  pub segments : All (IsSegment p) x.outstanding
  -- the segments follow each other from left on
  pub chain : Chain x.left x.outstanding
  pub waiting : All HasNoRun x.waiting
  -- it holds at most `cap` octets, in at most 64 segments and what waits
  pub held : held_of x ≤ p.cap
  pub few : length x.outstanding ≤ most_segments
  -- the receiver's window ends at most 65,536 octets above left
  pub edge : x.edge ≤ x.left + most_window

-- the offset at which all octets end that the record has taken since it began. It is at most the count of octets that the flow took
abbrev pub taken_by : SendRecord → ℕ
taken_by x = next_of x + length x.waiting

-- a moment or none is by another
abbrev pub IsBy : ℕ → Option ℕ → Type 0
IsBy now None = Unit {0}
IsBy now (Some moment) = moment ≤ now

-- what a send record notes of the past is by now
pub record IsUpTo (now : ℕ) (x : SendRecord) : Type 0 where
  pub touched : x.touched ≤ now
  pub crossed : IsBy now x.crossed
  pub segments : All (λ g. (g.first ≤ g.last) × (g.last ≤ now)) x.outstanding

-- THE RECEIVER

-- the expected number has 32 bits
abbrev pub HasNumber : Option ReceiveRecord → Type 0
HasNumber None = Unit {0}
HasNumber (Some y) = y.expected < 2 ^ 32

-- the window that was advertised last is at most the whole queue
abbrev pub HasTold : Params → Option ReceiveRecord → Type 0
HasTold p None = Unit {0}
HasTold p (Some y) = y.told ≤ p.rcap

pub record IsReceiverKept (p : Params) (r : Receiver) : Type 0 where
  -- unread octets are at most `rcap`
  pub room : length r.unread ≤ p.rcap
  pub expected : HasNumber r.standing
  pub told : HasTold p r.standing

-- the last acceptance was by now, and what is owed is due at most `a` from now
pub record IsRecvUpTo (p : Params) (now : ℕ) (y : ReceiveRecord) : Type 0 where
  pub touched : y.touched ≤ now
  pub due : IsBy (now + p.a) y.due

abbrev pub IsStandingUpTo : Params → ℕ → Option ReceiveRecord → Type 0
IsStandingUpTo p now None = Unit {0}
IsStandingUpTo p now (Some y) = IsRecvUpTo p now y

-- SUMS

-- the two conditions of whoever keeps records
abbrev pub octets_below : ℕ
octets_below = 2 ^ 62

abbrev pub most_moment : ℕ
most_moment = 2 ^ 62

-- No sum of a record wraps in 64 bits. Those of a segment: where it ends, and the moments until which it goes out again, from which on it does, and at which it is given up.
pub record SegmentFits (p : Params) (g : Segment) : Type 0 where
  pub ends : end_of g < 2 ^ 63
  pub resent_until : g.first + p.r < 2 ^ 63
  pub resent_from : g.last + p.rto < 2 ^ 63
  pub given_up : g.first + give_time p < 2 ^ 63

-- those of a send record: its offsets, and the moments of its kinds
pub record RecordFits (p : Params) (x : SendRecord) : Type 0 where
  pub left : x.left < 2 ^ 63
  pub next : next_of x < 2 ^ 63
  pub edge : x.edge < 2 ^ 63
  pub released : x.touched + send_time p < 2 ^ 63
  pub meets : x.touched + p.probe < 2 ^ 63
  pub sends : may_send_from p x < 2 ^ 63
  pub segments : All (SegmentFits p) x.outstanding

-- and those of a receive record
pub record ReceiveRecordFits (p : Params) (y : ReceiveRecord) : Type 0 where
  pub released : y.touched + receive_time p < 2 ^ 63
  pub owed : IsBy (2 ^ 63) y.due
