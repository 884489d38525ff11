-- The receiver of a flow: unread octets, and a receive record or none. What it does with a packet, with a read, and by itself. Moments are readings of the receiving station's clock.
use Rattle.std.specs.Prelude.{ℕ, ◌+◌, ◌-◌, ◌<◌, ◌≤◌, ◌==◌, min, Bool, true, false, ◌&&◌, if◌then◌else◌, nat_lt, nat_le, List, [], ◌++◌, drop, length, Option, Some, None}
use Rattle.dt_items.specs.declared.item.Item.{Item}
use Rattle.dt_units.specs.declared.parameters.Params.{Params}
use Rattle.dt_units.specs.declared.order.Relation.{Relation}
use Rattle.dt_units.specs.declared.order.Relation.TheVariants.{Below, Equal, Above}
use Rattle.dt_units.specs.Times.{receive_time}
use Rattle.dt_flow_model.specs.declared.acts.RecvKind.{RecvKind}
use Rattle.dt_flow_model.specs.declared.acts.RecvKind.TheVariants.{Release, Ack}
use Rattle.dt_flow_model.specs.declared.acts.RecvAct.{RecvAct}
use Rattle.dt_flow_model.specs.declared.acts.RecvAct.TheVariants as T
use Rattle.dt_flow_model.specs.declared.moments.RecvMoments.{RecvMoments}
use Rattle.dt_flow_model.specs.declared.arrivals.Action.{Action}
use Rattle.dt_flow_model.specs.declared.arrivals.Action.TheVariants.{Drop, Make, TellNumber, TellExpected, Accept, Skip, Close}
use Rattle.dt_flow_model.specs.declared.arrivals.Arrived.{Arrived}
use Rattle.dt_flow_model.specs.declared.arrivals.Arrived.TheVariants.{Accepted, Replied, Dropped, Closing}
use Rattle.dt_units.specs.Numbers.{number_after, relation_of}
use Rattle.dt_units.specs.Moments.{earlier}
use Rattle.dt_flow_model.specs.Ledger.{unread_items}
use Rattle.dt_flow_model.specs.SendRecord.{ends}

pub record ReceiveRecord : Type 0 where
  -- the number of the octet that comes next. It goes round
  pub expected : ℕ
  -- the moment of the last acceptance
  pub touched : ℕ
  -- the moment at which an acknowledgement that is owed goes out, or none
  pub due : Option ℕ
  -- the window that was advertised last
  pub told : ℕ

pub record Receiver : Type 0 where
  pub unread : List Item
  -- the receive record, or none
  pub standing : Option ReceiveRecord

-- how many more octets the unread queue takes. It holds at most `rcap`, so nothing is cut off at 0
abbrev pub free_of : Params → List Item → ℕ
free_of p unread = p.rcap - length unread

abbrev pub expected_of : Option ReceiveRecord → Option ℕ
expected_of None = None
expected_of (Some y) = Some y.expected

-- a record is live while its last acceptance is less than `receive` ago
abbrev pub IsLive : Params → ℕ → ReceiveRecord → Type 0
IsLive p now y = now < y.touched + receive_time p

-- where a record stands, it is live: it isn't due for release
abbrev pub IsCurrent : Params → ℕ → Option ReceiveRecord → Type 0
IsCurrent p now None = Unit {0}
IsCurrent p now (Some y) = IsLive p now y

-- THE TABLE OF CASES, in words. For a data packet:
--   1 no record, no data-run flag: drop
--   2 no record, the flag, the octets fit: make a record and accept
--   3 no record, the flag, they don't fit: reply with the packet's number
--   4 a record, below what is expected: reply with the expected number
--   5 a record, what is expected, the octets fit: accept
--   6 a record, what is expected, they don't fit: reply with the expected number
--   7 a record, the flag, above what is expected, the octets fit: skip to them and accept
--   8 a record, the flag, above what is expected, they don't fit: reply with the packet's number
--   9 a record, no flag, above what is expected: reply with the expected number
-- For a closing packet:
--  10 a record, what is expected: tell that it came
--  11 a record, any other number: drop; and without a record rows 1 to 3 drop it too

-- Rows 1 to 3, where no record stands: by the data-run flag, and whether the octets fit into the queue.
abbrev pub action_without : Bool → Bool → Action
action_without false fits = Drop
action_without true true = Make
action_without true false = TellNumber

-- Rows 4 to 9, where a record stands: by the packet's number against the expected one, the flag, and whether the octets fit.
abbrev pub action_with : Relation → Bool → Bool → Action
action_with Below drf fits = TellExpected
action_with Equal drf true = Accept
action_with Equal drf false = TellExpected
action_with Above true true = Skip
action_with Above true false = TellNumber
action_with Above false fits = TellExpected

-- the action on a data packet: what is expected or none, the data-run flag, the packet's number and length, the free room
abbrev pub action_of : Option ℕ → Bool → ℕ → ℕ → ℕ → Action
action_of None drf number length free = action_without drf (nat_le length free)
action_of (Some expected) drf number length free = action_with (relation_of number expected) drf (nat_le length free)

-- Rows 10 and 11: the action on a closing packet, by what is expected or none, and its number.
abbrev pub close_if : Bool → Action
close_if true = Close
close_if false = Drop

abbrev pub close_action : Option ℕ → ℕ → Action
close_action None number = Drop
close_action (Some expected) number = close_if (number == expected)

-- An accepted packet owes an acknowledgement: at once where a message ends in it or one was owed already, else after `a`.
abbrev pub owed_after : Params → ℕ → Option ℕ → Bool → Option ℕ
owed_after p now (Some due) message_ends = Some now
owed_after p now None message_ends = if message_ends then Some now else Some (now + p.a)

-- what a record owes and told; one that is made owes nothing, and its last advertised window is the whole queue
abbrev pub due_in : Option ReceiveRecord → Option ℕ
due_in None = None
due_in (Some y) = y.due

abbrev pub told_in : Params → Option ReceiveRecord → ℕ
told_in p None = p.rcap
told_in p (Some y) = y.told

-- the record after an acceptance at now: it expects what follows
abbrev pub record_accepted : Params → ℕ → ℕ → List Item → Option ℕ → ℕ → ReceiveRecord
record_accepted p now number items due told = record { expected = number_after number (length items); touched = now; due = owed_after p now due (ends items); told = told }

-- the receiver after an acceptance at now, with the run mark on the first item or without
abbrev pub receiver_accepted : Params → ℕ → List Item → Option ReceiveRecord → ℕ → List Item → Bool → Receiver
receiver_accepted p now unread standing number items run = record { unread = unread ++ unread_items run items; standing = Some (record_accepted p now number items (due_in standing) (told_in p standing)) }

-- A reply with the expected number pays what is owed, and any reply of a standing record advertises its window. Without a record nothing changes.
abbrev pub record_told : ReceiveRecord → ℕ → ReceiveRecord
record_told y free = record y { due = None; told = free }

abbrev pub standing_told : Option ReceiveRecord → ℕ → Option ReceiveRecord
standing_told None free = None
standing_told (Some y) free = Some (record_told y free)

abbrev pub window_told : Option ReceiveRecord → ℕ → Option ReceiveRecord
window_told None free = None
window_told (Some y) free = Some (record y { told = free })

-- the receiver after the action on a packet with a number and items, at now
abbrev pub after_action : Params → ℕ → List Item → Option ReceiveRecord → ℕ → List Item → Action → Receiver
after_action p now unread standing number items Drop = record { unread = unread; standing = standing }
after_action p now unread standing number items Make = receiver_accepted p now unread standing number items true
after_action p now unread standing number items TellNumber = record { unread = unread; standing = window_told standing (free_of p unread) }
after_action p now unread standing number items TellExpected = record { unread = unread; standing = standing_told standing (free_of p unread) }
after_action p now unread standing number items Accept = receiver_accepted p now unread standing number items false
after_action p now unread standing number items Skip = receiver_accepted p now unread standing number items true
after_action p now unread standing number items Close = record { unread = unread; standing = standing }

-- a reply with the expected number where a record stands, else with the packet's own
abbrev pub expected_told : Option ReceiveRecord → ℕ → ℕ → Arrived
expected_told None number free = Replied number free
expected_told (Some y) number free = Replied y.expected free

-- what it answers
abbrev pub answer_to : Option ReceiveRecord → ℕ → ℕ → ℕ → Action → Arrived
answer_to standing number count free Drop = Dropped
answer_to standing number count free Make = Accepted true count
answer_to standing number count free TellNumber = Replied number free
answer_to standing number count free TellExpected = expected_told standing number free
answer_to standing number count free Accept = Accepted false count
answer_to standing number count free Skip = Accepted true count
answer_to standing number count free Close = Closing number

-- a data packet comes
abbrev pub action_on : Params → Receiver → Bool → ℕ → List Item → Action
action_on p r drf number items = action_of (expected_of r.standing) drf number (length items) (free_of p r.unread)

abbrev pub after_data : Params → ℕ → Receiver → Bool → ℕ → List Item → Receiver
after_data p now r drf number items = after_action p now r.unread r.standing number items (action_on p r drf number items)

abbrev pub answer_to_data : Params → Receiver → Bool → ℕ → List Item → Arrived
answer_to_data p r drf number items = answer_to r.standing number (length items) (free_of p r.unread) (action_on p r drf number items)

-- A closing packet comes: it is reported or dropped. That it changes nothing is a law.
abbrev pub close_on : Receiver → ℕ → Action
close_on r number = close_action (expected_of r.standing) number

abbrev pub after_close : Params → ℕ → Receiver → ℕ → Receiver
after_close p now r number = after_action p now r.unread r.standing number [] (close_on r number)

abbrev pub answer_to_close : Receiver → ℕ → Arrived
answer_to_close r number = answer_to r.standing number 0 0 (close_on r number)

-- a rendezvous packet comes: it is replied to with the expected number where a record stands, else with its own
abbrev pub after_meet : Params → Receiver → Receiver
after_meet p r = record { unread = r.unread; standing = standing_told r.standing (free_of p r.unread) }

abbrev pub answer_to_meet : Params → Receiver → ℕ → Arrived
answer_to_meet p r number = expected_told r.standing number (free_of p r.unread)

-- A read that raises the free room from below the least of `seg` and `rcap` to at least that, where a record stands that advertised less, makes an acknowledgement due at once.
abbrev pub worth_telling : Params → ℕ
worth_telling p = min p.seg p.rcap

abbrev pub opens_window : Params → ℕ → ℕ → ReceiveRecord → Bool
opens_window p before after y = nat_lt before (worth_telling p) && nat_le (worth_telling p) after && nat_lt y.told (worth_telling p)

abbrev pub record_read : Params → ℕ → ℕ → ℕ → Option ReceiveRecord → Option ReceiveRecord
record_read p now before after None = None
record_read p now before after (Some y) = Some (if opens_window p before after y then record y { due = Some now } else y)

-- so many of the unread octets are read at now
abbrev pub after_read : Params → ℕ → ℕ → Receiver → Receiver
after_read p now count r = record { unread = drop count r.unread; standing = record_read p now (free_of p r.unread) (free_of p (drop count r.unread)) r.standing }

-- The acts. Release: the last acceptance was at least `receive` ago. Ack: an acknowledgement is owed by now.
abbrev pub recv_moment_if : Bool → RecvKind → ℕ → Option (RecvKind × ℕ)
recv_moment_if true kind moment = Some (kind, moment)
recv_moment_if false kind moment = None

abbrev pub owing : ℕ → Option ℕ → Option (RecvKind × ℕ)
owing now None = None
owing now (Some due) = recv_moment_if (nat_le due now) Ack due

-- the first kind that is due at now, with its due moment
abbrev pub recv_due_of : Params → ℕ → Option ReceiveRecord → Option (RecvKind × ℕ)
recv_due_of p now None = None
recv_due_of p now (Some y) = if nat_le (y.touched + receive_time p) now then Some (Release, y.touched + receive_time p) else owing now y.due

-- the receiver after an act: a released record goes with what it owes, and what is unread stays
abbrev pub after_recv_act : Params → Receiver → RecvKind → Receiver
after_recv_act p r Release = record r { standing = None }
after_recv_act p r Ack = after_meet p r

-- what is reported of it
abbrev pub recv_told_of : Params → List Item → ReceiveRecord → RecvKind → RecvAct
recv_told_of p unread y Release = T.Released
recv_told_of p unread y Ack = T.Acked y.expected (free_of p unread)

-- THE MOMENTS OF THE KINDS: from when on each is due if nothing else is done, and none where it never is.
abbrev pub recv_moments : Params → Option ReceiveRecord → RecvMoments
recv_moments p None = record { release = None; ack = None }
recv_moments p (Some y) = record { release = Some (y.touched + receive_time p); ack = y.due }

-- the moment of one kind
abbrev pub recv_moment : RecvMoments → RecvKind → Option ℕ
recv_moment m Release = m.release
recv_moment m Ack = m.ack

-- when the receiver is to be woken: the least moment at which an act is due
abbrev pub recv_wake_of : Params → Option ReceiveRecord → Option ℕ
recv_wake_of p standing = let m = recv_moments p standing in earlier m.release m.ack

-- an act of this kind is due
abbrev pub IsOwed : ℕ → Option ℕ → Type 0
IsOwed now None = ⊥
IsOwed now (Some due) = due ≤ now

abbrev pub IsRecvDue : Params → Option ReceiveRecord → RecvKind → ℕ → Type 0
IsRecvDue p None kind now = ⊥
IsRecvDue p (Some y) Release now = y.touched + receive_time p ≤ now
IsRecvDue p (Some y) Ack now = IsOwed now y.due
