-- Worked steps over literals: the definitions compute them.
use Rattle.std.specs.Prelude.{ℕ, zero, suc, Bool, true, false, List, [], ◌∷◌, take, drop, replicate, Option, Some, None}
use Rattle.dt_items.specs.declared.item.Item.{Item}
use Rattle.dt_units.specs.declared.parameters.Params.{Params}
use Rattle.dt_flow_model.specs.declared.acts.SendAct.{SendAct}
use Rattle.dt_flow_model.specs.declared.acts.RecvAct.{RecvAct}
use Rattle.dt_flow_model.specs.declared.acts.RecvKind.TheVariants as K
use Rattle.dt_flow_model.specs.SendRecord.{Segment, SendRecord, new_record, put, on_ack}
use Rattle.dt_flow_model.specs.declared.acts.SendKind.{SendKind}
use Rattle.dt_flow_model.specs.SendActs.{act_of, record_after, send_moment, send_moments, told_of, wake_of}
use Rattle.dt_flow_model.specs.ReceiveRecord.{Receiver, after_data, after_meet, after_read, after_recv_act, recv_told_of}

-- the usual parameters: receive 4200, give 5200, send and quiet 6200
abbrev pub usual : Params
usual = record { mpl = 1000; r = 3000; a = 200; rto = 500; probe = 800; seg = 100; cap = 4096; rcap = 4096; window = 512; run_limit = 2147483648; start = 0 }

-- with a window and a queue of four octets, and with runs of eight octets
abbrev pub narrow : Params
narrow = record usual { rcap = 4; window = 4 }

abbrev pub short_runs : Params
short_runs = record usual { run_limit = 8 }

-- with a first number four below 2^32, and with segments of four octets too
abbrev pub near_the_end : Params
near_the_end = record usual { start = 4294967292 }

abbrev pub short_near_the_end : Params
short_near_the_end = record usual { seg = 4; start = 4294967292 }

abbrev pub short_runs_near_the_end : Params
short_runs_near_the_end = record usual { run_limit = 8; start = 4294967292 }

-- a message of these octets
abbrev pub is_none_left : List ℕ → Bool
is_none_left [] = true
is_none_left (o ∷ os) = false

abbrev pub message_from : Bool → List ℕ → List Item
message_from begin [] = []
message_from begin (o ∷ os) = (record { octet = o; begin = begin; end = is_none_left os; run = false }) ∷ message_from false os

abbrev pub message : List ℕ → List Item
message octets = message_from true octets

-- a segment that last went out at its first transmission
abbrev pub segment_at : ℕ → List Item → ℕ → Segment
segment_at offset items now = record { offset = offset; items = items; first = now; last = now }

-- a record that was made at 0 and took these items
abbrev pub taking : Params → List Item → Option SendRecord
taking p items = Some (put items (new_record p 0 []))

-- at most `most` acts at now, one after another: what is reported of them, and the record after them
abbrev pub acts : ℕ → Params → ℕ → Option SendRecord → List SendAct
acts zero p now x = []
acts (suc most) p now None = []
acts (suc most) p now (Some x) = elim (act_of p now x) [ None ↦ [] | Some act ↦ told_of p x act ∷ acts most p now (record_after p now x act) ]

abbrev pub acted : ℕ → Params → ℕ → Option SendRecord → Option SendRecord
acted zero p now x = x
acted (suc most) p now None = None
acted (suc most) p now (Some x) = elim (act_of p now x) [ None ↦ Some x | Some act ↦ acted most p now (record_after p now x act) ]

-- an acknowledgement comes: how many octets it acknowledged, and the record after it
abbrev pub acked_count : Params → ℕ → ℕ → Option SendRecord → Option ℕ
acked_count p k w None = None
acked_count p k w (Some x) = elim (on_ack p x k w) [ None ↦ None | Some r ↦ Some r.1 ]

abbrev pub acked : Params → ℕ → ℕ → Option SendRecord → Option SendRecord
acked p k w None = None
acked p k w (Some x) = elim (on_ack p x k w) [ None ↦ Some x | Some r ↦ Some r.0 ]

abbrev pub took : List Item → Option SendRecord → Option SendRecord
took items None = None
took items (Some x) = Some (put items x)

-- what a receiver tells when its owed acknowledgement goes out
abbrev pub told_by : Params → Receiver → Option RecvAct
told_by p r = elim r.standing [ None ↦ None | Some y ↦ Some (recv_told_of p r.unread y K.Ack) ]

abbrev pub nobody : Receiver
nobody = record { unread = []; standing = None }

-- 250 octets, cut into 100, 100 and 50, which come in another order
abbrev pub long : List Item
long = message (replicate 250 97)

abbrev pub part : ℕ → ℕ → List Item
part from count = take count (drop from long)

abbrev pub long_sent : Option SendRecord
long_sent = acted 9 usual 0 (taking usual long)

abbrev pub got_first : Receiver
got_first = after_data usual 0 nobody true 0 (part 0 100)

abbrev pub got_third_early : Receiver
got_third_early = after_data usual 0 got_first false 200 (part 200 50)

abbrev pub got_second : Receiver
got_second = after_data usual 0 got_third_early false 100 (part 100 100)

abbrev pub got_third : Receiver
got_third = after_data usual 500 (after_recv_act usual got_second K.Ack) true 200 (part 200 50)

-- one octet that is lost twice and given up, and one that is sent after it
abbrev pub one_octet : List Item
one_octet = message (97 ∷ [])

abbrev pub one_sent : Option SendRecord
one_sent = acted 9 usual 0 (taking usual one_octet)

abbrev pub one_resent : Option SendRecord
one_resent = acted 9 usual 2999 one_sent

-- when a record is to be woken
abbrev pub wake_at : Params → Option SendRecord → Option ℕ
wake_at p None = None
wake_at p (Some x) = wake_of p x

-- a message of so many equal octets
abbrev pub first_of : ℕ → List Item
first_of count = message (replicate count 97)

-- twenty octets in runs of eight
abbrev pub run_sent_out : Option SendRecord
run_sent_out = acked short_runs 8 4088 (acted 9 short_runs 0 (taking short_runs (first_of 20)))

-- six octets through a window of four
abbrev pub six : List Item
six = message (97 ∷ 98 ∷ 99 ∷ 100 ∷ 101 ∷ 102 ∷ [])

abbrev pub six_sent : Option SendRecord
six_sent = acked narrow 4 0 (acted 9 narrow 0 (taking narrow six))

abbrev pub six_met : Option SendRecord
six_met = acked narrow 4 0 (acted 9 narrow 800 six_sent)

abbrev pub four_taken : Receiver
four_taken = after_data narrow 0 nobody true 0 (take 4 six)

abbrev pub four_got : Receiver
four_got = after_recv_act narrow four_taken K.Ack

abbrev pub four_read : Receiver
four_read = after_read narrow 800 4 (after_meet narrow four_got)

abbrev pub six_given_up : Option SendRecord
six_given_up = acted 9 narrow 0 (taking narrow six)

-- hello, which comes three times, the last time long after
abbrev pub hello : List Item
hello = message (104 ∷ 101 ∷ 108 ∷ 108 ∷ 111 ∷ [])

abbrev pub hello_in : Receiver
hello_in = after_recv_act usual (after_data usual 0 nobody true 0 hello) K.Ack

-- eight octets in two messages reach the quantum of eight, and one more octet waits
abbrev pub four_sent : Option SendRecord
four_sent = acted 9 short_runs 0 (taking short_runs (first_of 4))

abbrev pub four_acked : Option SendRecord
four_acked = acked short_runs 4 4092 four_sent

abbrev pub eight_sent : Option SendRecord
eight_sent = acted 9 short_runs 3500 (took (first_of 4) four_acked)

abbrev pub eight_acked : Option SendRecord
eight_acked = acked short_runs 8 4088 eight_sent

abbrev pub ninth_waits : Option SendRecord
ninth_waits = took (message (98 ∷ [])) eight_acked

abbrev pub four_in : Receiver
four_in = after_recv_act short_runs (after_data short_runs 0 nobody true 0 (first_of 4)) K.Ack

abbrev pub eight_in : Receiver
eight_in = after_recv_act short_runs (after_data short_runs 3500 four_in true 4 (first_of 4)) K.Ack

abbrev pub without_record : Receiver
without_record = after_recv_act short_runs eight_in K.Release

abbrev pub ninth_in : Receiver
ninth_in = after_data short_runs 9200 without_record true 8 (message (98 ∷ []))

-- the moment of a kind of act
abbrev pub moment_of : Params → ℕ → SendKind → Option SendRecord → Option ℕ
moment_of p now kind None = None
moment_of p now kind (Some x) = send_moment (send_moments p now x) kind

-- ten octets whose numbers go round
abbrev pub ten_sent : Option SendRecord
ten_sent = acted 9 near_the_end 0 (taking near_the_end (first_of 10))

abbrev pub ten_in : Receiver
ten_in = after_data near_the_end 0 nobody true 4294967292 (first_of 10)

-- and the same in three segments
abbrev pub ten_cut : Option SendRecord
ten_cut = acted 9 short_near_the_end 0 (taking short_near_the_end (first_of 10))

abbrev pub ten_part : ℕ → ℕ → List Item
ten_part from count = take count (drop from (first_of 10))

abbrev pub ten_first : Receiver
ten_first = after_data short_near_the_end 0 nobody true 4294967292 (ten_part 0 4)

abbrev pub ten_again : Receiver
ten_again = after_data short_near_the_end 0 ten_first true 4294967292 (ten_part 0 4)

abbrev pub ten_early : Receiver
ten_early = after_data short_near_the_end 0 ten_again false 4 (ten_part 8 2)

abbrev pub ten_second : Receiver
ten_second = after_data short_near_the_end 0 ten_early false 0 (ten_part 4 4)

abbrev pub ten_third : Receiver
ten_third = after_data short_near_the_end 0 ten_second false 4 (ten_part 8 2)

-- a quantum of eight octets that begins before 2^32, and the octets after it
abbrev pub twelve_sent : Option SendRecord
twelve_sent = acted 9 short_runs_near_the_end 0 (taking short_runs_near_the_end (first_of 12))

abbrev pub twelve_acked : Option SendRecord
twelve_acked = acked short_runs_near_the_end 4 4088 twelve_sent

-- four octets and four more, which are acknowledged, and a ninth
abbrev pub ninth_near_the_end : Option SendRecord
ninth_near_the_end =
    let p = short_runs_near_the_end in
    let four = acked p 0 4092 (acted 9 p 0 (taking p (first_of 4))) in
    took (message (98 ∷ [])) (acked p 4 4088 (acted 9 p 3500 (took (first_of 4) four)))
