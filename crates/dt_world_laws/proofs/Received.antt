-- The ledger follows the reports of sends, reads and packets that come.
use Rattle.std.proofs.Common.{ℕ, ◌≡◌, Bool, List, length, Option, Some, None, refl, ap, sym, ◌∙◌}
use Rattle.std.proofs.lemmas.List.{length-map}
use Rattle.dt_items.specs.declared.item.Item.{Item}
use Rattle.dt_items.specs.Unread.{octets_of}
use Rattle.dt_units.specs.declared.parameters.Params.{Params}
use Rattle.dt_units.specs.declared.endpoints.Flow.{Flow}
use Rattle.dt_layout.specs.Spelling.{Data, Meet}
use Rattle.dt_reports.specs.declared.reports.Report.TheVariants as words
use Rattle.dt_reports.specs.Told.{read_told}
use Rattle.dt_flow_model.specs.declared.acts.RecvKind.{RecvKind}
use Rattle.dt_flow_model.specs.declared.acts.RecvKind.TheVariants as K
use Rattle.dt_flow_model.specs.declared.arrivals.Action.{Action}
use Rattle.dt_flow_model.specs.declared.arrivals.Action.TheVariants as X
use Rattle.dt_flow_model.specs.declared.arrivals.Arrived.{Arrived}
use Rattle.dt_flow_model.specs.declared.arrivals.Arrived.TheVariants as A
use Rattle.dt_flow_model.specs.Acting.{record_for, after_taking, after_reading, after_receiver_act, acked_flow, data_flow, given_by, with_receiver}
use Rattle.dt_flow_model.specs.Flow.{FlowState, Packet, receiver_of, receiver_reading, sender_reading}
use Rattle.dt_flow_model.specs.Flow as flows
use Rattle.dt_flow_model.specs.Ledger.{note_read}
use Rattle.dt_flow_model.specs.ReceiveRecord.{ReceiveRecord, Receiver, after_data, after_meet, after_read, after_recv_act, action_on, answer_to, answer_to_data, answer_to_meet, free_of, expected_told, recv_told_of}
use Rattle.dt_flow_model.specs.SendRecord.{SendRecord, put}
use Rattle.dt_world_laws.proofs.Books.{Book, Cause, Octets, Brought, book_after}
use Rattle.dt_world_model.specs.Host.{told_arrival, told_recv}
use Rattle.dt_world_laws.proofs.Follows.{book_in, sender_moves}

abbrev pub receiver_moves : FlowState → Receiver → Book → FlowState
receiver_moves s r b = record s { receiver = r.standing; unread = r.unread; taken = b.taken; given = b.given; reads = b.reads; run = b.run; crossings = b.crossings }

-- octets are taken
pub follows_taking : (p : Params) (s : FlowState) (f : Flow) (items : List Item) (count : ℕ) → sender_moves s (Some (put items (record_for p (sender_reading s) s.sender))) (book_after p s.now s.sender_life (Octets items) (words.Took f count) (book_in s)) ≡ after_taking p s items
follows_taking p s f items count = refl

-- an acknowledgement is used
pub follows_acked : (p : Params) (s : FlowState) (f : Flow) (cause : Cause) (x : SendRecord) (count window : ℕ) → sender_moves s (Some x) (book_after p s.now s.sender_life cause (words.Settled f count window) (book_in s)) ≡ acked_flow s (Some (x, count))
follows_acked p s f cause x count window = refl

-- a receiver answers no packet with a count of acknowledged octets
abbrev pub NotAcked : Arrived → Type 0
NotAcked (A.Quiet until) = Unit {0}
NotAcked (A.Accepted run count) = Unit {0}
NotAcked (A.Replied number window) = Unit {0}
NotAcked A.Dropped = Unit {0}
NotAcked (A.Acked count) = ⊥
NotAcked (A.Closing number) = Unit {0}

told_not_acked : (standing : Option ReceiveRecord) (number free : ℕ) → NotAcked (expected_told standing number free)
told_not_acked None number free = tt
told_not_acked (Some y) number free = tt

pub not_acked : (standing : Option ReceiveRecord) (number count free : ℕ) (action : Action) → NotAcked (answer_to standing number count free action)
not_acked standing number count free X.Drop = tt
not_acked standing number count free X.Make = tt
not_acked standing number count free X.TellNumber = tt
not_acked standing number count free X.TellExpected = told_not_acked standing number free
not_acked standing number count free X.Accept = tt
not_acked standing number count free X.Skip = tt
not_acked standing number count free X.Close = tt

-- a data packet comes
data_told : (p : Params) (s : FlowState) (f : Flow) (q : Packet) (from_port to_port number : ℕ) (drf begin end : Bool) (octets : List ℕ) (flag : Bool) (items : List Item) (r : Receiver) (a : Arrived) → NotAcked a → q.kind ≡ flows.Data flag items
    → receiver_moves s r (book_after p s.now s.receiver_life (Brought q) (told_arrival f (Data from_port to_port number drf begin end octets) a) (book_in s)) ≡ record s { receiver = r.standing; unread = r.unread; given = given_by s q items a }
data_told p s f q from_port to_port number drf begin end octets flag items r (A.Quiet until) ok e = refl
data_told p s f q from_port to_port number drf begin end octets flag items r (A.Accepted run count) ok e = rw e refl
data_told p s f q from_port to_port number drf begin end octets flag items r (A.Replied n w) ok e = refl
data_told p s f q from_port to_port number drf begin end octets flag items r A.Dropped ok e = refl
data_told p s f q from_port to_port number drf begin end octets flag items r (A.Acked count) ok e = absurd ok
data_told p s f q from_port to_port number drf begin end octets flag items r (A.Closing k) ok e = refl

-- what is read
pub follows_reading : (p : Params) (s : FlowState) (f : Flow) (cause : Cause) (run begin end : Bool) (piece : List Item) → receiver_moves s (after_read p (receiver_reading s) (length piece) (receiver_of s)) (book_after p s.now s.receiver_life cause (read_told f run begin end (octets_of piece)) (book_in s)) ≡ after_reading p s (length piece)
follows_reading p s f cause run begin end piece =
    ap (λ (n : ℕ). let t : FlowState = record s { receiver = (after_read p (receiver_reading s) (length piece) (receiver_of s)).standing; unread = (after_read p (receiver_reading s) (length piece) (receiver_of s)).unread; reads = note_read s.receiver_life n s.reads } in t)
    (length-map piece (λ (i : Item). i.octet))

-- a receiver acts
pub follows_receiver : (p : Params) (s : FlowState) (f : Flow) (cause : Cause) (y : ReceiveRecord) (kind : RecvKind) → receiver_moves s (after_recv_act p (receiver_of s) kind) (book_after p s.now s.receiver_life cause (told_recv f (recv_told_of p s.unread y kind)) (book_in s)) ≡ after_receiver_act p s kind
follows_receiver p s f cause y K.Release = refl
follows_receiver p s f cause y K.Ack = refl

-- a data packet, as it is read, comes to a receiver that isn't silent
pub follows_data : (p : Params) (s : FlowState) (f : Flow) (q : Packet) (from_port to_port number : ℕ) (drf begin end : Bool) (octets : List ℕ) (items : List Item) → q.kind ≡ flows.Data drf items → q.number ≡ number
    → receiver_moves s (after_data p (receiver_reading s) (receiver_of s) drf number items) (book_after p s.now s.receiver_life (Brought q) (told_arrival f (Data from_port to_port number drf begin end octets) (answer_to_data p (receiver_of s) drf number items)) (book_in s)) ≡ data_flow p s q drf items
follows_data p s f q from_port to_port number drf begin end octets items e n =
    data_told p s f q from_port to_port number drf begin end octets drf items (after_data p (receiver_reading s) (receiver_of s) drf number items) (answer_to_data p (receiver_of s) drf number items) (not_acked s.receiver number (length items) (free_of p s.unread) (action_on p (receiver_of s) drf number items)) e
    ∙ ap (λ (k : ℕ). let r = after_data p (receiver_reading s) (receiver_of s) drf k items in let t : FlowState = record s { receiver = r.standing; unread = r.unread; given = given_by s q items (answer_to_data p (receiver_of s) drf k items) } in t) (sym n)

-- a rendezvous packet comes
meet_told : (p : Params) (s : FlowState) (f : Flow) (cause : Cause) (from_port to_port number : ℕ) (r : Receiver) (standing : Option ReceiveRecord) (free n : ℕ)
    → receiver_moves s r (book_after p s.now s.receiver_life cause (told_arrival f (Meet from_port to_port number) (expected_told standing n free)) (book_in s)) ≡ with_receiver s r
meet_told p s f cause from_port to_port number r None free n = refl
meet_told p s f cause from_port to_port number r (Some y) free n = refl

pub follows_meet : (p : Params) (s : FlowState) (f : Flow) (cause : Cause) (from_port to_port number : ℕ)
    → receiver_moves s (after_meet p (receiver_of s)) (book_after p s.now s.receiver_life cause (told_arrival f (Meet from_port to_port number) (answer_to_meet p (receiver_of s) number)) (book_in s)) ≡ with_receiver s (after_meet p (receiver_of s))
follows_meet p s f cause from_port to_port number = meet_told p s f cause from_port to_port number (after_meet p (receiver_of s)) s.receiver (free_of p s.unread) number
