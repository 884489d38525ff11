-- What a record notes of the past is by now, what a receiver keeps stays, and what they make can be spelled.
use Rattle.std.proofs.Common.{ℕ, suc, ◌+◌, ◌<◌, ◌≤◌, ◌^◌, ◌≡◌, Bool, true, false, List, [], ◌∷◌, ◌++◌, length, drop, Option, Some, None, refl, ap, subst, arith, inl, inr, length-append}
use Rattle.std.specs.List.{All}
use Rattle.std.proofs.lemmas.List.{length-drop, length-map}
use Rattle.std.proofs.lemmas.Nat.{mod_below}
use Rattle.std.proofs.lemmas.List.Elements.{All-nil, All-append, All-cons, All-tail, All-weaker}
use Rattle.dt_items.specs.declared.item.Item.{Item}
use Rattle.dt_units.specs.declared.parameters.Params.{Params}
use Rattle.dt_units.specs.declared.endpoints.Flow.{Flow}
use Rattle.dt_units.specs.Limits.{IsWithinLimits}
use Rattle.dt_layout.specs.Spelling.{KeepsRules, version_of}
use Rattle.dt_items.specs.Unread.{octets_of}
use Rattle.std.proofs.lemmas.Bool.Decides.{nat_tests}
use Rattle.dt_flow_model.specs.Facts.{Facts, SendSide}
use Rattle.dt_flow_model.specs.Frames.{ack_packet, data_packet}
use Rattle.dt_flow_model.specs.Keeping.{HasNumber, HasTold, IsBy, IsReceiverKept, IsStandingUpTo, IsUpTo, taken_by}
use Rattle.dt_flow_model.specs.Numbering.{is_crossing}
use Rattle.dt_units.specs.Numbers.{number_after, relation_of}
use Rattle.dt_flow_model.specs.SendRecord.{Segment, SendRecord, crossed_after, end_of, ends, new_record, next_of, put, record_acked}
use Rattle.dt_flow_model.specs.SendActs.{Act, IsDue, give_up, release, renew, resend, send, meet, record_after}
use Rattle.dt_flow_model.specs.ReceiveRecord.{ReceiveRecord, Receiver, action_of, action_on, action_with, action_without, after_action, after_data, after_meet, after_read, after_recv_act, due_in, expected_of, free_of, opens_window, owed_after, receiver_accepted, record_read, standing_told, told_in, window_told}
use Rattle.dt_flow_model.specs.Flow.{FlowState}
use Rattle.dt_flow_model.specs.declared.acts.RecvKind.{RecvKind}
use Rattle.dt_flow_model.specs.declared.acts.RecvKind.TheVariants as K
use Rattle.dt_flow_model.specs.declared.arrivals.Action.{Action}
use Rattle.dt_flow_model.specs.declared.arrivals.Action.TheVariants.{Accept, Close, Drop, Make, Skip, TellExpected, TellNumber}
use Rattle.dt_flow_model.specs.Ledger.{unread_items}
use Rattle.dt_units.specs.declared.order.Relation.{Relation}
use Rattle.dt_units.specs.declared.order.Relation.TheVariants.{Above, Below, Equal}
use Rattle.std.specs.Prelude.{nat_le}
use Rattle.std.proofs.lemmas.Bool.{cases_Bool, cases_lt}
use Rattle.dt_flow_laws.proofs.SenderSteps.{taken_length}
use Rattle.dt_flow_model.proofs.Chains.{all_at, all_rest, all_swap, chain_next}
use Rattle.dt_flow_model.proofs.Chosen.{le_true, true_le}

-- its packets keep the rules of the layout
pub ack_rules : (p : Params) (f : Flow) (unread : List Item) (number : ℕ) → IsWithinLimits p → number < 2 ^ 32 → KeepsRules (ack_packet f number (free_of p unread))
ack_rules p f unread number limits lt = (lt, omega (arith, limits.rcap))

-- the version of a data packet is by its count of octets
pub short_version : (f : Flow) (number : ℕ) (drf : Bool) (items : List Item) → length items ≤ 1024 → version_of (data_packet f number drf items) ≡ 1
short_version f number drf items le = let count = length-map items (λ (i : Item). i.octet) in let e : nat_le (length (octets_of items)) 1024 ≡ true = true_le (length (octets_of items)) 1024 (omega (arith, count)) in rw e refl

pub long_version : (f : Flow) (number : ℕ) (drf : Bool) (items : List Item) → 1024 < length items → version_of (data_packet f number drf items) ≡ 2
long_version f number drf items lt = let count = length-map items (λ (i : Item). i.octet) in let e : nat_le (length (octets_of items)) 1024 ≡ false = grind (arith, nat_tests, count) in rw e refl

-- MOMENTS OF THE PAST: what a record keeps of them is by now
by_later : (now later : ℕ) (moment : Option ℕ) → now ≤ later → IsBy now moment → IsBy later moment
by_later now later None le h = tt
by_later now later (Some m) le h = omega arith

abbrev InOrderBy : ℕ → Segment → Type 0
InOrderBy now g = (g.first ≤ g.last) × (g.last ≤ now)

pub up_to_later : (now later : ℕ) (x : SendRecord) → now ≤ later → IsUpTo now x → IsUpTo later x
up_to_later now later x le h = record {
  touched = omega (arith, h.touched);
  crossed = by_later now later x.crossed le h.crossed;
  segments = All-weaker (InOrderBy now) (InOrderBy later) (λ g k. (k.0, omega (arith, k.1))) x.outstanding h.segments;
}

pub new_up_to : (p : Params) (now : ℕ) → IsUpTo now (new_record p now [])
new_up_to p now = record { touched = omega arith; crossed = tt; segments = All-nil (InOrderBy now) }

pub put_up_to : (now : ℕ) (x : SendRecord) (items : List Item) → IsUpTo now x → IsUpTo now (put items x)
put_up_to now x items h = record { touched = h.touched; crossed = h.crossed; segments = h.segments }

pub acked_up_to : (now : ℕ) (x : SendRecord) (gone rest : List Segment) (w : ℕ) → IsUpTo now x → x.outstanding ≡ gone ++ rest → IsUpTo now (record_acked x gone rest w)
acked_up_to now x gone rest w h split = let all : All (InOrderBy now) (gone ++ rest) = rw split at h.segments in record { touched = h.touched; crossed = h.crossed; segments = all_rest (InOrderBy now) gone rest all }

crossed_by : (p : Params) (now : ℕ) (x : SendRecord) → IsBy now x.crossed → IsBy now (crossed_after p now x)
crossed_by p now x h = elim (cases_Bool (is_crossing p (next_of x))) [ inl y ↦ rw y (omega arith) | inr n ↦ rw n h ]

pub act_up_to : (p : Params) (now : ℕ) (x : SendRecord) (act : Act) (after : SendRecord) → IsUpTo now x → IsDue p now x act → record_after p now x act ≡ Some after → IsUpTo now after
act_up_to p now x (give_up g rest) after h due e =
    let all : All (InOrderBy now) (g ∷ rest) = rw (due.0) at h.segments in
    let t : IsUpTo now (record x { left = end_of g; outstanding = rest }) = record { touched = h.touched; crossed = h.crossed; segments = All-tail (InOrderBy now) g rest all } in
    let same : record x { left = end_of g; outstanding = rest } ≡ after = cc in
    subst (λ (y : SendRecord). IsUpTo now y) same t
act_up_to p now x release after h due e = absurd cc
act_up_to p now x renew after h due e =
    let t : IsUpTo now (new_record p now x.waiting) = record { touched = omega arith; crossed = tt; segments = All-nil (InOrderBy now) } in
    let same : new_record p now x.waiting ≡ after = cc in
    subst (λ (y : SendRecord). IsUpTo now y) same t
act_up_to p now x (resend before g rest) after h due e =
    let all : All (InOrderBy now) (before ++ g ∷ rest) = rw (due.0) at h.segments in
    let one = all_at (InOrderBy now) before rest g all in
    let again : Segment = record g { last = now } in
    let t : IsUpTo now (record x { touched = now; outstanding = before ++ again ∷ rest }) = record { touched = omega arith; crossed = h.crossed; segments = all_swap (InOrderBy now) before rest g again (omega (arith, one.0, one.1), omega arith) all } in
    let same : record x { touched = now; outstanding = before ++ again ∷ rest } ≡ after = cc in
    subst (λ (y : SendRecord). IsUpTo now y) same t
act_up_to p now x (send cut rest) after h due e =
    let g : Segment = record { offset = next_of x; items = cut; first = now; last = now } in
    let t : IsUpTo now (record x { touched = now; crossed = crossed_after p now x; outstanding = x.outstanding ++ g ∷ []; waiting = rest }) =
    record { touched = omega arith; crossed = crossed_by p now x h.crossed; segments = All-append (InOrderBy now) x.outstanding (g ∷ []) h.segments (All-cons (InOrderBy now) g [] (omega arith, omega arith) (All-nil (InOrderBy now))) } in
    let same : record x { touched = now; crossed = crossed_after p now x; outstanding = x.outstanding ++ g ∷ []; waiting = rest } ≡ after = cc in
    subst (λ (y : SendRecord). IsUpTo now y) same t
act_up_to p now x meet after h due e =
    let t : IsUpTo now (record x { touched = now }) = record { touched = omega arith; crossed = h.crossed; segments = h.segments } in
    let same : record x { touched = now } ≡ after = cc in
    subst (λ (y : SendRecord). IsUpTo now y) same t

-- a flow took all that its record did
pub taken_is_counted : (p : Params) (s : FlowState) (x : SendRecord) → s.sender ≡ Some x → Facts p s → taken_by x ≤ length s.taken
taken_is_counted p s x is f =
    let fx : SendSide p s.now s.sender_zero s.sender_until s.sender_life s.run s.taken (Some x) = rw is at f.send_side in
    let len = taken_length p s.now s.sender_zero s.sender_until s.sender_life s.run s.taken x fx in
    let next = chain_next x.left x.outstanding fx.record_facts.chain in
    elim (cases_lt 0 (next_of x)) [
      | inl some ↦ let q = fx.record_facts.sending some in omega (arith, q.2.base, len, next)
      | inr none ↦ omega (arith, len, next)
    ]

-- THE RECEIVER: what is unread fits, the expected number has 32 bits, and the window that was advertised is at most the queue
abbrev IsStanding : Params → Option ReceiveRecord → Type 0
IsStanding p standing = HasNumber standing × HasTold p standing

unread_count : (run : Bool) (items : List Item) → length (unread_items run items) ≡ length items
unread_count run [] = refl
unread_count run (i ∷ is) = ap (λ (n : ℕ). suc n) (unread_count false is)

number_small : (number count : ℕ) → number_after number count < 2 ^ 32
number_small number count = mod_below (number + count) (2 ^ 32) (omega arith)

told_small : (p : Params) (standing : Option ReceiveRecord) → HasTold p standing → told_in p standing ≤ p.rcap
told_small p None h = omega arith
told_small p (Some y) h = h

standing_kept : (p : Params) (unread : List Item) (standing : Option ReceiveRecord) → IsStanding p standing → IsStanding p (standing_told standing (free_of p unread))
standing_kept p unread None h = (tt, tt)
standing_kept p unread (Some y) h = (h.0, omega arith)

window_kept : (p : Params) (unread : List Item) (standing : Option ReceiveRecord) → IsStanding p standing → IsStanding p (window_told standing (free_of p unread))
window_kept p unread None h = (tt, tt)
window_kept p unread (Some y) h = (h.0, omega arith)

pub none_kept : (p : Params) → IsReceiverKept p (record { unread = []; standing = None })
none_kept p = record { room = omega arith; expected = tt; told = tt }

module _ (p : Params) (now : ℕ) (r : Receiver) (number : ℕ) (items : List Item) (h : IsReceiverKept p r) where
  accepted_kept : (run : Bool) → length items ≤ free_of p r.unread → IsReceiverKept p (receiver_accepted p now r.unread r.standing number items run)
  accepted_kept run fit = record {
    room = omega (arith, fit, h.room, length-append r.unread (unread_items run items), unread_count run items);
    expected = number_small number (length items);
    told = told_small p r.standing h.told;
  }

  -- what an action asks of the octets: those that accept them have room
  abbrev Fitting : Action → Type 0
  Fitting Drop = Unit {0}
  Fitting Make = length items ≤ free_of p r.unread
  Fitting TellNumber = Unit {0}
  Fitting TellExpected = Unit {0}
  Fitting Accept = length items ≤ free_of p r.unread
  Fitting Skip = length items ≤ free_of p r.unread
  Fitting Close = Unit {0}

  action_kept : (action : Action) → Fitting action → IsReceiverKept p (after_action p now r.unread r.standing number items action)
  action_kept Drop fit = record { room = h.room; expected = h.expected; told = h.told }
  action_kept Make fit = accepted_kept true fit
  action_kept TellNumber fit = let k = window_kept p r.unread r.standing (h.expected, h.told) in record { room = h.room; expected = k.0; told = k.1 }
  action_kept TellExpected fit = let k = standing_kept p r.unread r.standing (h.expected, h.told) in record { room = h.room; expected = k.0; told = k.1 }
  action_kept Accept fit = accepted_kept false fit
  action_kept Skip fit = accepted_kept true fit
  action_kept Close fit = record { room = h.room; expected = h.expected; told = h.told }

  without_fits : (drf fit : Bool) → nat_le (length items) (free_of p r.unread) ≡ fit → Fitting (action_without drf fit)
  without_fits false fit e = tt
  without_fits true true e = le_true _ _ e
  without_fits true false e = tt

  with_fits : (relation : Relation) (drf fit : Bool) → nat_le (length items) (free_of p r.unread) ≡ fit → Fitting (action_with relation drf fit)
  with_fits Below drf fit e = tt
  with_fits Equal drf true e = le_true _ _ e
  with_fits Equal drf false e = tt
  with_fits Above true true e = le_true _ _ e
  with_fits Above true false e = tt
  with_fits Above false fit e = tt

  action_fits : (drf : Bool) (expected : Option ℕ) → Fitting (action_of expected drf number (length items) (free_of p r.unread))
  action_fits drf None = without_fits drf (nat_le (length items) (free_of p r.unread)) refl
  action_fits drf (Some expected) = with_fits (relation_of number expected) drf (nat_le (length items) (free_of p r.unread)) refl

pub data_kept : (p : Params) (now : ℕ) (r : Receiver) (drf : Bool) (number : ℕ) (items : List Item) → IsReceiverKept p r → IsReceiverKept p (after_data p now r drf number items)
data_kept p now r drf number items h = action_kept p now r number items h (action_on p r drf number items) (action_fits p now r number items h drf (expected_of r.standing))

pub meet_kept : (p : Params) (r : Receiver) → IsReceiverKept p r → IsReceiverKept p (after_meet p r)
meet_kept p r h = let k = standing_kept p r.unread r.standing (h.expected, h.told) in record { room = h.room; expected = k.0; told = k.1 }

read_standing : (p : Params) (now before after : ℕ) (standing : Option ReceiveRecord) → IsStanding p standing → IsStanding p (record_read p now before after standing)
read_standing p now before after None h = h
read_standing p now before after (Some y) h = elim (cases_Bool (opens_window p before after y)) [ inl o ↦ rw o h | inr c ↦ rw c h ]

pub read_kept : (p : Params) (now count : ℕ) (r : Receiver) → IsReceiverKept p r → IsReceiverKept p (after_read p now count r)
read_kept p now count r h =
    let k = read_standing p now (free_of p r.unread) (free_of p (drop count r.unread)) r.standing (h.expected, h.told) in
    record { room = omega (arith, h.room, length-drop count r.unread); expected = k.0; told = k.1 }

pub recv_act_kept : (p : Params) (r : Receiver) (kind : RecvKind) → IsReceiverKept p r → IsReceiverKept p (after_recv_act p r kind)
recv_act_kept p r K.Release h = record { room = h.room; expected = tt; told = tt }
recv_act_kept p r K.Ack h = meet_kept p r h

-- MOMENTS OF THE RECEIVER
owed_by : (p : Params) (now : ℕ) (due : Option ℕ) (message_ends : Bool) → IsBy (now + p.a) (owed_after p now due message_ends)
owed_by p now (Some d) e = omega arith
owed_by p now None true = omega arith
owed_by p now None false = omega arith

pub recv_later : (p : Params) (now later : ℕ) (standing : Option ReceiveRecord) → now ≤ later → IsStandingUpTo p now standing → IsStandingUpTo p later standing
recv_later p now later None le h = tt
recv_later p now later (Some y) le h = record { touched = omega (arith, h.touched); due = by_later (now + p.a) (later + p.a) y.due (omega arith) h.due }

told_up_to : (p : Params) (now free : ℕ) (standing : Option ReceiveRecord) → IsStandingUpTo p now standing → IsStandingUpTo p now (standing_told standing free)
told_up_to p now free None h = tt
told_up_to p now free (Some y) h = record { touched = h.touched; due = tt }

window_up_to : (p : Params) (now free : ℕ) (standing : Option ReceiveRecord) → IsStandingUpTo p now standing → IsStandingUpTo p now (window_told standing free)
window_up_to p now free None h = tt
window_up_to p now free (Some y) h = record { touched = h.touched; due = h.due }

action_up_to : (p : Params) (now : ℕ) (unread : List Item) (standing : Option ReceiveRecord) (number : ℕ) (items : List Item) (action : Action) → IsStandingUpTo p now standing → IsStandingUpTo p now (after_action p now unread standing number items action).standing
action_up_to p now unread standing number items Drop h = h
action_up_to p now unread standing number items Make h = record { touched = omega arith; due = owed_by p now (due_in standing) (ends items) }
action_up_to p now unread standing number items TellNumber h = window_up_to p now (free_of p unread) standing h
action_up_to p now unread standing number items TellExpected h = told_up_to p now (free_of p unread) standing h
action_up_to p now unread standing number items Accept h = record { touched = omega arith; due = owed_by p now (due_in standing) (ends items) }
action_up_to p now unread standing number items Skip h = record { touched = omega arith; due = owed_by p now (due_in standing) (ends items) }
action_up_to p now unread standing number items Close h = h

pub data_up_to : (p : Params) (now : ℕ) (r : Receiver) (drf : Bool) (number : ℕ) (items : List Item) → IsStandingUpTo p now r.standing → IsStandingUpTo p now (after_data p now r drf number items).standing
data_up_to p now r drf number items h = action_up_to p now r.unread r.standing number items (action_on p r drf number items) h

pub meet_up_to : (p : Params) (now : ℕ) (r : Receiver) → IsStandingUpTo p now r.standing → IsStandingUpTo p now (after_meet p r).standing
meet_up_to p now r h = told_up_to p now (free_of p r.unread) r.standing h

read_up : (p : Params) (now before after : ℕ) (standing : Option ReceiveRecord) → IsStandingUpTo p now standing → IsStandingUpTo p now (record_read p now before after standing)
read_up p now before after None h = tt
read_up p now before after (Some y) h = elim (cases_Bool (opens_window p before after y)) [ inl o ↦ rw o (record { touched = h.touched; due = omega arith }) | inr c ↦ rw c h ]

pub read_up_to : (p : Params) (now count : ℕ) (r : Receiver) → IsStandingUpTo p now r.standing → IsStandingUpTo p now (after_read p now count r).standing
read_up_to p now count r h = read_up p now (free_of p r.unread) (free_of p (drop count r.unread)) r.standing h

pub recv_act_up_to : (p : Params) (now : ℕ) (r : Receiver) (kind : RecvKind) → IsStandingUpTo p now r.standing → IsStandingUpTo p now (after_recv_act p r kind).standing
recv_act_up_to p now r K.Release h = tt
recv_act_up_to p now r K.Ack h = meet_up_to p now r h
