-- What an arriving packet does is a small step, or nothing; and so is what the receiver does by itself, what is read and what is taken.
use Rattle.std.proofs.Common.{ℕ, ◌+◌, ◌<◌, ◌≤◌, ◌≡◌, ◌==◌, Bool, true, false, List, [], ◌∷◌, ◌++◌, length, take, drop, Option, Some, None, refl, ap, sym, ◌∙◌, subst, inl, inr, arith}
use Rattle.std.specs.Prelude.{nat_lt, nat_le, if◌then◌else◌}
use Rattle.std.proofs.lemmas.List.{take-append-drop, length-take-le}
use Rattle.std.proofs.lemmas.Bool.{cases_Bool}
use Rattle.std.proofs.lemmas.Bool.Decides.{nat_tests}
use Rattle.dt_flow_model.specs.Acting.{ack_of_record, acked_flow, after_ack, after_data_packet, after_meet_packet, after_reading, after_receiver_act, after_taking, given_by, made_by_data, made_by_meet, made_by_receiver, record_for, reply_of}
use Rattle.dt_flow_model.specs.Facts.{Facts, Fits}
use Rattle.dt_flow_model.specs.SendActs.{IsIdle}
use Rattle.dt_units.specs.Limits.{IsWithinLimits}
use Rattle.dt_flow_model.specs.Flow.{Ack, Data, FlowState, Meet, Packet, receiver_reading, sender_reading}
use Rattle.dt_flow_model.specs.Ledger.{note_read, take_rows, top}
use Rattle.dt_flow_model.specs.Numbering.{number_of, order_of}
use Rattle.dt_units.specs.Numbers.{relation_of}
use Rattle.dt_flow_model.specs.ReceiveRecord.{IsCurrent, IsLive, ReceiveRecord, Receiver, action_of, action_with, action_without, after_action, answer_to, expected_of, free_of, expected_told, opens_window, owing, record_read, recv_due_of, standing_told}
use Rattle.dt_flow_model.specs.SendRecord.{Segment, SendRecord, acknowledged, after_split, before_all, end_of, fits, held_of, new_record, next_from, put}
use Rattle.dt_flow_model.specs.Steps.{IsAlive, IsSameRecord, IsStepOrNothing, Step, Steps}
use Rattle.dt_flow_model.specs.declared.acts.RecvKind.{RecvKind}
use Rattle.dt_flow_model.specs.declared.arrivals.Action.{Action}
use Rattle.dt_flow_model.specs.declared.arrivals.Arrived.{Arrived}
use Rattle.dt_items.specs.declared.item.Item.{Item}
use Rattle.dt_units.specs.Times.{receive_time}
use Rattle.dt_units.specs.declared.order.Relation.{Relation}
use Rattle.dt_units.specs.declared.order.Relation.TheVariants.{Above, Below, Equal}
use Rattle.dt_units.specs.declared.parameters.Params.{Params}
use Rattle.dt_flow_model.specs.Steps as F
use Rattle.dt_flow_model.specs.declared.acts.RecvKind.TheVariants as K
use Rattle.dt_flow_laws.proofs.Modular.{is_above, is_equal}
use Rattle.dt_flow_laws.proofs.Ordering.{above_differs, ack_end, data_order}
use Rattle.dt_flow_model.proofs.Chosen.{le_true}

at_least : (n m : ℕ) → nat_lt n m ≡ false → m ≤ n
at_least n m h = grind (arith, nat_tests)

below : (n m : ℕ) → nat_le n m ≡ false → m < n
below n m h = grind (arith, nat_tests)

self_same : (n : ℕ) → (n == n) ≡ true
self_same n = grind (arith, nat_tests)

same_record : (y : Option ReceiveRecord) → IsSameRecord y y
same_record None = tt
same_record (Some y) = (refl, refl)

-- A DATA PACKET

module _ (p : Params) (s : FlowState) (q : Packet) (drf : Bool) (items : List Item) (kind : q.kind ≡ Data drf items) (some : 0 < length items) (alive : IsAlive p s q) (awake : s.receiver_until ≤ receiver_reading s) (f : Facts p s) (h : Fits p s q) where
  abbrev the_receiver : Option ReceiveRecord → Action → Receiver
  the_receiver standing action = after_action p (receiver_reading s) s.unread standing q.number items action

  abbrev the_answer : Option ReceiveRecord → Action → Arrived
  the_answer standing action = answer_to standing q.number (length items) (free_of p s.unread) action

  abbrev the_flow : Option ReceiveRecord → Action → FlowState
  the_flow standing action = record s { receiver = (the_receiver standing action).standing; unread = (the_receiver standing action).unread; given = given_by s q items (the_answer standing action) }

  abbrev the_made : Option ReceiveRecord → Action → List Packet
  the_made standing action = reply_of standing s q (the_answer standing action)

  without : (flag fits : Bool) → flag ≡ drf → s.receiver ≡ None → IsStepOrNothing p s q (the_made None (action_without flag fits)) (the_flow None (action_without flag fits))
  without false fits same none = inr (inr (rw none refl, refl))
  without true true same none = inl (F.accepts_first s q items _ p.rcap none awake (kind ∙ ap (λ (b : Bool). Data b items) (sym same)) some alive)
  without true false same none = inl (F.tells_number s q None (free_of p s.unread) (rw (kind, ← same) refl) alive (rw none tt))

  ordered : (y : ReceiveRecord) → s.receiver ≡ Some y → IsLive p (receiver_reading s) y → relation_of q.number y.expected ≡ order_of q.place (top s.given)
  ordered y is live = data_order p s q drf items y kind alive f h is live

  with_it : (y : ReceiveRecord) (relation : Relation) (flag fits : Bool) → flag ≡ drf → s.receiver ≡ Some y → IsLive p (receiver_reading s) y → relation_of q.number y.expected ≡ relation
      → IsStepOrNothing p s q (the_made (Some y) (action_with relation flag fits)) (the_flow (Some y) (action_with relation flag fits))
  with_it y Below flag fits same is live e = inr (inl (rw (self_same y.expected) (F.tells_expected s y None (free_of p s.unread) (free_of p s.unread) is live)))
  with_it y Equal flag true same is live e = inl (F.accepts s y q drf false items _ is live kind some alive (inl (is_equal q.place (top s.given) (sym (ordered y is live) ∙ e), refl)))
  with_it y Equal flag false same is live e = inr (inl (rw (self_same y.expected) (F.tells_expected s y None (free_of p s.unread) (free_of p s.unread) is live)))
  with_it y Above true true same is live e = inl (F.accepts s y q drf true items _ is live kind some alive (inr (sym same, is_above q.place (top s.given) (sym (ordered y is live) ∙ e), refl)))
  with_it y Above true false same is live e =
      let no : (q.number == y.expected) ≡ false = above_differs p s q drf items y kind alive f h is live (is_above q.place (top s.given) (sym (ordered y is live) ∙ e)) in
      inl (rw no (F.tells_number s q (Some (record y { told = free_of p s.unread })) (free_of p s.unread) (rw (kind, ← same) refl) alive (rw is (refl, refl))))
  with_it y Above false fits same is live e = inr (inl (rw (self_same y.expected) (F.tells_expected s y None (free_of p s.unread) (free_of p s.unread) is live)))

  data_goes : (standing : Option ReceiveRecord) → s.receiver ≡ standing → IsCurrent p (receiver_reading s) standing
      → IsStepOrNothing p s q (the_made standing (action_of (expected_of standing) drf q.number (length items) (free_of p s.unread))) (the_flow standing (action_of (expected_of standing) drf q.number (length items) (free_of p s.unread)))
  data_goes None is current = without drf (nat_le (length items) (free_of p s.unread)) refl is
  data_goes (Some y) is current = with_it y (relation_of q.number y.expected) drf (nat_le (length items) (free_of p s.unread)) refl is current refl

pub data_arrives : (p : Params) (s : FlowState) (q : Packet) (drf : Bool) (items : List Item) → q.kind ≡ Data drf items → 0 < length items → IsAlive p s q → IsCurrent p (receiver_reading s) s.receiver → Facts p s → Fits p s q
    → IsStepOrNothing p s q (made_by_data p s q drf items) (after_data_packet p s q drf items)
data_arrives p s q drf items kind some alive current f h =
    elim (cases_Bool (nat_lt (receiver_reading s) s.receiver_until)) [
      | inl silent ↦ rw silent (inr (inr (refl, refl)))
      | inr awake ↦ rw awake (data_goes p s q drf items kind some alive (at_least (receiver_reading s) s.receiver_until awake) f h s.receiver refl current)
    ]

-- A RENDEZVOUS PACKET

meet_goes : (p : Params) (s : FlowState) (q : Packet) (standing : Option ReceiveRecord) → q.kind ≡ Meet → IsAlive p s q → s.receiver ≡ standing → IsCurrent p (receiver_reading s) standing
    → IsStepOrNothing p s q (reply_of standing s q (expected_told standing q.number (free_of p s.unread))) (record s { receiver = standing_told standing (free_of p s.unread) })
meet_goes p s q None kind alive is current = inl (F.tells_number s q None (free_of p s.unread) (rw kind refl) alive (rw is tt))
meet_goes p s q (Some y) kind alive is current = inr (inl (rw (self_same y.expected) (F.tells_expected s y None (free_of p s.unread) (free_of p s.unread) is current)))

pub meet_arrives : (p : Params) (s : FlowState) (q : Packet) → q.kind ≡ Meet → IsAlive p s q → IsCurrent p (receiver_reading s) s.receiver → IsStepOrNothing p s q (made_by_meet p s q) (after_meet_packet p s q)
meet_arrives p s q kind alive current =
    elim (cases_Bool (nat_lt (receiver_reading s) s.receiver_until)) [
      | inl silent ↦ rw silent (inr (inr (refl, refl)))
      | inr awake ↦ rw awake (meet_goes p s q s.receiver kind alive refl current)
    ]

-- AN ACKNOWLEDGEMENT

number_is : (n m : ℕ) → (n == m) ≡ true → n ≡ m
number_is n m h = grind (arith, nat_tests)

-- what a split is: the segments are its two parts, and the number is that of the end of the first
abbrev IsSplit : Params → ℕ → ℕ → List Segment → List Segment × List Segment → Type 0
IsSplit p k left gs w = (gs ≡ w.0 ++ w.1) × (k ≡ number_of p (next_from left w.0))

split_later : (p : Params) (k left : ℕ) (g : Segment) (gs : List Segment) (o : Option (List Segment × List Segment)) → ((w : List Segment × List Segment) → o ≡ Some w → IsSplit p k (end_of g) gs w)
    → (w : List Segment × List Segment) → before_all g o ≡ Some w → IsSplit p k left (g ∷ gs) w
split_later p k left g gs None h w e = absurd cc
split_later p k left g gs (Some v) h w e =
    let same : (g ∷ v.0, v.1) ≡ w = cc in
    let i = h v refl in
    subst (λ u. IsSplit p k left (g ∷ gs) u) same (ap (λ (xs : List Segment). g ∷ xs) i.0, i.1)

-- the number is that of left: nothing is split off
split_here : (p : Params) (k left : ℕ) (gs : List Segment) (w : List Segment × List Segment) → (number_of p left == k) ≡ true → Some ([], gs) ≡ Some w → IsSplit p k left gs w
split_here p k left gs w y e =
    let same : ([], gs) ≡ w = cc in
    subst (λ u. IsSplit p k left gs u) same (refl, sym (number_is (number_of p left) k y))

pub split_is : (p : Params) (k left : ℕ) (gs : List Segment) (w : List Segment × List Segment) → acknowledged p k left gs ≡ Some w → IsSplit p k left gs w
split_is p k left [] w e =
    elim (cases_Bool (number_of p left == k)) [
      | inl y ↦ split_here p k left [] w y (rw y at e)
      | inr n ↦ absurd (let f : None ≡ Some w = rw n at e in cc)
    ]
split_is p k left (g ∷ gs) w e =
    elim (cases_Bool (number_of p left == k)) [
      | inl y ↦ split_here p k left (g ∷ gs) w y (rw y at e)
      | inr n ↦ split_later p k left g gs (acknowledged p k (end_of g) gs) (split_is p k (end_of g) gs) w (rw n at e)
    ]

-- where nothing is split off, the number is that of no end
abbrev the_pair : List Segment → List Segment → List Segment × List Segment
the_pair gone rest = (gone, rest)

none_later : (g : Segment) (o : Option (List Segment × List Segment)) → before_all g o ≡ None → o ≡ None
none_later g None e = refl
none_later g (Some w) e = absurd cc

not_here : (p : Params) (k left : ℕ) (gs : List Segment) (o : Option (List Segment × List Segment)) → (if number_of p left == k then Some ([], gs) else o) ≡ None → k ≡ number_of p left → ⊥
not_here p k left gs o none same = let y : (number_of p left == k) ≡ true = grind (arith, nat_tests) in let f : Some (the_pair [] gs) ≡ None = rw y at none in cc

pub no_end : (p : Params) (k left : ℕ) (gs gone rest : List Segment) → acknowledged p k left gs ≡ None → gs ≡ gone ++ rest → k ≡ number_of p (next_from left gone) → ⊥
no_end p k left [] [] rest none split same = not_here p k left [] None none same
no_end p k left [] (h ∷ gone) rest none split same = cc
no_end p k left (g ∷ gs) [] rest none split same = not_here p k left (g ∷ gs) (before_all g (acknowledged p k (end_of g) gs)) none same
no_end p k left (g ∷ gs) (h ∷ gone) rest none split same =
    elim (cases_Bool (number_of p left == k)) [
      | inl y ↦ let f : Some (the_pair [] (g ∷ gs)) ≡ None = rw y at none in cc
      | inr n ↦
          let same_g : g ≡ h = cc in
          let split' : gs ≡ gone ++ rest = cc in
          no_end p k (end_of g) gs gone rest (none_later g (acknowledged p k (end_of g) gs) (rw n at none)) split' (subst (λ (u : Segment). k ≡ number_of p (next_from (end_of u) gone)) (sym same_g) same)
    ]

ack_split : (p : Params) (s : FlowState) (x : SendRecord) (q : Packet) (window : ℕ) (o : Option (List Segment × List Segment)) → IsWithinLimits p → s.sender ≡ Some x → IsIdle p (sender_reading s) (Some x) → q.kind ≡ Ack window → IsAlive p s q → Facts p s → Fits p s q → acknowledged p q.number x.left x.outstanding ≡ o
    → IsStepOrNothing p s q [] (acked_flow s (after_split x window o))
ack_split p s x q window None limits is idle kind alive f h e = inr (inr (refl, refl))
ack_split p s x q window (Some w) limits is idle kind alive f h e =
    let k = split_is p q.number x.left x.outstanding w e in
    inl (F.is_acked s x q window w.0 w.1 (next_from x.left w.0 + window) is kind alive k.0 (ack_end p limits s x q window w.0 w.1 is idle kind alive f h k.0 k.1))

ack_goes : (p : Params) (s : FlowState) (sender : Option SendRecord) (q : Packet) (window : ℕ) → IsWithinLimits p → s.sender ≡ sender → IsIdle p (sender_reading s) sender → q.kind ≡ Ack window → IsAlive p s q → Facts p s → Fits p s q → IsStepOrNothing p s q [] (ack_of_record p s sender q.number window)
ack_goes p s None q window limits is idle kind alive f h = inr (inr (refl, refl))
ack_goes p s (Some x) q window limits is idle kind alive f h = ack_split p s x q window (acknowledged p q.number x.left x.outstanding) limits is idle kind alive f h refl

pub ack_arrives : (p : Params) (s : FlowState) (q : Packet) (window : ℕ) → IsWithinLimits p → q.kind ≡ Ack window → IsAlive p s q → IsIdle p (sender_reading s) s.sender → Facts p s → Fits p s q → IsStepOrNothing p s q [] (after_ack p s q window)
ack_arrives p s q window limits kind alive idle f h =
    elim (cases_Bool (nat_lt (sender_reading s) s.sender_until)) [
      | inl silent ↦ rw silent (inr (inr (refl, refl)))
      | inr awake ↦ rw awake (ack_goes p s s.sender q window limits refl idle kind alive f h)
    ]

-- THE RECEIVER'S ACTS

owing_is : (now : ℕ) (due : Option ℕ) (a : RecvKind × ℕ) → owing now due ≡ Some a → a.0 ≡ K.Ack
owing_is now None a e = absurd cc
owing_is now (Some d) a e =
    elim (cases_Bool (nat_le d now)) [
      | inl y ↦ let f : Some (K.Ack, d) ≡ Some a = rw y at e in let same : (K.Ack, d) ≡ a = cc in subst (λ b. b.0 ≡ K.Ack) same refl
      | inr n ↦ absurd (let f : None ≡ Some a = rw n at e in cc)
    ]

-- which kind is due, and whether the record is live then
abbrev MayAct : Params → ℕ → ReceiveRecord → RecvKind → Type 0
MayAct p now y K.Release = y.touched + receive_time p ≤ now
MayAct p now y K.Ack = IsLive p now y

may_act : (p : Params) (now : ℕ) (y : ReceiveRecord) (a : RecvKind × ℕ) → recv_due_of p now (Some y) ≡ Some a → MayAct p now y a.0
may_act p now y a e =
    elim (cases_Bool (nat_le (y.touched + receive_time p) now)) [
      | inl late ↦
          let f : Some (K.Release, y.touched + receive_time p) ≡ Some a = rw late at e in
          let same : (K.Release, y.touched + receive_time p) ≡ a = cc in
          subst (λ b. MayAct p now y b.0) same (le_true _ _ late)
      | inr live ↦
          let f = owing_is now y.due a (rw live at e) in
          let lt : IsLive p now y = below (y.touched + receive_time p) now live in
          subst (λ k. MayAct p now y k) (sym f) lt
    ]

act_step_of : (p : Params) (s : FlowState) (y : ReceiveRecord) (kind : RecvKind) → s.receiver ≡ Some y → MayAct p (receiver_reading s) y kind → Step p s [] (made_by_receiver p s y kind) (after_receiver_act p s kind)
act_step_of p s y K.Release is h = F.receiver_releases s y is h
act_step_of p s y K.Ack is h =
    subst (λ (r : Option ReceiveRecord). Step p s [] (made_by_receiver p s y K.Ack) (record s { receiver = standing_told r (free_of p s.unread) })) (sym is)
    (rw (self_same y.expected) (F.tells_expected s y None (free_of p s.unread) (free_of p s.unread) is h))

pub recv_act_step : (p : Params) (s : FlowState) (y : ReceiveRecord) (kind : RecvKind) (moment : ℕ) → s.receiver ≡ Some y → recv_due_of p (receiver_reading s) s.receiver ≡ Some (kind, moment)
    → Step p s [] (made_by_receiver p s y kind) (after_receiver_act p s kind)
recv_act_step p s y kind moment is h = act_step_of p s y kind is (may_act p (receiver_reading s) y (kind, moment) (rw is at h))

-- A READ

read_same : (p : Params) (now before after : ℕ) (y : Option ReceiveRecord) → IsSameRecord y (record_read p now before after y)
read_same p now before after None = tt
read_same p now before after (Some y) = elim (cases_Bool (opens_window p before after y)) [ inl o ↦ rw o (refl, refl) | inr c ↦ rw c (refl, refl) ]

pub read_step : (p : Params) (s : FlowState) (count : ℕ) → count ≤ length s.unread → Step p s [] [] (after_reading p s count)
read_step p s count le =
    let n : length (take count s.unread) ≡ count = length-take-le count s.unread le in
    let y = record_read p (receiver_reading s) (free_of p s.unread) (free_of p (drop count s.unread)) s.receiver in
    let step : Step p s [] [] (record s { receiver = y; unread = drop count s.unread; reads = note_read s.receiver_life (length (take count s.unread)) s.reads }) =
    F.reads s y (take count s.unread) (drop count s.unread) (sym (take-append-drop count s.unread)) (read_same p (receiver_reading s) (free_of p s.unread) (free_of p (drop count s.unread)) s.receiver) in
    rw n at step

-- WHAT IS TAKEN

one : (p : Params) (s after : FlowState) → Step p s [] [] after → Steps p s [] [] after
one p s after h = F.more h F.none

take_goes : (p : Params) (s : FlowState) (items : List Item) (sender : Option SendRecord) → s.sender ≡ sender → 0 < p.window → s.sender_until ≤ sender_reading s → held_of (record_for p (sender_reading s) sender) + length items ≤ p.cap
    → Steps p s [] [] (record s { sender = Some (put items (record_for p (sender_reading s) sender)); taken = take_rows s.sender_life items s.taken })
take_goes p s items None is pos awake room = F.more (F.makes s p.window is awake pos) (one p _ _ (F.takes (record s { sender = Some (new_record p (sender_reading s) []) }) (new_record p (sender_reading s) []) items refl room))
take_goes p s items (Some x) is pos awake room = one p s _ (F.takes s x items is room)

pub take_steps : (p : Params) (s : FlowState) (items : List Item) → 0 < p.window → s.sender_until ≤ sender_reading s → held_of (record_for p (sender_reading s) s.sender) + length items ≤ p.cap → Steps p s [] [] (after_taking p s items)
take_steps p s items pos awake room = take_goes p s items s.sender refl pos awake room
