-- A closing packet changes nothing, and is reported exactly where a record stands that expects its number.
use Rattle.std.proofs.Common.{ℕ, ◌≡◌, ◌≢◌, Bool, true, false, [], Option, Some, None, refl, ap, ◌∙◌, inl, inr, arith}
use Rattle.std.specs.Prelude.{◌==◌, nat_lt}
use Rattle.std.proofs.lemmas.Bool.{cases_Bool}
use Rattle.std.proofs.lemmas.Bool.Decides.{nat_tests}
use Rattle.dt_units.specs.declared.parameters.Params.{Params}
use Rattle.dt_flow_model.specs.Acting.{after_close_packet, with_receiver}
use Rattle.dt_flow_model.specs.Flow.{FlowState, receiver_of, receiver_reading}
use Rattle.dt_flow_model.specs.ReceiveRecord.{ReceiveRecord, Receiver, after_action, after_close, answer_to, answer_to_close, close_action, close_if, expected_of}
use Rattle.dt_flow_model.specs.declared.arrivals.Arrived.TheVariants.{Closing, Dropped}

close_same : (p : Params) (now : ℕ) (r : Receiver) (number : ℕ) (b : Bool) → after_action p now r.unread r.standing number [] (close_if b) ≡ r
close_same p now r number true = refl
close_same p now r number false = refl

pub close_changes_nothing : (p : Params) (now : ℕ) (r : Receiver) (number : ℕ) → after_close p now r number ≡ r
close_changes_nothing p now r number = go r.standing refl
  where
    go : (standing : Option ReceiveRecord) → r.standing ≡ standing → after_action p now r.unread r.standing number [] (close_action (expected_of standing) number) ≡ r
    go None is = refl
    go (Some y) is = close_same p now r number (number == y.expected)

pub close_flow : (p : Params) (s : FlowState) (number : ℕ) → after_close_packet p s number ≡ s
close_flow p s number =
    elim (cases_Bool (nat_lt (receiver_reading s) s.receiver_until)) [
      | inl silent ↦ rw silent refl
      | inr awake ↦ rw awake (ap (λ (r : Receiver). with_receiver s r) (close_changes_nothing p (receiver_reading s) (receiver_of s) number))
    ]

pub close_told : (r : Receiver) (y : ReceiveRecord) (number : ℕ) → r.standing ≡ Some y → number ≡ y.expected → answer_to_close r number ≡ Closing number
close_told r y number is same =
    let e : (number == y.expected) ≡ true = grind (arith, nat_tests) in
    ap (λ (o : Option ReceiveRecord). answer_to r.standing number 0 0 (close_action (expected_of o) number)) is ∙ rw e refl

pub close_dropped : (r : Receiver) (y : ReceiveRecord) (number : ℕ) → r.standing ≡ Some y → number ≢ y.expected → answer_to_close r number ≡ Dropped
close_dropped r y number is other =
    let e : (number == y.expected) ≡ false = grind (arith, nat_tests) in
    ap (λ (o : Option ReceiveRecord). answer_to r.standing number 0 0 (close_action (expected_of o) number)) is ∙ rw e refl

pub close_nowhere : (r : Receiver) (number : ℕ) → r.standing ≡ None → answer_to_close r number ≡ Dropped
close_nowhere r number is = ap (λ (o : Option ReceiveRecord). answer_to r.standing number 0 0 (close_action (expected_of o) number)) is
