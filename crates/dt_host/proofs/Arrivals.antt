-- A packet that comes to a host that isn't silent.
use Rattle.std.proofs.Common.{ℕ, ◌≡◌, ◌==◌, ◌≤◌, Bool, true, false, List, Option, Some, None, Result, Ok, Err, refl, sym, ap, subst, arith}
use Rattle.std.proofs.lemmas.Bool.Decides.{nat_tests}
use Rattle.std.specs.Prelude.{IfErr, IfSome, IsErr, nat_lt, unwrap_or}
use Rattle.dt_units.specs.declared.parameters.Params.{Params}
use Rattle.dt_units.specs.declared.endpoints.Flow.{Flow}
use Rattle.dt_layout.specs.Carried.{IsGram}
use Rattle.dt_layout.specs.Spelling.{PacketValue}
use Rattle.dt_flow_model.specs.declared.arrivals.Arrived.{Arrived}
use Rattle.dt_flow_model.specs.Frames.{flow_of, reply_frame}
use Rattle.dt_flow_model.specs.SendRecord.{SendRecord}
use Rattle.dt_flow_model.specs.ReceiveRecord.{Receiver, answer_to, answer_to_close, close_action, close_if, expected_of}
use Rattle.dt_world_model.specs.Host.{Host, ack_answer, arrive, comes}

pub awake : (now until : ℕ) → until ≤ now → nat_lt now until ≡ false
awake now until h = grind (arith, nat_tests)

-- it is of its flow
pub heard : (p : Params) (now from : ℕ) (host : Host) (f : Flow) (v here : PacketValue) → nat_lt now host.until ≡ false → f ≡ flow_of from host.me v → v ≡ here → arrive p now from v host ≡ comes p now f here host
heard p now from host f v here awake flow is = rw awake (rw (flow, is) refl)

-- nothing that an acknowledgement or a closing packet is answered with is a reply
pub ack_has_no_reply : (p : Params) (host : Host) (f g : Flow) (o : Option (SendRecord × ℕ)) → reply_frame p g (ack_answer host f o).0 ≡ None
ack_has_no_reply p host f g None = refl
ack_has_no_reply p host f g (Some (x, count)) = refl

pub if_err_is : {A E : Type 0} (r : Result A E) (P : Type 0) → IfErr r (λ _. P) → IsErr r → P
if_err_is (Ok a) P h is = absurd cc
if_err_is (Err e) P h is = h

pub close_has_no_reply : (p : Params) (f : Flow) (r : Receiver) (number : ℕ) → reply_frame p f (answer_to_close r number) ≡ None
close_has_no_reply p f r number = by (expected_of r.standing)
  where
    at : (b : Bool) → reply_frame p f (answer_to r.standing number 0 0 (close_if b)) ≡ None
    at true = refl
    at false = refl

    by : (expected : Option ℕ) → reply_frame p f (answer_to r.standing number 0 0 (close_action expected number)) ≡ None
    by None = refl
    by (Some k) = at (number == k)

-- an answer that isn't a reply leaves the frame as it was
pub record LeavesFrame (p : Params) (f : Flow) (answer : Arrived) (old : List ℕ) : Type 0 where
  pub reply : old ≡ unwrap_or (reply_frame p f answer) old
  pub gram : IfSome (reply_frame p f answer) (λ octets. IsGram octets)

pub leaves_frame : (p : Params) (f : Flow) (answer : Arrived) (old : List ℕ) → reply_frame p f answer ≡ None → LeavesFrame p f answer old
leaves_frame p f answer old none = record {
  reply = sym (ap (λ (o : Option (List ℕ)). unwrap_or o old) none);
  gram = subst (λ (o : Option (List ℕ)). IfSome o (λ octets. IsGram octets)) (sym none) tt;
}
