-- What a request carries a handler takes: its call was made with so many octets at most.
use Rattle.std.proofs.Common.{ℕ, zero, suc, ◌≤◌, ◌<◌, ◌≡◌, Bool, true, false, if◌then◌else◌, List, [], ◌∷◌, ◌++◌, length, map, set, take, drop, Option, Some, None, Result, Ok, Err, refl, ap, sym, subst, arith}
use Rattle.std.specs.Prelude.{◌&&◌, OnOk, unwrap_or}
use Rattle.std.proofs.lemmas.List.{length-drop, length-map}
use Rattle.dt_units.specs.declared.endpoints.Flow.{Flow}
use Rattle.dt_flow_model.specs.declared.rows.Taken as row
use Rattle.dt_world_model.specs.Ledgers.{ledger_of}
use Rattle.dt_world_model.specs.Tables.{has_key, look, same_flow, write}
use Rattle.dt_world_model.specs.World.{World}
use Rattle.dt_world_model.specs.WorldStep.{Reads, Sends}
use Rattle.dt_calls_laws.proofs.Onward.{call_less}
use Rattle.dt_calls_laws.proofs.PieceRead.{is_there, piece_keeps}
use Rattle.dt_calls_laws.proofs.SideBySide.{carried_back}
use Rattle.dt_calls_laws.specs.Comes.{RequestComes}
use Rattle.dt_calls_model.specs.declared.calls.Call.{Call}
use Rattle.dt_calls_model.specs.declared.calls.CallState.{CallState}
use Rattle.dt_calls_model.specs.declared.calls.CallState.TheVariants as state
use Rattle.dt_calls_model.specs.declared.calls.Posted.{Posted}
use Rattle.dt_calls_model.specs.declared.calls.Posted.TheVariants.{Refused, Taken}
use Rattle.dt_calls_model.specs.CallFacts.{CourseFacts}
use Rattle.dt_calls_model.specs.Calls.{Begun, Calls, Client, Server, Side, begun_at, begun_of, call_at, call_in, flow_read, is_call, none_begun, with_begun}
use Rattle.dt_calls_model.specs.CallStep.{becomes_unsure, judged}
use Rattle.dt_calls_model.specs.Heard.{piece_in, tells_refusal}
use Rattle.dt_calls_model.specs.Messages.{Piece, begun_with, carried_in, has_number, number_in, whole_with}
use Rattle.dt_calls_model.specs.Promises.{octets_posted, payload_of}
use Rattle.dt_calls_model.specs.Reads.{Course, answered_if, happens, most_read, post, take_message, take_whole}
use Rattle.dt_call_parts.specs.Kept.{AreShort, IsShort}

-- A CALL CHANGES, and its request stays
pub short_set : (calls : List Call) (i : ℕ) (new : Call) → new.request ≡ (call_in calls i).request → AreShort calls → AreShort (set calls i new)
short_set [] i new same h = h
short_set (x ∷ xs) zero new same h = (subst IsShort (sym same) h.0, h.1)
short_set (x ∷ xs) (suc i) new same h = (h.0, short_set xs i new same h.1)

-- one is added
pub short_added : (calls : List Call) (call : Call) → IsShort call.request → AreShort calls → AreShort (calls ++ call ∷ [])
short_added [] call one h = (one, tt)
short_added (x ∷ xs) call one h = (h.0, short_added xs call one h.1)

short_at : (calls : List Call) (i : ℕ) → i < length calls → AreShort calls → IsShort (call_in calls i).request
short_at [] i less h = absurd (omega arith)
short_at (x ∷ xs) zero less h = h.0
short_at (x ∷ xs) (suc i) less h = short_at xs i (omega arith) h.1

-- and all are judged
unsure_short : (b : Bool) (call : Call) → IsShort call.request → IsShort (if b then record call { state = state.Unsure } else call).request
unsure_short true call h = h
unsure_short false call h = h

pub judged_short : (w : World) (calls : List Call) → AreShort calls → AreShort (map (judged w) calls)
judged_short w [] h = tt
judged_short w (x ∷ xs) h = (unsure_short (becomes_unsure w x) x h.0, judged_short w xs h.1)

-- A MESSAGE IS TAKEN: at most one call changes
module _ (answer : List ℕ → List ℕ) where
  abbrev Short : Course → Type 0
  Short c = AreShort c.calls.calls

  answer_short : (s : CallState) (n : ℕ) (octets : List ℕ) (c : Course) → Short c → Short (answered_if s n octets c)
  answer_short state.Waiting n octets c h = short_set c.calls.calls n (record (call_at c.calls n) { state = state.Answered }) refl h
  answer_short state.Answered n octets c h = h
  answer_short state.Unsure n octets c h = h
  answer_short state.Declined n octets c h = h

  message_short : (side : Side) (f : Flow) (message : List ℕ) (c : Course) → Short c → Short (take_message answer side f message c)
  message_short Server f message c h = short_set c.calls.calls (number_in message) _ refl h
  message_short Client f message c h = let n = number_in message in answer_short (call_at c.calls n).state n (carried_in message) c h

  if_short : (b : Bool) (x y : Course) → Short x → Short y → Short (if b then x else y)
  if_short b x y done not = elim b as (λ v. Short (if v then x else y)) [ true ↦ done | false ↦ not ]

  pub whole_short : (side : Side) (f : Flow) (whole : Option (List ℕ)) (c : Course) → Short c → Short (take_whole answer side f whole c)
  whole_short side f None c h = h
  whole_short side f (Some message) c h = if_short (has_number message && is_call c.calls f (number_in message)) (take_message answer side f message c) c (message_short side f message c h) h

-- A REQUEST IS HANDED IN
posted_if : (b : Bool) (place count : ℕ) → count ≤ 65536 → IsShort (if b then Refused else Taken place count)
posted_if true place count few = tt
posted_if false place count few = few

pub posted_short : (f : Flow) (octets : List ℕ) (w : World) (posted : Posted) (after : World) → post f octets w ≡ (posted, after) → length octets ≤ 65536 → IsShort posted
posted_short f octets w posted after is few =
    subst IsShort (ap (λ (r : Posted × World). r.0) is) (posted_if (tells_refusal (happens (Sends f octets true true) w).0) (length (ledger_of w.ledgers f).taken) (length octets) few)

pub on_ok_both : {U E : Type 0} (P Q R : Type 0) (r : Result U E) → (P → Q → R) → OnOk r P → OnOk r Q → OnOk r R
on_ok_both P Q R (Ok done) h p q = h p q
on_ok_both P Q R (Err e) h p q = tt

-- WHAT A SERVER READS is the request of a call
take_few : {A : Type 0} (n : ℕ) (xs : List A) → length (take n xs) ≤ n
take_few zero xs = omega arith
take_few (suc n) [] = omega arith
take_few (suc n) (x ∷ xs) = omega (arith, take_few n xs)

payload_short : (w : World) (call : Call) (r : Posted) → IsShort r → length (carried_in (octets_posted w call r)) ≤ 65528
payload_short w call (Taken place count) few =
    let taken = drop place (ledger_of w.ledgers call.flow).taken in
    let octet : row.Taken → ℕ = λ r. r.octet in
    let rest = length-drop 8 (map octet (take count taken)) in
    let all = length-map (take count taken) octet in
    omega (arith, rest, all, take_few count taken, few)
payload_short w call Refused few = let none : List ℕ = [] in omega (arith, length-drop 8 none)

module _ (answer : List ℕ → List ℕ) (c : Calls) (f : Flow) (piece : Piece) (message : List ℕ) (facts : CourseFacts answer c) (short : AreShort c.calls) (key : has_key same_flow f c.flows ≡ true) where
  abbrev next : Begun → Calls
  next b = record { world = (happens (Reads (flow_read Server f) most_read) c.world).1; calls = c.calls; flows = write same_flow f (with_begun Server (begun_with (begun_at Server b) piece) b) c.flows }

  request_is_short : (b : Begun) → RequestComes (next b) f message → length (carried_in message) ≤ 65528
  request_is_short b come =
      let n = come.call in
      let call = call_at c n in
      let one = short_at c.calls n (call_less (next b) f n come.is_call) short in
      let payload = payload_of (next b).world call in
      subst (λ (os : List ℕ). length (carried_in os) ≤ 65528) (sym come.is)
      (subst (λ (os : List ℕ). length os ≤ 65528) (sym (carried_back n payload)) (payload_short (next b).world call call.request one))

  pub request_short : (side : Side) → piece_in (happens (Reads (flow_read side f) most_read) c.world).0 ≡ Some piece → whole_with (begun_at side (begun_of c f)) piece ≡ Some message → side ≡ Server → length (carried_in message) ≤ 65528
  request_short Server told whole is =
      let found = is_there (look same_flow f c.flows) key in
      let b = found.0 in
      let begun : begun_of c f ≡ b = ap (λ (o : Option Begun). unwrap_or o none_begun) found.1 in
      let whole' : whole_with (begun_at Server b) piece ≡ Some message = subst (λ (x : Begun). whole_with (begun_at Server x) piece ≡ Some message) begun whole in
      request_is_short b ((piece_keeps answer Server c f b piece facts found.1 told).comes message whole')
  request_short Client told whole is = absurd cc
