-- A turn keeps the account of each number: what is read, too, ends a call only where it tells so.
use Rattle.std.proofs.Common.{ℕ, zero, suc, ◌+◌, ◌≡◌, ◌<◌, Bool, true, false, List, [], ◌∷◌, ◌++◌, length, get_or, refl, ap, ◌∙◌, arith}
use Rattle.std.specs.Prelude.{◌&&◌, ◌==◌, cond, fold, Option, Some, None}
use Rattle.std.specs.List.{position}
use Rattle.std.proofs.lemmas.Bool.{eqb-true}
use Rattle.std.proofs.lemmas.List.Quantifiers.{position-Some}
use Rattle.dt_units.specs.declared.endpoints.Flow.{Flow}
use Rattle.dt_reports.specs.Told.{Told}
use Rattle.dt_world_model.specs.Host.{one_if}
use Rattle.dt_world_model.specs.Station.{Event, Read}
use Rattle.dt_world_model.specs.Tables.{same_flow}
use Rattle.dt_calls_model.specs.Messages.{Piece, carried_in, has_number, number_in, reversed}
use Rattle.dt_messages.specs.Joining.{whole_within}
use Rattle.dt_endpoint.specs.Endpoints.{after_event}
use Rattle.dt_service_model.specs.declared.calls.OpenCall.{OpenCall}
use Rattle.dt_service_model.specs.declared.happenings.Happening.TheVariants.{Answered, Request}
use Rattle.dt_service_model.specs.declared.names.CallNumber.{CallNumber}
use Rattle.dt_service_model.specs.declared.names.Token.{Token}
use Rattle.dt_service_model.specs.declared.ports.PortKind.{PortKind}
use Rattle.dt_service_model.specs.declared.ports.PortKind.TheVariants.{Caller, Service}
use Rattle.dt_service_model.specs.Names.{from_u64, same_number, token_with}
use Rattle.dt_service_model.specs.CallBook.{CallBook, counted_up, kind_in, longest_message}
use Rattle.dt_service_model.specs.Hearing.{hear, heard}
use Rattle.dt_service_model.specs.Whole.{answered_at, begun_of, grown, is_open, is_waiting_call, take_as, take_piece, take_reply_at, take_whole, without_token}
use Rattle.dt_service_model.specs.Accounts.{account, waits_in, waits_with}
use Rattle.dt_service_model.specs.Turns.{Node, happens, most_read, turn, turn_end}
use Rattle.dt_service_model.proofs.Accounts.{ends_append, hear_keeps, judge_keeps}
use Rattle.dt_service_model.proofs.Walking.{IsKept, end_kept}

left_of : (a b : Bool) → (a && b) ≡ true → a ≡ true
left_of true b h = refl
left_of false b h = h

right_of : (a b : Bool) → (a && b) ≡ true → b ≡ true
right_of true b h = h
right_of false b h = absurd cc

same_as : (a m n : CallNumber) → same_number a m ≡ true → same_number a n ≡ same_number m n
same_as a m n h =
    let l = left_of (a.life == m.life) (a.count == m.count) h in
    let r = right_of (a.life == m.life) (a.count == m.count) h in
    let life : a.life ≡ m.life = eqb-true _ _ l in
    let count : a.count ≡ m.count = eqb-true _ _ r in
    ap (λ (x : ℕ). (x == n.life) && (a.count == n.count)) life ∙ ap (λ (x : ℕ). (m.life == n.life) && (x == n.count)) count

waits_counts : (n m : CallNumber) (f : Flow) (call : OpenCall) → is_waiting_call f m call ≡ true → one_if (waits_with n call) ≡ one_if (same_number m n)
waits_counts n m f call h =
    let both = left_of (call.waits && same_number call.number m) (same_flow call.flow f) h in
    let w = left_of call.waits (same_number call.number m) both in
    let s = right_of call.waits (same_number call.number m) both in
    ap (λ (b : Bool). one_if (b && same_number call.number n)) w ∙ ap one_if (same_as call.number m n s)

answered_waits : (n m : CallNumber) (f : Flow) (d : OpenCall) (i : ℕ) (calls : List OpenCall) → i < length calls → is_waiting_call f m (get_or calls i d) ≡ true
    → waits_in n (answered_at i calls) + one_if (same_number m n) ≡ waits_in n calls
answered_waits n m f d i [] lt h = absurd (omega arith)
answered_waits n m f d zero (call ∷ calls) lt h = let e = waits_counts n m f call h in omega (arith, e)
answered_waits n m f d (suc i) (call ∷ calls) lt h = let e = answered_waits n m f d i calls (omega arith) h in omega (arith, e)

reply_keeps : (n m : CallNumber) (f : Flow) (answer : List ℕ) (h : CallBook) (o : Option ℕ) → position (is_waiting_call f m) h.calls ≡ o → account n (take_reply_at o m answer h) ≡ account n h
reply_keeps n m f answer h None is = refl
reply_keeps n m f answer h (Some i) is =
    let d : OpenCall = record { number = m; flow = f; deadline = 0; left = 0; waits = false; has_given_up = false } in
    let at = position-Some (is_waiting_call f m) h.calls i d is in
    let a = answered_waits n m f d i h.calls at.0 at.1 in
    let b = ends_append n h.happenings (Answered m answer ∷ []) in
    omega (arith, a, b)

request_if : (n : CallNumber) (b : Bool) (token : Token) (payload : List ℕ) (h : CallBook)
    → account n (cond b (record h { tokens = without_token token h.tokens; counts = record (h.counts) { reused = counted_up h.counts.reused } }) (record h { tokens = h.tokens ++ token ∷ []; happenings = h.happenings ++ Request token payload ∷ [] })) ≡ account n h
request_if n true token payload h = refl
request_if n false token payload h = let b = ends_append n h.happenings (Request token payload ∷ []) in omega (arith, b)

as_keeps : (n : CallNumber) (o : Option PortKind) (f : Flow) (m : CallNumber) (carried : List ℕ) (h : CallBook) → account n (take_as o f m carried h) ≡ account n h
as_keeps n None f m carried h = refl
as_keeps n (Some Caller) f m carried h = reply_keeps n m (reversed f) carried h (position (is_waiting_call (reversed f) m) h.calls) refl
as_keeps n (Some Service) f m carried h = request_if n (is_open (token_with f m) h) (token_with f m) carried h

message_if : (n : CallNumber) (b : Bool) (one : CallBook) (h : CallBook) → account n one ≡ account n h → account n (cond b one (record h { counts = record (h.counts) { short = counted_up h.counts.short } })) ≡ account n h
message_if n true one h e = e
message_if n false one h e = refl

whole_keeps : (n : CallNumber) (f : Flow) (o : Option (List ℕ)) (h : CallBook) → account n (take_whole f o h) ≡ account n h
whole_keeps n f None h = refl
whole_keeps n f (Some message) h =
    message_if n (has_number message) (take_as (kind_in f.to_port h.ports) f (from_u64 (number_in message)) (carried_in message) h) h
    (as_keeps n (kind_in f.to_port h.ports) f (from_u64 (number_in message)) (carried_in message) h)

pub piece_keeps : (n : CallNumber) (f : Flow) (p : Piece) (h : CallBook) → account n (take_piece f p h) ≡ account n h
piece_keeps n f p h = whole_keeps n f (whole_within (Some longest_message) (begun_of f h) p) (grown f (begun_of f h) p h)

pub all_heard : (n : CallNumber) (told : List Told) (h : CallBook) → account n (fold hear h told) ≡ account n h
all_heard n [] h = refl
all_heard n (t ∷ told) h = all_heard n told (hear h t) ∙ hear_keeps n (heard t) h

pub happens_keeps : (n : CallNumber) (now : ℕ) (event : Event (Unit {0})) (x : Node) → account n (happens now event x).book ≡ account n x.book
happens_keeps n now event x = all_heard n (after_event now event x.endpoint).reports x.book

account_kept : (n : CallNumber) (now : ℕ) → IsKept now (λ (x y : Node). account n y.book ≡ account n x.book)
account_kept n now = record {
  itself = λ x. refl;
  through = λ x y z first second. second ∙ first;
  hears = λ f x. happens_keeps n now (Read f most_read) x;
  done = λ f x. refl;
  takes = λ f p x. piece_keeps n f p x.book;
  swept = λ x. refl;
}

pub end_keeps : (n : CallNumber) (now : ℕ) (x : Node) → account n (turn_end now x).book ≡ account n x.book
end_keeps n now x = end_kept now (λ (u v : Node). account n v.book ≡ account n u.book) (account_kept n now) (λ moment u. judge_keeps n moment u.book) x

pub turn_keeps : (n : CallNumber) (now : ℕ) (event : Event (Unit {0})) (x : Node) → account n (turn now event x).book ≡ account n x.book
turn_keeps n now event x = end_keeps n now (happens now event x) ∙ happens_keeps n now event x
