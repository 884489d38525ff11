-- What an endpoint's call did, by its answer.
use Rattle.std.proofs.Common.{ℕ, ◌≡◌, ◌≤◌, inl, inr, Bool, true, false, List, [], ◌∷◌, length, take, Option, Some, None, refl, ap, sym, subst, ◌∙◌, arith}
use Rattle.std.specs.Prelude.{◌⊎◌, cond, nat_le}
use Rattle.std.proofs.lemmas.List.{length-take}
use Rattle.dt_items.specs.declared.item.Item.{Item}
use Rattle.dt_items.specs.declared.piece.Piece.{Piece as ItemPiece}
use Rattle.dt_items.specs.Unread.{octets_of, piece_told}
use Rattle.dt_units.specs.declared.endpoints.Flow.{Flow}
use Rattle.dt_layout.specs.declared.faults.LayoutFault.{LayoutFault}
use Rattle.dt_layout.specs.Carried.{life_of}
use Rattle.dt_layout.specs.Reading.{gram_fault}
use Rattle.dt_reports.specs.declared.faults.Refusal.{Refusal}
use Rattle.dt_reports.specs.declared.faults.Refusal.TheVariants as refusal
use Rattle.dt_world_model.specs.Station.{Event, Read, Send, Tick}
use Rattle.dt_world_model.specs.WorldStep.{first_refusal}
use Rattle.dt_calls_model.specs.Messages.{Piece as MessagePiece}
use Rattle.dt_messages.specs.declared.joiners.Marks.{Marks}
use Rattle.dt_endpoint.specs.declared.answers.Received.{Received}
use Rattle.dt_endpoint.specs.declared.answers.Received.TheVariants as arrived
use Rattle.dt_endpoint.specs.declared.answers.Delivered.{Delivered}
use Rattle.dt_endpoint.specs.declared.answers.Delivered.TheVariants as piece
use Rattle.dt_endpoint.specs.declared.answers.Sent.{Sent}
use Rattle.dt_endpoint.specs.declared.answers.Sent.TheVariants as sent
use Rattle.dt_endpoint.specs.declared.answers.Ticked.{Ticked}
use Rattle.dt_endpoint.specs.declared.answers.Ticked.TheVariants as ticked
use Rattle.dt_endpoint.specs.Calls.{ArriveDoes, Arrives, ReadDoes, Reads, SendDoes, Sends, TickDoes, Ticks, Unless, arrive_event, arrive_fault, arrive_refusal, has_link, piece_of, read_answer, read_refusals, send_answer, send_refusals, sent_of, tick_refusals}
use Rattle.dt_endpoint.specs.Endpoints.{Breaks, EndpointValue, after_event, with_refused}
use Rattle.dt_service_model.specs.Turns.{piece_with}
use Rattle.dt_service.specs.Nodes.{IsCutOff, piece_found}

-- WHAT IS REFUSED answers as one of its tests says
abbrev Never : {A : Type 0} → (A → Type 0) → List (Bool × A) → Type 0
Never P [] = Unit {0}
Never P (test ∷ tests) = (P test.1 → ⊥) × Never P tests

never_if : {A : Type 0} (P : A → Type 0) (b : Bool) (a r : A) (o : Option A) → (P a → ⊥) → (o ≡ Some r → P r → ⊥) → cond b (Some a) o ≡ Some r → P r → ⊥
never_if P true a r o not rest is so = not (subst P (sym (some_is is)) so)
  where
    some_is : {B : Type 0} {x y : B} → Some x ≡ Some y → x ≡ y
    some_is h = cc
never_if P false a r o not rest is so = rest is so

never_first : {A : Type 0} (P : A → Type 0) (tests : List (Bool × A)) (r : A) → Never P tests → first_refusal tests ≡ Some r → P r → ⊥
never_first P [] r never is so = cc
never_first P (test ∷ tests) r never is so = never_if P test.0 test.1 r (first_refusal tests) never.0 (never_first P tests r never.1) is so

done_unless : {A : Type 0} (P : A → Type 0) (o : Option A) (answer : A) (e f : EndpointValue) (Done : Type 0) → ((r : A) → o ≡ Some r → P r → ⊥) → P answer → Unless o answer e f Done → Done
done_unless P None answer e f Done never so h = h
done_unless P (Some r) answer e f Done never so h = absurd (never r refl (subst P h.0 so))

-- A SEND
abbrev IsSent : Sent → Type 0
IsSent sent.Done = Unit {0}
IsSent (sent.Quiet until) = Unit {0}
IsSent (sent.Full free) = Unit {0}
IsSent sent.NoMemory = ⊥
IsSent sent.Spent = ⊥
IsSent sent.BadFlow = ⊥
IsSent sent.Empty = ⊥
IsSent sent.TooMany = ⊥

sends_is : (answer : Sent) (now : ℕ) (flow : Flow) (octets : List ℕ) (begin end : Bool) (e f : EndpointValue) → IsSent answer → Sends answer now flow octets begin end e f
    → SendDoes answer now (send_answer now flow octets begin end e) (Send flow octets begin end) e f
sends_is answer now flow octets begin end e f so h =
    done_unless IsSent (first_refusal (send_refusals flow octets e)) answer e f (SendDoes answer now (send_answer now flow octets begin end e) (Send flow octets begin end) e f)
    (λ r. never_first IsSent (send_refusals flow octets e) r ((λ x. x), ((λ x. x), ((λ x. x), ((λ x. x), tt))))) so h

pub refused_none : (o : Option Refusal) → sent.Done ≡ sent_of o → o ≡ None
refused_none None h = refl
refused_none (Some (refusal.Quiet until)) h = cc
refused_none (Some (refusal.Full free)) h = cc

pub refused_quiet : (until : ℕ) (o : Option Refusal) → sent.Quiet until ≡ sent_of o → o ≡ Some (refusal.Quiet until)
refused_quiet until None h = cc
refused_quiet until (Some (refusal.Quiet v)) h = cc
refused_quiet until (Some (refusal.Full free)) h = cc

pub refused_full : (free : ℕ) (o : Option Refusal) → sent.Full free ≡ sent_of o → o ≡ Some (refusal.Full free)
refused_full free None h = cc
refused_full free (Some (refusal.Quiet v)) h = cc
refused_full free (Some (refusal.Full v)) h = cc

pub record SentSo (refused : Option Refusal) (now : ℕ) (flow : Flow) (octets : List ℕ) (begin end : Bool) (e f : EndpointValue) : Type 0 where
  pub answer : send_answer now flow octets begin end e ≡ refused
  pub after : f ≡ after_event now (Send flow octets begin end) e

pub sends_done : (now : ℕ) (flow : Flow) (octets : List ℕ) (begin end : Bool) (e f : EndpointValue) → Sends sent.Done now flow octets begin end e f → SentSo None now flow octets begin end e f
sends_done now flow octets begin end e f h = let s = sends_is sent.Done now flow octets begin end e f tt h in record { answer = refused_none (send_answer now flow octets begin end e) s.0; after = s.1 }

pub sends_quiet : (until now : ℕ) (flow : Flow) (octets : List ℕ) (begin end : Bool) (e f : EndpointValue) → Sends (sent.Quiet until) now flow octets begin end e f → SentSo (Some (refusal.Quiet until)) now flow octets begin end e f
sends_quiet until now flow octets begin end e f h = let s = sends_is (sent.Quiet until) now flow octets begin end e f tt h in record { answer = refused_quiet until (send_answer now flow octets begin end e) s.0; after = s.1 }

pub sends_full : (free now : ℕ) (flow : Flow) (octets : List ℕ) (begin end : Bool) (e f : EndpointValue) → Sends (sent.Full free) now flow octets begin end e f → SentSo (Some (refusal.Full free)) now flow octets begin end e f
sends_full free now flow octets begin end e f h = let s = sends_is (sent.Full free) now flow octets begin end e f tt h in record { answer = refused_full free (send_answer now flow octets begin end e) s.0; after = s.1 }

-- one that answered otherwise was cut off
cut_unless : {A : Type 0} (o : Option A) (answer : A) (now : ℕ) (event : Event (Unit {0})) (e f : EndpointValue) (Done : Type 0) → (Done → IsCutOff now event e f) → Unless o answer e f Done → IsCutOff now event e f
cut_unless (Some r) answer now event e f Done done h = inl h.1
cut_unless None answer now event e f Done done h = done h

abbrev pub IsUnsent : Sent → Type 0
IsUnsent sent.Done = ⊥
IsUnsent (sent.Quiet until) = ⊥
IsUnsent (sent.Full free) = ⊥
IsUnsent sent.NoMemory = Unit {0}
IsUnsent sent.Spent = Unit {0}
IsUnsent sent.BadFlow = Unit {0}
IsUnsent sent.Empty = Unit {0}
IsUnsent sent.TooMany = Unit {0}

pub is_unsent : (answer : Sent) → (answer ≡ sent.NoMemory) ⊎ (answer ≡ sent.Spent) ⊎ (answer ≡ sent.BadFlow) ⊎ (answer ≡ sent.Empty) ⊎ (answer ≡ sent.TooMany) → IsUnsent answer
is_unsent answer (inl is) = subst IsUnsent (sym is) tt
is_unsent answer (inr (inl is)) = subst IsUnsent (sym is) tt
is_unsent answer (inr (inr (inl is))) = subst IsUnsent (sym is) tt
is_unsent answer (inr (inr (inr (inl is)))) = subst IsUnsent (sym is) tt
is_unsent answer (inr (inr (inr (inr is)))) = subst IsUnsent (sym is) tt

sent_is : (o : Option Refusal) → IsUnsent (sent_of o) → ⊥
sent_is None h = h
sent_is (Some (refusal.Quiet until)) h = h
sent_is (Some (refusal.Full free)) h = h

send_cut : (answer : Sent) (now : ℕ) (refused : Option Refusal) (event : Event (Unit {0})) (e f : EndpointValue) → IsUnsent answer → SendDoes answer now refused event e f → IsCutOff now event e f
send_cut sent.NoMemory now refused event e f un h = inr h
send_cut sent.Done now refused event e f un h = absurd un
send_cut (sent.Quiet until) now refused event e f un h = absurd un
send_cut (sent.Full free) now refused event e f un h = absurd un
send_cut sent.Spent now refused event e f un h = absurd (sent_is refused (subst IsUnsent h.0 un))
send_cut sent.BadFlow now refused event e f un h = absurd (sent_is refused (subst IsUnsent h.0 un))
send_cut sent.Empty now refused event e f un h = absurd (sent_is refused (subst IsUnsent h.0 un))
send_cut sent.TooMany now refused event e f un h = absurd (sent_is refused (subst IsUnsent h.0 un))

pub sends_cut : (answer : Sent) (now : ℕ) (flow : Flow) (octets : List ℕ) (begin end : Bool) (e f : EndpointValue) → IsUnsent answer → Sends answer now flow octets begin end e f → IsCutOff now (Send flow octets begin end) e f
sends_cut answer now flow octets begin end e f un h =
    let refused = send_answer now flow octets begin end e in
    let event = Send flow octets begin end in
    cut_unless (first_refusal (send_refusals flow octets e)) answer now event e f (SendDoes answer now refused event e f) (send_cut answer now refused event e f un) h

-- A READ
abbrev IsRead : Delivered → Type 0
IsRead (piece.Read len run begin end) = Unit {0}
IsRead piece.Nothing = Unit {0}
IsRead piece.NoMemory = ⊥
IsRead piece.Spent = ⊥
IsRead piece.BadFlow = ⊥
IsRead piece.NoRoom = ⊥

reads_is : (answer : Delivered) (now : ℕ) (flow : Flow) (room : ℕ) (buf : List ℕ) (e f : EndpointValue) → IsRead answer → Reads answer now flow room buf e f
    → ReadDoes answer now (read_answer now flow room e) (Read flow room) buf e f
reads_is answer now flow room buf e f so h =
    done_unless IsRead (first_refusal (read_refusals flow room e)) answer e f (ReadDoes answer now (read_answer now flow room e) (Read flow room) buf e f)
    (λ r. never_first IsRead (read_refusals flow room e) r ((λ x. x), ((λ x. x), ((λ x. x), tt)))) so h

pub record ReadSo (found : Option MessagePiece) (len now : ℕ) (flow : Flow) (room : ℕ) (buf : List ℕ) (e f : EndpointValue) : Type 0 where
  pub found_is : found ≡ piece_with (octets_of (read_answer now flow room e)) (piece_told (read_answer now flow room e))
  pub within : len ≤ length buf
  pub after : f ≡ after_event now (Read flow room) e

none_found : (octets : List ℕ) (o : Option ItemPiece) → piece.Nothing ≡ piece_of (length octets) o → None ≡ piece_with octets o
none_found octets None h = refl
none_found octets (Some told) h = cc

pub reads_nothing : (now : ℕ) (flow : Flow) (room : ℕ) (buf : List ℕ) (e f : EndpointValue) → Reads piece.Nothing now flow room buf e f → ReadSo None 0 now flow room buf e f
reads_nothing now flow room buf e f h =
    let s = reads_is piece.Nothing now flow room buf e f tt h in
    let items = read_answer now flow room e in
    record { found_is = none_found (octets_of items) (piece_told items) s.0; within = omega arith; after = s.2 }

some_found : (marks : Marks) (len : ℕ) (octets buf : List ℕ) (o : Option ItemPiece) → piece.Read len marks.run marks.begin marks.end ≡ piece_of (length octets) o → take (length octets) buf ≡ octets
    → piece_found (Some (record { marks = marks; len = len })) buf ≡ piece_with octets o
some_found marks len octets buf None h same = cc
some_found marks len octets buf (Some told) h same =
    let n : len ≡ length octets = cc in
    let run : marks.run ≡ told.run = cc in
    let begin : marks.begin ≡ told.begin = cc in
    let end : marks.end ≡ told.end = cc in
    let octets_same : take len buf ≡ octets = ap (λ (k : ℕ). take k buf) n ∙ same in
    cc

found_within : (marks : Marks) (len : ℕ) (octets buf : List ℕ) (o : Option ItemPiece) → piece.Read len marks.run marks.begin marks.end ≡ piece_of (length octets) o → take (length octets) buf ≡ octets → len ≤ length buf
found_within marks len octets buf None h same = cc
found_within marks len octets buf (Some told) h same =
    let n : len ≡ length octets = cc in
    let count : length (take (length octets) buf) ≡ length octets = ap length same in
    omega (arith, n, count, length-take (length octets) buf)

pub reads_some : (marks : Marks) (len now : ℕ) (flow : Flow) (room : ℕ) (buf : List ℕ) (e f : EndpointValue) → Reads (piece.Read len marks.run marks.begin marks.end) now flow room buf e f
    → ReadSo (piece_found (Some (record { marks = marks; len = len })) buf) len now flow room buf e f
reads_some marks len now flow room buf e f h =
    let s = reads_is (piece.Read len marks.run marks.begin marks.end) now flow room buf e f tt h in
    let items = read_answer now flow room e in
    record {
      found_is = some_found marks len (octets_of items) buf (piece_told items) s.0 s.1;
      within = found_within marks len (octets_of items) buf (piece_told items) s.0 s.1;
      after = s.2;
    }

abbrev pub IsUnread : Delivered → Type 0
IsUnread (piece.Read len run begin end) = ⊥
IsUnread piece.Nothing = ⊥
IsUnread piece.NoMemory = Unit {0}
IsUnread piece.Spent = Unit {0}
IsUnread piece.BadFlow = Unit {0}
IsUnread piece.NoRoom = Unit {0}

pub is_unread : (answer : Delivered) → (answer ≡ piece.NoMemory) ⊎ (answer ≡ piece.Spent) ⊎ (answer ≡ piece.BadFlow) ⊎ (answer ≡ piece.NoRoom) → IsUnread answer
is_unread answer (inl is) = subst IsUnread (sym is) tt
is_unread answer (inr (inl is)) = subst IsUnread (sym is) tt
is_unread answer (inr (inr (inl is))) = subst IsUnread (sym is) tt
is_unread answer (inr (inr (inr is))) = subst IsUnread (sym is) tt

piece_is : (len : ℕ) (o : Option ItemPiece) → IsUnread (piece_of len o) → ⊥
piece_is len None h = h
piece_is len (Some told) h = h

read_cut : (answer : Delivered) (now : ℕ) (items : List Item) (event : Event (Unit {0})) (buf : List ℕ) (e f : EndpointValue) → IsUnread answer → ReadDoes answer now items event buf e f → IsCutOff now event e f
read_cut piece.NoMemory now items event buf e f un h = inr h
read_cut (piece.Read len run begin end) now items event buf e f un h = absurd un
read_cut piece.Nothing now items event buf e f un h = absurd un
read_cut piece.Spent now items event buf e f un h = absurd (piece_is (length (octets_of items)) (piece_told items) (subst IsUnread h.0 un))
read_cut piece.BadFlow now items event buf e f un h = absurd (piece_is (length (octets_of items)) (piece_told items) (subst IsUnread h.0 un))
read_cut piece.NoRoom now items event buf e f un h = absurd (piece_is (length (octets_of items)) (piece_told items) (subst IsUnread h.0 un))

pub reads_cut : (answer : Delivered) (now : ℕ) (flow : Flow) (room : ℕ) (buf : List ℕ) (e f : EndpointValue) → IsUnread answer → Reads answer now flow room buf e f → IsCutOff now (Read flow room) e f
reads_cut answer now flow room buf e f un h =
    let items = read_answer now flow room e in
    cut_unless (first_refusal (read_refusals flow room e)) answer now (Read flow room) e f (ReadDoes answer now items (Read flow room) buf e f) (read_cut answer now items (Read flow room) buf e f un) h

-- A TICK
abbrev pub IsTicked : Ticked → Type 0
IsTicked ticked.Done = Unit {0}
IsTicked ticked.NoMemory = ⊥
IsTicked ticked.Spent = ⊥

pub ticks_done : (now : ℕ) (e f : EndpointValue) → Ticks ticked.Done now e f → f ≡ after_event now Tick e
ticks_done now e f h =
    let s = done_unless IsTicked (first_refusal (tick_refusals e)) ticked.Done e f (TickDoes ticked.Done now e f) (λ r. never_first IsTicked (tick_refusals e) r ((λ x. x), tt)) tt h in s.1

tick_cut : (answer : Ticked) (now : ℕ) (e f : EndpointValue) → (IsTicked answer → ⊥) → TickDoes answer now e f → IsCutOff now Tick e f
tick_cut ticked.NoMemory now e f un h = inr h
tick_cut ticked.Done now e f un h = absurd (un tt)
tick_cut ticked.Spent now e f un h = absurd (differ h.0)
  where
    differ : ticked.Spent ≡ ticked.Done → ⊥
    differ k = cc

pub ticks_cut : (answer : Ticked) (now : ℕ) (e f : EndpointValue) → (IsTicked answer → ⊥) → Ticks answer now e f → IsCutOff now Tick e f
ticks_cut answer now e f un h = cut_unless (first_refusal (tick_refusals e)) answer now Tick e f (TickDoes answer now e f) (tick_cut answer now e f un) h

-- A DATAGRAM
-- a refusal is one of four
abbrev pub IsRefused : Received → Type 0
IsRefused arrived.Done = ⊥
IsRefused arrived.NoMemory = ⊥
IsRefused arrived.Spent = Unit {0}
IsRefused arrived.NoLink = Unit {0}
IsRefused (arrived.Bad fault) = Unit {0}
IsRefused arrived.Stale = Unit {0}

abbrev AllRefused : Option Received → Type 0
AllRefused None = Unit {0}
AllRefused (Some r) = IsRefused r

stale_if : (b : Bool) → AllRefused (cond b (Some arrived.Stale) None)
stale_if true = tt
stale_if false = tt

fault_refused : (waited : ℕ) (octets : List ℕ) (o : Option LayoutFault) → AllRefused (arrive_fault waited octets o)
fault_refused waited octets (Some fault) = tt
fault_refused waited octets None = stale_if (nat_le (life_of octets) waited)

link_if : (b : Bool) (o : Option Received) → AllRefused o → AllRefused (cond b o (Some arrived.NoLink))
link_if true o all = all
link_if false o all = tt

spent_if : (b : Bool) (o : Option Received) → AllRefused o → AllRefused (cond b (Some arrived.Spent) o)
spent_if true o all = tt
spent_if false o all = all

refusals_are : (link : ℕ) (octets : List ℕ) (waited : ℕ) (e : EndpointValue) → AllRefused (arrive_refusal link octets waited e)
refusals_are link octets waited e =
    spent_if e.spent (cond (has_link link e.state.relay.ins) (arrive_fault waited octets (gram_fault octets)) (Some arrived.NoLink))
    (link_if (has_link link e.state.relay.ins) (arrive_fault waited octets (gram_fault octets)) (fault_refused waited octets (gram_fault octets)))

pub record CameSo (now link : ℕ) (octets : List ℕ) (waited : ℕ) (e f : EndpointValue) : Type 0 where
  pub unrefused : arrive_refusal link octets waited e ≡ None
  pub after : f ≡ after_event now (arrive_event link octets waited) e

came_as : (o : Option Received) (now : ℕ) (event : Event (Unit {0})) (e f : EndpointValue) → AllRefused o → Unless o arrived.Done (with_refused e) f (ArriveDoes arrived.Done now event e f) → (o ≡ None) × (f ≡ after_event now event e)
came_as None now event e f all h = (refl, h.1)
came_as (Some r) now event e f all h = absurd (subst IsRefused (sym h.0) all)

pub arrives_done : (now link : ℕ) (octets : List ℕ) (waited : ℕ) (e f : EndpointValue) → Arrives arrived.Done now link octets waited e f → CameSo now link octets waited e f
arrives_done now link octets waited e f h =
    let s = came_as (arrive_refusal link octets waited e) now (arrive_event link octets waited) e f (refusals_are link octets waited e) h in
    record { unrefused = s.0; after = s.1 }

pub record RefusedSo (answer : Received) (link : ℕ) (octets : List ℕ) (waited : ℕ) (e f : EndpointValue) : Type 0 where
  pub refused : arrive_refusal link octets waited e ≡ Some answer
  pub after : f ≡ with_refused e

done_or_not : (answer : Received) (now : ℕ) (event : Event (Unit {0})) (e f : EndpointValue) → IsRefused answer → ArriveDoes answer now event e f → ⊥
done_or_not arrived.Done now event e f so h = so
done_or_not arrived.NoMemory now event e f so h = so
done_or_not arrived.Spent now event e f so h = differ h.0
  where
    differ : arrived.Spent ≡ arrived.Done → ⊥
    differ k = cc
done_or_not arrived.NoLink now event e f so h = differ h.0
  where
    differ : arrived.NoLink ≡ arrived.Done → ⊥
    differ k = cc
done_or_not (arrived.Bad fault) now event e f so h = differ h.0
  where
    differ : arrived.Bad fault ≡ arrived.Done → ⊥
    differ k = cc
done_or_not arrived.Stale now event e f so h = differ h.0
  where
    differ : arrived.Stale ≡ arrived.Done → ⊥
    differ k = cc

refused_as : (o : Option Received) (answer : Received) (now : ℕ) (event : Event (Unit {0})) (e f : EndpointValue) → IsRefused answer → Unless o answer (with_refused e) f (ArriveDoes answer now event e f) → (o ≡ Some answer) × (f ≡ with_refused e)
refused_as None answer now event e f so h = absurd (done_or_not answer now event e f so h)
refused_as (Some r) answer now event e f so h = (ap (λ (a : Received). Some a) (sym h.0), h.1)

pub arrives_refused : (answer : Received) (now link : ℕ) (octets : List ℕ) (waited : ℕ) (e f : EndpointValue) → IsRefused answer → Arrives answer now link octets waited e f → RefusedSo answer link octets waited e f
arrives_refused answer now link octets waited e f so h =
    let s = refused_as (arrive_refusal link octets waited e) answer now (arrive_event link octets waited) e f so h in
    record { refused = s.0; after = s.1 }

-- one that found no memory wasn't refused
pub record CutOff (now link : ℕ) (octets : List ℕ) (waited : ℕ) (e f : EndpointValue) : Type 0 where
  pub unrefused : arrive_refusal link octets waited e ≡ None
  pub breaks : Breaks now (arrive_event link octets waited) e f

cut_as : (o : Option Received) (now : ℕ) (event : Event (Unit {0})) (e f : EndpointValue) → AllRefused o → Unless o arrived.NoMemory (with_refused e) f (Breaks now event e f) → (o ≡ None) × Breaks now event e f
cut_as None now event e f all h = (refl, h)
cut_as (Some r) now event e f all h = absurd (subst IsRefused (sym h.0) all)

pub arrives_cut : (now link : ℕ) (octets : List ℕ) (waited : ℕ) (e f : EndpointValue) → Arrives arrived.NoMemory now link octets waited e f → CutOff now link octets waited e f
arrives_cut now link octets waited e f h =
    let s = cut_as (arrive_refusal link octets waited e) now (arrive_event link octets waited) e f (refusals_are link octets waited e) h in
    record { unrefused = s.0; breaks = s.1 }
