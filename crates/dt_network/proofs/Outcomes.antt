-- What each call of an endpoint comes to: nothing that the network sees, or one event.
use Rattle.std.proofs.Common.{◌≡◌, ◌∙◌, ◌⊎◌, ◌==◌, ◌<◌, ◌+◌, ℕ, Bool, true, false, List, [], ◌∷◌, length, drop, drop_of_length-le, take, Option, Some, None, refl, sym, ap, subst, arith, inl, inr}
use Rattle.std.specs.Prelude.{◌||◌, nat_le, not, if◌then◌else◌}
use Rattle.std.proofs.Math.Seq.{drop-length}
use Rattle.std.proofs.lemmas.List.{length-drop}
use Rattle.std.proofs.lemmas.Bool.Decides.{nat_tests}
use Rattle.std.proofs.lemmas.Bool.{cases_Bool}
use Rattle.dt_units.specs.declared.endpoints.Flow.{Flow}
use Rattle.dt_items.specs.declared.item.Item.{Item}
use Rattle.dt_items.specs.Unread.{octets_of, piece_told}
use Rattle.dt_reports.specs.declared.faults.Refusal.{Refusal}
use Rattle.dt_reports.specs.declared.faults.Refusal.TheVariants as refusal
use Rattle.dt_network.specs.Octets.{IsTaken, items_read}
use Rattle.dt_layout.specs.declared.faults.LayoutFault.{LayoutFault}
use Rattle.dt_layout.specs.Carried.{life_of}
use Rattle.dt_layout.specs.Reading.{gram_fault}
use Rattle.dt_flow_model.specs.Keeping.{octets_below}
use Rattle.dt_world_model.proofs.Tables.{nat_is}
use Rattle.dt_world_model.specs.Station.{Event, Read, Send, Tick}
use Rattle.dt_world_model.specs.WorldStep.{first_refusal}
use Rattle.dt_endpoint.specs.declared.answers.Ticked.{Ticked}
use Rattle.dt_endpoint.specs.declared.answers.Ticked.TheVariants as ticked
use Rattle.dt_endpoint.specs.declared.answers.Sent.{Sent}
use Rattle.dt_endpoint.specs.declared.answers.Sent.TheVariants as sent
use Rattle.dt_endpoint.specs.declared.answers.Received.{Received}
use Rattle.dt_endpoint.specs.declared.answers.Received.TheVariants as arrived
use Rattle.dt_endpoint.specs.declared.answers.Delivered.{Delivered}
use Rattle.dt_endpoint.specs.declared.answers.Delivered.TheVariants as piece
use Rattle.dt_endpoint.specs.declared.answers.Routed.{Routed}
use Rattle.dt_endpoint.specs.declared.answers.Routed.TheVariants as routed
use Rattle.dt_world_model.specs.declared.links.Route.{Route}
use Rattle.dt_endpoint.specs.Calls.{AddsRoute, ArriveDoes, Arrives, RouteDoes, route_refusals, ReadDoes, Reads, SendDoes, Sends, TickDoes, Ticks, Unless, arrive_event, arrive_fault, arrive_refusal, has_link, piece_of, read_answer, read_refusals, send_answer, send_refusals, tick_refusals}
use Rattle.dt_endpoint.specs.Counts.{Counted, counts_refused}
use Rattle.dt_endpoint.specs.Endpoints.{EndpointValue, with_followed, with_refused, with_route}
use Rattle.dt_network.proofs.Frames.{Ends}
use Rattle.dt_network.specs.Steps.{Does, Follow}
use Rattle.dt_network.specs.Network.{Setup}

-- NOTHING that the network sees: what the endpoint keeps of its node stays, and no frame is appended
pub record IsStill (e f : EndpointValue) : Type 0 where
  pub rules : f.rules ≡ e.rules
  pub latest : f.latest ≡ e.latest
  pub spent : f.spent ≡ e.spent
  pub state : f.state ≡ e.state
  pub frames : drop (length e.frames) f.frames ≡ []
  pub reports : drop (length e.reports) f.reports ≡ []

-- at most something is counted
counted_is_still : (counts : Counted) (e f : EndpointValue) → f ≡ record e { counts = counts } → IsStill e f
counted_is_still counts e f same = record {
  rules = ap (λ (x : EndpointValue). x.rules) same;
  latest = ap (λ (x : EndpointValue). x.latest) same;
  spent = ap (λ (x : EndpointValue). x.spent) same;
  state = ap (λ (x : EndpointValue). x.state) same;
  frames = ap (λ (x : EndpointValue). drop (length e.frames) x.frames) same ∙ drop-length e.frames;
  reports = ap (λ (x : EndpointValue). drop (length e.reports) x.reports) same ∙ drop-length e.reports;
}

pub same_is_still : (e f : EndpointValue) → f ≡ e → IsStill e f
same_is_still e f same = counted_is_still e.counts e f same

pub pulled_frame_is_still : (e f : EndpointValue) → f ≡ record e { frames = drop 1 e.frames } → IsStill e f
pulled_frame_is_still e f same = record {
  rules = ap (λ (x : EndpointValue). x.rules) same;
  latest = ap (λ (x : EndpointValue). x.latest) same;
  spent = ap (λ (x : EndpointValue). x.spent) same;
  state = ap (λ (x : EndpointValue). x.state) same;
  frames = ap (λ (x : EndpointValue). drop (length e.frames) x.frames) same ∙ drop_of_length-le (drop 1 e.frames) (omega (arith, length-drop 1 e.frames));
  reports = ap (λ (x : EndpointValue). drop (length e.reports) x.reports) same ∙ drop-length e.reports;
}

pub pulled_report_is_still : (e f : EndpointValue) → f ≡ record e { reports = drop 1 e.reports } → IsStill e f
pulled_report_is_still e f same = record {
  rules = ap (λ (x : EndpointValue). x.rules) same;
  latest = ap (λ (x : EndpointValue). x.latest) same;
  spent = ap (λ (x : EndpointValue). x.spent) same;
  state = ap (λ (x : EndpointValue). x.state) same;
  frames = ap (λ (x : EndpointValue). drop (length e.frames) x.frames) same ∙ drop-length e.frames;
  reports = ap (λ (x : EndpointValue). drop (length e.reports) x.reports) same ∙ drop_of_length-le (drop 1 e.reports) (omega (arith, length-drop 1 e.reports));
}

-- a refused datagram is counted
refused_is_still : (e f : EndpointValue) → f ≡ with_refused e → IsStill e f
refused_is_still e f same = counted_is_still (counts_refused e.counts) e f same

-- a flow is followed, or there was no memory for it
pub followed_is_still : (flow : Flow) (done : Bool) (setup : Setup) (n : ℕ) (e f : EndpointValue) → Does setup n (Follow flow done) e f → IsStill e f
followed_is_still flow false setup n e f same = same_is_still e f same
followed_is_still flow true setup n e f same = counted_is_still (with_followed flow e).counts e f same

-- a refused call with its answer, or one that is done
pub record IsRefused {A : Type 0} (o : Option A) (answer : A) (e f : EndpointValue) : Type 0 where
  pub same : f ≡ e
  pub because : o ≡ Some answer

done_or_same : {A : Type 0} (o : Option A) (answer : A) (e f : EndpointValue) (done : Type 0) → Unless o answer e f done → IsRefused o answer e f ⊎ ((o ≡ None) × done)
done_or_same (Some r) answer e f done h = inl (record { same = h.1; because = ap (λ a. Some a) (sym h.0) })
done_or_same None answer e f done h = inr (refl, h)

-- what holds of each answer of some tests holds of the one that refuses
abbrev pub AllAnswers : {A : Type 0} → (A → Type 0) → List (Bool × A) → Type 0
AllAnswers P [] = Unit {0}
AllAnswers P (t ∷ ts) = P t.1 × AllAnswers P ts

pub refusal_is : {A : Type 0} (P : A → Type 0) (tests : List (Bool × A)) (a : A) → AllAnswers P tests → first_refusal tests ≡ Some a → P a
refusal_is P [] a all h = absurd cc
refusal_is P (t ∷ ts) a all h =
    elim (cases_Bool t.0) [
      | inl y ↦ let found : Some t.1 ≡ Some a = rw y at h in let same : t.1 ≡ a = cc in subst P same all.0
      | inr n ↦ let rest : first_refusal ts ≡ Some a = rw n at h in refusal_is P ts a all.1 rest
    ]

-- the tests of a list of which none refuses
passed : {F : Type 0} (test : Bool × F) (rest : List (Bool × F)) → first_refusal (test ∷ rest) ≡ None → (test.0 ≡ false) × (first_refusal rest ≡ None)
passed test rest h = elim (cases_Bool test.0) [ inl y ↦ let some : Some test.1 ≡ None = rw y at h in absurd cc | inr n ↦ (n, rw n at h) ]

no_part : (a b : Bool) → (a || b) ≡ false → (a ≡ false) × (b ≡ false)
no_part true b h = absurd cc
no_part false b h = (refl, h)

not_false : (b : Bool) → not b ≡ false → b ≡ true
not_false true h = refl
not_false false h = absurd cc

-- A TICK
pub tick_comes_to : (answer : Ticked) (now : ℕ) (e f : EndpointValue) → Ticks answer now e f → (f ≡ e) ⊎ ((e.spent ≡ false) × Ends now Tick e f)
tick_comes_to answer now e f h = by_cases (done_or_same (first_refusal (tick_refusals e)) answer e f (TickDoes answer now e f) h)
  where
    ends : (a : Ticked) → TickDoes a now e f → Ends now Tick e f
    ends ticked.NoMemory k = inr k
    ends ticked.Done k = inl k.1
    ends ticked.Spent k = inl k.1

    by_cases : IsRefused (first_refusal (tick_refusals e)) answer e f ⊎ ((first_refusal (tick_refusals e) ≡ None) × TickDoes answer now e f) → (f ≡ e) ⊎ ((e.spent ≡ false) × Ends now Tick e f)
    by_cases (inl refused) = inl refused.same
    by_cases (inr k) = inr ((passed (e.spent, ticked.Spent) [] k.0).0, ends answer k.1)

-- A SEND
abbrev TakesNone : Sent → Type 0
TakesNone sent.Done = ⊥
TakesNone sent.NoMemory = ⊥
TakesNone other = Unit {0}

none_taken : (answer : Sent) (items : List Item) → TakesNone answer → IsTaken answer items []
none_taken sent.Done items h = absurd h
none_taken sent.NoMemory items h = absurd h
none_taken (sent.Quiet until) items h = refl
none_taken (sent.Full free) items h = refl
none_taken sent.Spent items h = refl
none_taken sent.BadFlow items h = refl
none_taken sent.Empty items h = refl
none_taken sent.TooMany items h = refl

pub record SendIsRefused (answer : Sent) (e f : EndpointValue) : Type 0 where
  pub same : f ≡ e
  pub none : (items : List Item) → IsTaken answer items []

-- what is taken by what the host answers
abbrev pub taken_of : Option Refusal → List Item → List Item
taken_of None items = items
taken_of (Some fault) items = []

taken_is : (a : Sent) (refused : Option Refusal) (items : List Item) (now : ℕ) (event : Event (Unit {0})) (e f : EndpointValue) → SendDoes a now refused event e f → IsTaken a items (taken_of refused items)
taken_is sent.NoMemory None items now event e f h = inl refl
taken_is sent.NoMemory (Some fault) items now event e f h = inr refl
taken_is sent.Done None items now event e f h = refl
taken_is sent.Done (Some (refusal.Quiet until)) items now event e f h = let no : sent.Done ≡ sent.Quiet until = h.0 in absurd cc
taken_is sent.Done (Some (refusal.Full free)) items now event e f h = let no : sent.Done ≡ sent.Full free = h.0 in absurd cc
taken_is (sent.Quiet until) (Some fault) items now event e f h = refl
taken_is (sent.Full free) (Some fault) items now event e f h = refl
taken_is sent.Spent (Some fault) items now event e f h = refl
taken_is sent.BadFlow (Some fault) items now event e f h = refl
taken_is sent.Empty (Some fault) items now event e f h = refl
taken_is sent.TooMany (Some fault) items now event e f h = refl
taken_is (sent.Quiet until) None items now event e f h = let no : sent.Quiet until ≡ sent.Done = h.0 in absurd cc
taken_is (sent.Full free) None items now event e f h = let no : sent.Full free ≡ sent.Done = h.0 in absurd cc
taken_is sent.Spent None items now event e f h = let no : sent.Spent ≡ sent.Done = h.0 in absurd cc
taken_is sent.BadFlow None items now event e f h = let no : sent.BadFlow ≡ sent.Done = h.0 in absurd cc
taken_is sent.Empty None items now event e f h = let no : sent.Empty ≡ sent.Done = h.0 in absurd cc
taken_is sent.TooMany None items now event e f h = let no : sent.TooMany ≡ sent.Done = h.0 in absurd cc

-- it is of a flow that begins at the endpoint's node and goes to another
pub record SendsFrom (answer : Sent) (now : ℕ) (flow : Flow) (octets : List ℕ) (begin end : Bool) (e f : EndpointValue) : Type 0 where
  pub unspent : e.spent ≡ false
  pub from : flow.from.0 ≡ e.state.host.me
  pub to : (flow.to.0 == e.state.host.me) ≡ false
  pub ends : Ends now (Send flow octets begin end) e f
  pub taken : (items : List Item) → IsTaken answer items (taken_of (send_answer now flow octets begin end e) items)

pub send_comes_to : (answer : Sent) (now : ℕ) (flow : Flow) (octets : List ℕ) (begin end : Bool) (e f : EndpointValue) → Sends answer now flow octets begin end e f → SendIsRefused answer e f ⊎ SendsFrom answer now flow octets begin end e f
send_comes_to answer now flow octets begin end e f h =
    by_cases (done_or_same (first_refusal (send_refusals flow octets e)) answer e f (SendDoes answer now (send_answer now flow octets begin end e) (Send flow octets begin end) e f) h)
  where
    ends : (a : Sent) → SendDoes a now (send_answer now flow octets begin end e) (Send flow octets begin end) e f → Ends now (Send flow octets begin end) e f
    ends sent.NoMemory k = inr k
    ends sent.Done k = inl k.1
    ends (sent.Quiet until) k = inl k.1
    ends (sent.Full free) k = inl k.1
    ends sent.Spent k = inl k.1
    ends sent.BadFlow k = inl k.1
    ends sent.Empty k = inl k.1
    ends sent.TooMany k = inl k.1

    by_cases : IsRefused (first_refusal (send_refusals flow octets e)) answer e f ⊎ ((first_refusal (send_refusals flow octets e) ≡ None) × SendDoes answer now (send_answer now flow octets begin end e) (Send flow octets begin end) e f) → SendIsRefused answer e f ⊎ SendsFrom answer now flow octets begin end e f
    by_cases (inl refused) =
        let all : AllAnswers TakesNone (send_refusals flow octets e) = (tt, (tt, (tt, (tt, tt)))) in
        inl (record { same = refused.same; none = λ items. none_taken answer items (refusal_is TakesNone (send_refusals flow octets e) answer all refused.because) })
    by_cases (inr k) =
        let other = not (flow.from.0 == e.state.host.me) || (flow.to.0 == e.state.host.me) in
        let first = passed (e.spent, sent.Spent) ((other, sent.BadFlow) ∷ (length octets == 0, sent.Empty) ∷ (nat_le octets_below (e.asked + length octets), sent.TooMany) ∷ []) k.0 in
        let second = passed (other, sent.BadFlow) ((length octets == 0, sent.Empty) ∷ (nat_le octets_below (e.asked + length octets), sent.TooMany) ∷ []) first.1 in
        let parts = no_part (not (flow.from.0 == e.state.host.me)) (flow.to.0 == e.state.host.me) second.0 in
        inr (record { unspent = first.0; from = nat_is flow.from.0 e.state.host.me (not_false (flow.from.0 == e.state.host.me) parts.0); to = parts.1; ends = ends answer k.1; taken = λ items. taken_is answer (send_answer now flow octets begin end e) items now (Send flow octets begin end) e f k.1 })

-- A READ
abbrev ReadsNone : Delivered → Type 0
ReadsNone (piece.Read len run begin end) = ⊥
ReadsNone other = Unit {0}

none_read : (answer : Delivered) (buf : List ℕ) → ReadsNone answer → items_read answer buf ≡ []
none_read (piece.Read len run begin end) buf h = absurd h
none_read piece.Nothing buf h = refl
none_read piece.NoMemory buf h = refl
none_read piece.Spent buf h = refl
none_read piece.BadFlow buf h = refl
none_read piece.NoRoom buf h = refl

pub record ReadIsRefused (answer : Delivered) (buf : List ℕ) (e f : EndpointValue) : Type 0 where
  pub same : f ≡ e
  pub none : items_read answer buf ≡ []

-- the answer is that of these items, or there was no memory
pub record IsPieceOf (answer : Delivered) (buf : List ℕ) (items : List Item) : Type 0 where
  pub told : answer ≡ piece_of (length (octets_of items)) (piece_told items)
  pub octets : take (length (octets_of items)) buf ≡ octets_of items

pub record IsLost (answer : Delivered) (buf : List ℕ) (f : EndpointValue) : Type 0 where
  pub none : items_read answer buf ≡ []
  pub spent : f.spent ≡ true

piece_or_lost : (a : Delivered) (now : ℕ) (items : List Item) (event : Event (Unit {0})) (buf : List ℕ) (e f : EndpointValue) → ReadDoes a now items event buf e f → IsPieceOf a buf items ⊎ IsLost a buf f
piece_or_lost piece.NoMemory now items event buf e f h = inr (record { none = refl; spent = h.spent })
piece_or_lost (piece.Read len run begin end) now items event buf e f h = inl (record { told = h.0; octets = h.1 })
piece_or_lost piece.Nothing now items event buf e f h = inl (record { told = h.0; octets = h.1 })
piece_or_lost piece.Spent now items event buf e f h = inl (record { told = h.0; octets = h.1 })
piece_or_lost piece.BadFlow now items event buf e f h = inl (record { told = h.0; octets = h.1 })
piece_or_lost piece.NoRoom now items event buf e f h = inl (record { told = h.0; octets = h.1 })

-- it is of a flow that ends at the endpoint's node and comes from another
pub record ReadsTo (answer : Delivered) (now : ℕ) (flow : Flow) (room : ℕ) (buf : List ℕ) (e f : EndpointValue) : Type 0 where
  pub unspent : e.spent ≡ false
  pub to : flow.to.0 ≡ e.state.host.me
  pub from : (flow.from.0 == e.state.host.me) ≡ false
  pub ends : Ends now (Read flow room) e f
  pub answered : IsPieceOf answer buf (read_answer now flow room e) ⊎ IsLost answer buf f

pub read_comes_to : (answer : Delivered) (now : ℕ) (flow : Flow) (room : ℕ) (buf : List ℕ) (e f : EndpointValue) → Reads answer now flow room buf e f → ReadIsRefused answer buf e f ⊎ ReadsTo answer now flow room buf e f
read_comes_to answer now flow room buf e f h =
    by_cases (done_or_same (first_refusal (read_refusals flow room e)) answer e f (ReadDoes answer now (read_answer now flow room e) (Read flow room) buf e f) h)
  where
    ends : (a : Delivered) → ReadDoes a now (read_answer now flow room e) (Read flow room) buf e f → Ends now (Read flow room) e f
    ends piece.NoMemory k = inr k
    ends (piece.Read len run begin end) k = inl k.2
    ends piece.Nothing k = inl k.2
    ends piece.Spent k = inl k.2
    ends piece.BadFlow k = inl k.2
    ends piece.NoRoom k = inl k.2

    by_cases : IsRefused (first_refusal (read_refusals flow room e)) answer e f ⊎ ((first_refusal (read_refusals flow room e) ≡ None) × ReadDoes answer now (read_answer now flow room e) (Read flow room) buf e f) → ReadIsRefused answer buf e f ⊎ ReadsTo answer now flow room buf e f
    by_cases (inl refused) =
        let all : AllAnswers ReadsNone (read_refusals flow room e) = (tt, (tt, (tt, tt))) in
        inl (record { same = refused.same; none = none_read answer buf (refusal_is ReadsNone (read_refusals flow room e) answer all refused.because) })
    by_cases (inr k) =
        let other = not (flow.to.0 == e.state.host.me) || (flow.from.0 == e.state.host.me) in
        let first = passed (e.spent, piece.Spent) ((other, piece.BadFlow) ∷ (room == 0, piece.NoRoom) ∷ []) k.0 in
        let second = passed (other, piece.BadFlow) ((room == 0, piece.NoRoom) ∷ []) first.1 in
        let parts = no_part (not (flow.to.0 == e.state.host.me)) (flow.from.0 == e.state.host.me) second.0 in
        inr (record { unspent = first.0; to = nat_is flow.to.0 e.state.host.me (not_false (flow.to.0 == e.state.host.me) parts.0); from = parts.1; ends = ends answer k.1; answered = piece_or_lost answer now (read_answer now flow room e) (Read flow room) buf e f k.1 })

-- A DATAGRAM, that has more life than it waited
pub record Admits (now link : ℕ) (datagram : List ℕ) (waited : ℕ) (e f : EndpointValue) : Type 0 where
  pub clear : arrive_refusal link datagram waited e ≡ None
  pub unspent : e.spent ≡ false
  pub below : waited < life_of datagram
  pub ends : Ends now (arrive_event link datagram waited) e f

unspent_if : (link : ℕ) (datagram : List ℕ) (waited : ℕ) (e : EndpointValue) → arrive_refusal link datagram waited e ≡ None → (e.spent ≡ false) × (arrive_fault waited datagram (gram_fault datagram) ≡ None)
unspent_if link datagram waited e h =
    elim (cases_Bool e.spent) [
      | inl y ↦ let some : Some arrived.Spent ≡ None = rw y at h in absurd cc
      | inr n ↦
          let rest : (if has_link link e.state.relay.ins then arrive_fault waited datagram (gram_fault datagram) else Some arrived.NoLink) ≡ None = rw n at h in
          elim (cases_Bool (has_link link e.state.relay.ins)) [
            | inl y ↦ (n, rw y at rest)
            | inr o ↦ let some : Some arrived.NoLink ≡ None = rw o at rest in absurd cc
          ]
    ]

fresh_if : (waited : ℕ) (datagram : List ℕ) (o : Option LayoutFault) → arrive_fault waited datagram o ≡ None → waited < life_of datagram
fresh_if waited datagram (Some fault) h = absurd cc
fresh_if waited datagram None h =
    elim (cases_Bool (nat_le (life_of datagram) waited)) [
      | inl y ↦ let some : Some arrived.Stale ≡ None = rw y at h in absurd cc
      | inr n ↦ grind (arith, nat_tests)
    ]

pub arrival_comes_to : (answer : Received) (now link : ℕ) (datagram : List ℕ) (waited : ℕ) (e f : EndpointValue) → Arrives answer now link datagram waited e f → IsStill e f ⊎ Admits now link datagram waited e f
arrival_comes_to answer now link datagram waited e f h =
    by_cases (done_or_same (arrive_refusal link datagram waited e) answer (with_refused e) f (ArriveDoes answer now (arrive_event link datagram waited) e f) h)
  where
    ends : (a : Received) → ArriveDoes a now (arrive_event link datagram waited) e f → Ends now (arrive_event link datagram waited) e f
    ends arrived.NoMemory k = inr k
    ends arrived.Done k = inl k.1
    ends arrived.Spent k = inl k.1
    ends arrived.NoLink k = inl k.1
    ends (arrived.Bad fault) k = inl k.1
    ends arrived.Stale k = inl k.1

    by_cases : IsRefused (arrive_refusal link datagram waited e) answer (with_refused e) f ⊎ ((arrive_refusal link datagram waited e ≡ None) × ArriveDoes answer now (arrive_event link datagram waited) e f) → IsStill e f ⊎ Admits now link datagram waited e f
    by_cases (inl refused) = inl (refused_is_still e f refused.same)
    by_cases (inr k) =
        let u = unspent_if link datagram waited e k.0 in
        inr (record { clear = k.0; unspent = u.0; below = fresh_if waited datagram (gram_fault datagram) u.1; ends = ends answer k.1 })

-- A ROUTE, that is added or not
pub route_comes_to : (answer : Routed) (route : Route) (e f : EndpointValue) → AddsRoute answer route e f → (f ≡ e) ⊎ (f ≡ with_route route e)
route_comes_to answer route e f h = by_cases (done_or_same (first_refusal (route_refusals route e)) answer e f (RouteDoes answer route e f) h)
  where
    done : (a : Routed) → RouteDoes a route e f → (f ≡ e) ⊎ (f ≡ with_route route e)
    done routed.NoMemory k = inl k
    done routed.Done k = inr k.1
    done routed.Spent k = inr k.1
    done routed.NoLink k = inr k.1
    done routed.Known k = inr k.1

    by_cases : IsRefused (first_refusal (route_refusals route e)) answer e f ⊎ ((first_refusal (route_refusals route e) ≡ None) × RouteDoes answer route e f) → (f ≡ e) ⊎ (f ≡ with_route route e)
    by_cases (inl refused) = inl refused.same
    by_cases (inr k) = done answer k.1
