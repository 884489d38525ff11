-- Each call that a turn tells unsure has its cause, and none that waits after it has one.
use Rattle.std.proofs.Common.{ℕ, zero, suc, ◌-◌, ◌≡◌, ◌⊎◌, Bool, true, false, List, [], ◌∷◌, ◌++◌, take, Option, Some, None, refl, ap, sym, subst, ◌∙◌, inl, inr, append_assoc, append-nil, arith}
use Rattle.std.specs.Prelude.{◌&&◌, ◌||◌, All, Contains, cond, fold, is_some, nat_lt, replicate}
use Rattle.std.specs.List.{position}
use Rattle.std.proofs.lemmas.Bool.{and_parts, cases_Bool}
use Rattle.std.proofs.lemmas.Bool.Decides.{nat_tests}
use Rattle.std.proofs.lemmas.List.Elements.{All-append, All-cons, All-head, All-nil, All-tail, All-weaker, Contains-append_left}
use Rattle.std.proofs.lemmas.List.Sums.{fold-append}
use Rattle.dt_units.specs.declared.endpoints.Flow.{Flow}
use Rattle.dt_reports.specs.Told.{Told}
use Rattle.dt_world_model.specs.Station.{Event, Read}
use Rattle.dt_world_model.specs.Tables.{same_flow}
use Rattle.dt_calls_model.specs.Messages.{Piece, carried_in, has_number, number_in, reversed}
use Rattle.dt_messages.specs.Joining.{whole_within}
use Rattle.dt_endpoint.specs.Endpoints.{after_event}
use Rattle.dt_service_model.specs.declared.calls.OpenCall.{OpenCall}
use Rattle.dt_service_model.specs.declared.happenings.Happening.TheVariants.{Request}
use Rattle.dt_service_model.specs.declared.names.CallNumber.{CallNumber}
use Rattle.dt_service_model.specs.declared.ports.PortKind.{PortKind}
use Rattle.dt_service_model.specs.declared.ports.PortKind.TheVariants.{Caller, Service}
use Rattle.dt_service_model.specs.Asked.{with_call}
use Rattle.dt_service_model.specs.CallBook.{CallBook, counted_up, kind_in, longest_message}
use Rattle.dt_service_model.specs.Hearing.{Accepts, GivesUp, Heard, NoMatter, Settles, hear, hear_all, hear_as, heard, with_fate, with_fates, with_flow}
use Rattle.dt_service_model.specs.Names.{from_u64, token_with}
use Rattle.dt_service_model.specs.Turns.{Node, done_with, happens, most_read, sweep, with_book}
use Rattle.dt_service_model.specs.Whole.{answered_at, begun_of, grown, is_open, is_waiting_call, take_as, take_piece, take_reply_at, take_whole, without_token}
use Rattle.dt_service_laws.specs.Causes.{IsOfTurn, LeavesCalls, WasGivenUp, Within, changes, hears, itself, makes, moment_told, of_read, owners, takes}
use Rattle.dt_service_laws.specs.Services.{Deed, MakesCall}
use Rattle.dt_service_laws.proofs.Answering.{contains_first, contains_more, contains_parts}
use Rattle.dt_service_model.proofs.Growing.{Tells, happens_tells, piece_tells, tells_same, tells_through}
use Rattle.dt_service_model.proofs.Walking.{IsKept, read_through, reads_kept}

-- WITHIN A TURN
pub within_then : {deed : Deed} {x y z : Node} → Within deed x y → Within deed y z → Within deed x z
within_then itself k = k
within_then (makes f count deadline asked h) k = makes f count deadline asked (within_then h k)
within_then (hears event may h) k = hears event may (within_then h k)
within_then (takes f piece h) k = takes f piece (within_then h k)
within_then (changes h same more) k = changes h same (within_then more k)

given_on : (deed : Deed) (x y z : Node) (n : CallNumber) → WasGivenUp deed x y n → Within deed y z → WasGivenUp deed x z n
given_on deed x y z n g h = record {
  at = g.at;
  before = g.before;
  event = g.event;
  of_turn = g.of_turn;
  first = g.first;
  told = g.told;
  rest = g.rest;
  reports = g.reports;
  flow = g.flow;
  count = g.count;
  gives_up = g.gives_up;
  among = g.among;
  after = within_then g.after h;
}

-- CALLS THAT ARE DOUBTED, by what holds of their numbers
abbrev pub HasReason : (CallNumber → Type 0) → OpenCall → Type 0
HasReason P call = call.has_given_up ≡ true → P call.number

-- the first octets of an owner and those after them
taken_first : (count left : ℕ) (n : CallNumber) (rest : List CallNumber) → nat_lt 0 count ≡ true → nat_lt 0 left ≡ true → Contains (take count (replicate left n ++ rest)) n
taken_first zero left n rest some more = absurd cc
taken_first (suc count) zero n rest some more = absurd cc
taken_first (suc count) (suc left) n rest some more = contains_first n n (take count (replicate left n ++ rest)) refl

taken_later : (count left : ℕ) (n m : CallNumber) (rest : List CallNumber) → Contains (take (count - left) rest) m → Contains (take count (replicate left n ++ rest)) m
taken_later count zero n m rest there = (let e : count - 0 ≡ count = omega arith in subst (λ (k : ℕ). Contains (take k rest) m) e there)
taken_later zero (suc left) n m rest there = (let e : 0 - suc left ≡ 0 = omega arith in let none : Contains (take 0 rest) m = subst (λ (k : ℕ). Contains (take k rest) m) e there in absurd (let lt = none.1 in omega (arith, lt)))
taken_later (suc count) (suc left) n m rest there =
    let e : suc count - suc left ≡ count - left = omega arith in
    contains_more n m (take count (replicate left n ++ rest)) (taken_later count left n m rest (subst (λ (k : ℕ). Contains (take k rest) m) e there))

fate_reason : (P : CallNumber → Type 0) (given_up : Bool) (count : ℕ) (call : OpenCall) (rest : List CallNumber) → HasReason P call → ((n : CallNumber) → given_up ≡ true → Contains (take count (replicate call.left call.number ++ rest)) n → P n) → HasReason P (with_fate given_up count call)
fate_reason P given_up count call rest was new has_given_up =
    elim (cases_Bool call.has_given_up) [
      | inl y ↦ was y
      | inr o ↦
          let now : (given_up && nat_lt 0 count && nat_lt 0 call.left) ≡ true = subst (λ (b : Bool). (b || (given_up && nat_lt 0 count && nat_lt 0 call.left)) ≡ true) o has_given_up in
          let p = and_parts (given_up && nat_lt 0 count) (nat_lt 0 call.left) now in
          let q = and_parts given_up (nat_lt 0 count) p.0 in
          new call.number q.0 (taken_first count call.left call.number rest q.1 p.1)
    ]

fates_reason : (P : CallNumber → Type 0) (given_up : Bool) (f : Flow) (count : ℕ) (cs : List OpenCall) → All (HasReason P) cs → ((n : CallNumber) → given_up ≡ true → Contains (take count (owners f cs)) n → P n) → All (HasReason P) (with_fates given_up f count cs)
fates_reason P given_up f count [] all new = All-nil (HasReason P)
fates_reason P given_up f count (call ∷ cs) all new =
    by_flow (same_flow call.flow f) new (λ more. fates_reason P given_up f (count - call.left) cs (All-tail (HasReason P) call cs all) more) (λ more. fates_reason P given_up f count cs (All-tail (HasReason P) call cs all) more)
  where
    by_flow : (b : Bool) → ((n : CallNumber) → given_up ≡ true → Contains (take count (cond b (replicate call.left call.number ++ owners f cs) (owners f cs))) n → P n)
        → (((n : CallNumber) → given_up ≡ true → Contains (take (count - call.left) (owners f cs)) n → P n) → All (HasReason P) (with_fates given_up f (count - call.left) cs))
        → (((n : CallNumber) → given_up ≡ true → Contains (take count (owners f cs)) n → P n) → All (HasReason P) (with_fates given_up f count cs))
        → All (HasReason P) (cond b (with_fate given_up count call ∷ with_fates given_up f (count - call.left) cs) (call ∷ with_fates given_up f count cs))
    by_flow true new here other =
        All-cons (HasReason P) (with_fate given_up count call) _ (fate_reason P given_up count call (owners f cs) (All-head (HasReason P) call cs all) new)
        (here (λ n g there. new n g (taken_later count call.left call.number n (owners f cs) there)))
    by_flow false new here other = All-cons (HasReason P) call _ (All-head (HasReason P) call cs all) (other new)

-- WHAT IS HEARD, report by report
same_calls : (P : CallNumber → Type 0) (cs ds : List OpenCall) → ds ≡ cs → All (HasReason P) cs → All (HasReason P) ds
same_calls P cs ds same all = subst (λ (es : List OpenCall). All (HasReason P) es) (sym same) all

accepted_calls : (b : Bool) (f : Flow) (h : CallBook) → (cond b (record h { unread = with_flow f h.unread }) h).calls ≡ h.calls
accepted_calls true f h = refl
accepted_calls false f h = refl

hear_reasons : (P : CallNumber → Type 0) (what : Heard) (h : CallBook) → All (HasReason P) h.calls → ((f : Flow) (count : ℕ) (n : CallNumber) → what ≡ GivesUp f count → Contains (take count (owners f h.calls)) n → P n) → All (HasReason P) (hear_as what h).calls
hear_reasons P (Settles f count) h all new = fates_reason P false f count h.calls all (λ n g there. absurd cc)
hear_reasons P (GivesUp f count) h all new = fates_reason P true f count h.calls all (λ n g there. new f count n refl there)
hear_reasons P (Accepts f) h all new = same_calls P h.calls _ (accepted_calls (is_some (kind_in f.to_port h.ports)) f h) all
hear_reasons P NoMatter h all new = all

module _ (deed : Deed) (x at : Node) (event : Event (Unit {0})) (may : IsOfTurn deed event) (before : Within deed x at) where
  abbrev Given : CallNumber → Type 0
  Given n = WasGivenUp deed x (happens (moment_told deed) event at) n

  told_reasons : (first rest : List Told) → (after_event (moment_told deed) event at.endpoint).reports ≡ first ++ rest → All (HasReason Given) (hear_all first at.book).calls → All (HasReason Given) (hear_all (first ++ rest) at.book).calls
  told_reasons first [] is all = same_calls Given (hear_all first at.book).calls _ (ap (λ (rs : List Told). (hear_all rs at.book).calls) (append-nil first)) all
  told_reasons first (r ∷ rest) is all =
      let h = hear_all first at.book in
      let one : hear_all (first ++ r ∷ []) at.book ≡ hear h r = fold-append hear at.book first (r ∷ []) in
      let next = hear_reasons Given (heard r) h all (λ f count n gives there. record { at = at; before = before; event = event; of_turn = may; first = first; told = r; rest = rest; reports = is; flow = f; count = count; gives_up = gives; among = there; after = itself }) in
      let split : (first ++ r ∷ []) ++ rest ≡ first ++ r ∷ rest = append_assoc first (r ∷ []) rest in
      let more = told_reasons (first ++ r ∷ []) rest (is ∙ sym split) (same_calls Given (hear h r).calls _ (ap (λ (k : CallBook). k.calls) one) next) in
      same_calls Given _ _ (ap (λ (rs : List Told). (hear_all rs at.book).calls) (sym split)) more

-- A NODE WITHIN A TURN: a call that has given up has a reason in it
pub record Reasons (deed : Deed) (x y : Node) : Type 0 where
  pub within : Within deed x y
  pub reasons : All (HasReason (WasGivenUp deed x y)) y.book.calls

pub reasons_hear : (deed : Deed) (x y : Node) (event : Event (Unit {0})) → IsOfTurn deed event → Reasons deed x y → Reasons deed x (happens (moment_told deed) event y)
reasons_hear deed x y event may d =
    let z = happens (moment_told deed) event y in
    let on : Within deed y z = hears event may itself in
    record {
      within = within_then d.within on;
      reasons = told_reasons deed x y event may d.within [] (after_event (moment_told deed) event y.endpoint).reports refl
          (All-weaker (HasReason (WasGivenUp deed x y)) (HasReason (WasGivenUp deed x z)) (λ call was has_given_up. given_on deed x y z call.number (was has_given_up) on) y.book.calls d.reasons);
    }

-- calls that stay
pub reasons_stay : (deed : Deed) (x y : Node) (h : CallBook) → LeavesCalls y.book h → Reasons deed x y → Reasons deed x (record y { book = h })
reasons_stay deed x y h same d =
    let z : Node = record y { book = h } in
    let on : Within deed y z = changes h same itself in
    record {
      within = within_then d.within on;
      reasons = same_calls (WasGivenUp deed x z) y.book.calls h.calls same.calls (All-weaker (HasReason (WasGivenUp deed x y)) (HasReason (WasGivenUp deed x z)) (λ call was has_given_up. given_on deed x y z call.number (was has_given_up) on) y.book.calls d.reasons);
    }

-- a call that is made has given up nothing
pub reasons_call : (deed : Deed) {now patience : ℕ} {payload : List ℕ} (x y : Node) (f : Flow) (count deadline : ℕ) → deed ≡ MakesCall now f payload patience → Reasons deed x y → Reasons deed x (with_book (with_call f count deadline) y)
reasons_call deed x y f count deadline asked d =
    let z = with_book (with_call f count deadline) y in
    let on : Within deed y z = makes f count deadline asked itself in
    record {
      within = within_then d.within on;
      reasons = All-append (HasReason (WasGivenUp deed x z)) y.book.calls _ (All-weaker (HasReason (WasGivenUp deed x y)) (HasReason (WasGivenUp deed x z)) (λ call was has_given_up. given_on deed x y z call.number (was has_given_up) on) y.book.calls d.reasons)
          (All-cons (HasReason (WasGivenUp deed x z)) _ [] (λ has_given_up. absurd cc) (All-nil (HasReason (WasGivenUp deed x z))));
    }

-- a piece may end a call, and makes none give up
answered_reasons : (P : CallNumber → Type 0) (place : ℕ) (cs : List OpenCall) → All (HasReason P) cs → All (HasReason P) (answered_at place cs)
answered_reasons P place [] all = All-nil (HasReason P)
answered_reasons P zero (call ∷ cs) all = All-cons (HasReason P) _ cs (All-head (HasReason P) call cs all) (All-tail (HasReason P) call cs all)
answered_reasons P (suc place) (call ∷ cs) all = All-cons (HasReason P) call _ (All-head (HasReason P) call cs all) (answered_reasons P place cs (All-tail (HasReason P) call cs all))

-- what a piece leaves of calls: the same, or one of them has ended
whole_calls : (P : List OpenCall → Type 0) (f : Flow) (o : Option (List ℕ)) (h : CallBook) → P h.calls → ((place : ℕ) → P (answered_at place h.calls)) → P (take_whole f o h).calls
whole_calls P f None h same ended = same
whole_calls P f (Some m) h same ended = by_number (has_number m)
  where
    by_place : (o : Option ℕ) → P (take_reply_at o (from_u64 (number_in m)) (carried_in m) h).calls
    by_place None = same
    by_place (Some place) = ended place

    by_open : (b : Bool) → let token = token_with f (from_u64 (number_in m)) in P (cond b (record h { tokens = without_token token h.tokens; counts = record (h.counts) { reused = counted_up h.counts.reused } }) (record h { tokens = h.tokens ++ token ∷ []; happenings = h.happenings ++ Request token (carried_in m) ∷ [] })).calls
    by_open true = same
    by_open false = same

    by_kind : (kind : Option PortKind) → P (take_as kind f (from_u64 (number_in m)) (carried_in m) h).calls
    by_kind None = same
    by_kind (Some Caller) = by_place (position (is_waiting_call (reversed f) (from_u64 (number_in m))) h.calls)
    by_kind (Some Service) = by_open (is_open (token_with f (from_u64 (number_in m))) h)

    by_number : (b : Bool) → P (cond b (take_as (kind_in f.to_port h.ports) f (from_u64 (number_in m)) (carried_in m) h) (record h { counts = record (h.counts) { short = counted_up h.counts.short } })).calls
    by_number true = by_kind (kind_in f.to_port h.ports)
    by_number false = same

pub piece_calls : (P : List OpenCall → Type 0) (f : Flow) (p : Piece) (h : CallBook) → P h.calls → ((place : ℕ) → P (answered_at place h.calls)) → P (take_piece f p h).calls
piece_calls P f p h same ended = whole_calls P f (whole_within (Some longest_message) (begun_of f h) p) (grown f (begun_of f h) p h) same ended

reasons_take : (deed : Deed) (x y : Node) (f : Flow) (p : Piece) → Reasons deed x y → Reasons deed x (with_book (take_piece f p) y)
reasons_take deed x y f p d =
    let z = with_book (take_piece f p) y in
    let on : Within deed y z = takes f p itself in
    record {
      within = within_then d.within on;
      reasons = (let all = All-weaker (HasReason (WasGivenUp deed x y)) (HasReason (WasGivenUp deed x z)) (λ call was has_given_up. given_on deed x y z call.number (was has_given_up) on) y.book.calls d.reasons in piece_calls (λ (cs : List OpenCall). All (HasReason (WasGivenUp deed x z)) cs) f p y.book all (λ place. answered_reasons (WasGivenUp deed x z) place y.book.calls all));
    }

reasons_kept : (deed : Deed) (x : Node) → IsKept (moment_told deed) (λ (y z : Node). Reasons deed x y → Reasons deed x z)
reasons_kept deed x = record {
  itself = λ y d. d;
  through = λ u v w one two d. two (one d);
  hears = λ f y d. reasons_hear deed x y (Read f most_read) (of_read f) d;
  done = λ f y d. reasons_stay deed x y (done_with f y.book) (record { calls = refl; happenings = refl; closed = refl }) d;
  takes = λ f p y d. reasons_take deed x y f p d;
  swept = λ y d. reasons_stay deed x y (sweep y.endpoint.state.host y.book) (record { calls = refl; happenings = refl; closed = refl }) d;
}

pub reasons_read : (deed : Deed) (x y : Node) → Reasons deed x y → Reasons deed x (read_through (moment_told deed) y)
reasons_read deed x y d = reads_kept (moment_told deed) (λ (u v : Node). Reasons deed x u → Reasons deed x v) (reasons_kept deed x) y d

pub reasons_begin : (deed : Deed) (x : Node) → All (λ (c : OpenCall). c.has_given_up ≡ false) x.book.calls → Reasons deed x x
reasons_begin deed x sure = record { within = itself; reasons = All-weaker (λ (c : OpenCall). c.has_given_up ≡ false) (HasReason (WasGivenUp deed x x)) (λ call calm has_given_up. absurd cc) x.book.calls sure }

-- WITHIN A TURN nothing is told of unsure calls, and a call that has given up stays so
pub within_tells : {deed : Deed} {x y : Node} → Within deed x y → Tells x.book y.book
within_tells (itself {x}) = tells_same x.book x.book refl refl
within_tells (makes {x} {y} f count deadline asked more) = let h = with_call f count deadline x.book in tells_through x.book h y.book (tells_same x.book h refl refl) (within_tells more)
within_tells {deed} (hears {x} {y} event may more) = tells_through x.book (happens (moment_told deed) event x).book y.book (happens_tells (moment_told deed) event x) (within_tells more)
within_tells (takes {x} {y} f piece more) = tells_through x.book (take_piece f piece x.book) y.book (piece_tells f piece x.book) (within_tells more)
within_tells (changes {x} {y} h leaves more) = tells_through x.book h y.book (tells_same x.book h leaves.closed leaves.happenings) (within_tells more)

pub record HasGivenUp (n : CallNumber) (cs : List OpenCall) : Type 0 where
  pub call : OpenCall
  pub there : Contains cs call
  pub number : call.number ≡ n
  pub has_given_up : call.has_given_up ≡ true

given_up_more : (n : CallNumber) (call : OpenCall) (cs : List OpenCall) → HasGivenUp n cs → HasGivenUp n (call ∷ cs)
given_up_more n call cs h = record { call = h.call; there = contains_more call h.call cs h.there; number = h.number; has_given_up = h.has_given_up }

given_up_first : (n : CallNumber) (call : OpenCall) (cs : List OpenCall) → call.number ≡ n → call.has_given_up ≡ true → HasGivenUp n (call ∷ cs)
given_up_first n call cs number has_given_up = record { call = call; there = contains_first call call cs refl; number = number; has_given_up = has_given_up }

-- a call by itself, or among those after it
given_up_parts : (n : CallNumber) (call : OpenCall) (cs : List OpenCall) → HasGivenUp n (call ∷ cs) → ((call.number ≡ n) × (call.has_given_up ≡ true)) ⊎ HasGivenUp n cs
given_up_parts n call cs h =
    elim (contains_parts call h.call cs h.there) [
      | inl same ↦ inl (ap (λ (c : OpenCall). c.number) same ∙ h.number, ap (λ (c : OpenCall). c.has_given_up) same ∙ h.has_given_up)
      | inr more ↦ inr (record { call = h.call; there = more; number = h.number; has_given_up = h.has_given_up })
    ]

fates_stay : (n : CallNumber) (given_up : Bool) (f : Flow) (count : ℕ) (cs : List OpenCall) → HasGivenUp n cs → HasGivenUp n (with_fates given_up f count cs)
fates_stay n given_up f count [] h = h
fates_stay n given_up f count (call ∷ cs) h = by_flow (same_flow call.flow f) (given_up_parts n call cs h) (λ d. fates_stay n given_up f (count - call.left) cs d) (λ d. fates_stay n given_up f count cs d)
  where
    by_flow : (b : Bool) → ((call.number ≡ n) × (call.has_given_up ≡ true)) ⊎ HasGivenUp n cs → (HasGivenUp n cs → HasGivenUp n (with_fates given_up f (count - call.left) cs)) → (HasGivenUp n cs → HasGivenUp n (with_fates given_up f count cs))
        → HasGivenUp n (cond b (with_fate given_up count call ∷ with_fates given_up f (count - call.left) cs) (call ∷ with_fates given_up f count cs))
    by_flow true (inl first) here other = given_up_first n (with_fate given_up count call) _ first.0 (ap (λ (b : Bool). b || (given_up && nat_lt 0 count && nat_lt 0 call.left)) first.1)
    by_flow true (inr more) here other = given_up_more n (with_fate given_up count call) _ (here more)
    by_flow false (inl first) here other = given_up_first n call _ first.0 first.1
    by_flow false (inr more) here other = given_up_more n call _ (other more)

hear_stay : (n : CallNumber) (what : Heard) (h : CallBook) → HasGivenUp n h.calls → HasGivenUp n (hear_as what h).calls
hear_stay n (Settles f count) h d = fates_stay n false f count h.calls d
hear_stay n (GivesUp f count) h d = fates_stay n true f count h.calls d
hear_stay n (Accepts f) h d = subst (HasGivenUp n) (sym (accepted_calls (is_some (kind_in f.to_port h.ports)) f h)) d
hear_stay n NoMatter h d = d

told_stay : (n : CallNumber) (told : List Told) (h : CallBook) → HasGivenUp n h.calls → HasGivenUp n (fold hear h told).calls
told_stay n [] h d = d
told_stay n (r ∷ told) h d = told_stay n told (hear h r) (hear_stay n (heard r) h d)

answered_stay : (n : CallNumber) (place : ℕ) (cs : List OpenCall) → HasGivenUp n cs → HasGivenUp n (answered_at place cs)
answered_stay n place [] h = h
answered_stay n zero (call ∷ cs) h = elim (given_up_parts n call cs h) [ inl here ↦ given_up_first n _ cs here.0 here.1 | inr more ↦ given_up_more n _ cs more ]
answered_stay n (suc place) (call ∷ cs) h = elim (given_up_parts n call cs h) [ inl here ↦ given_up_first n call _ here.0 here.1 | inr more ↦ given_up_more n call _ (answered_stay n place cs more) ]

within_stay : (n : CallNumber) {deed : Deed} {x y : Node} → Within deed x y → HasGivenUp n x.book.calls → HasGivenUp n y.book.calls
within_stay n itself d = d
within_stay n (makes {x} f count deadline asked more) d = within_stay n more (record { call = d.call; there = Contains-append_left x.book.calls _ d.call d.there; number = d.number; has_given_up = d.has_given_up })
within_stay n {deed} (hears {x} event may more) d = within_stay n more (told_stay n (after_event (moment_told deed) event x.endpoint).reports x.book d)
within_stay n (takes {x} f piece more) d = within_stay n more (piece_calls (HasGivenUp n) f piece x.book d (λ place. answered_stay n place x.book.calls d))
within_stay n (changes {x} h leaves more) d = within_stay n more (subst (HasGivenUp n) (sym leaves.calls) d)

-- A CALL OF WHICH AN OCTET IS GIVEN UP has given up
some : (k : ℕ) → nat_lt 0 (suc k) ≡ true
some k = grind (arith, nat_tests)

owned : (count left : ℕ) (n m : CallNumber) (rest : List CallNumber) → Contains (take count (replicate left n ++ rest)) m → ((n ≡ m) × (nat_lt 0 count ≡ true) × (nat_lt 0 left ≡ true)) ⊎ Contains (take (count - left) rest) m
owned count zero n m rest there = (let e : count ≡ count - 0 = omega arith in inr (subst (λ (k : ℕ). Contains (take k rest) m) e there))
owned zero (suc left) n m rest there = absurd (let lt = there.1 in omega (arith, lt))
owned (suc count) (suc left) n m rest there =
    elim (contains_parts n m (take count (replicate left n ++ rest)) there) [
      | inl same ↦ inl (same, some count, some left)
      | inr more ↦ elim (owned count left n m rest more) [
        | inl here ↦ inl (here.0, some count, some left)
        | inr later ↦ (let e : count - left ≡ suc count - suc left = omega arith in inr (subst (λ (k : ℕ). Contains (take k rest) m) e later))
      ]
    ]

or_true : (b : Bool) → (b || true) ≡ true
or_true true = refl
or_true false = refl

taken_given_up : (n : CallNumber) (f : Flow) (count : ℕ) (cs : List OpenCall) → Contains (take count (owners f cs)) n → HasGivenUp n (with_fates true f count cs)
taken_given_up n f count [] there = absurd (none_taken count there)
  where
    none_taken : (k : ℕ) → Contains (take k []) n → ⊥
    none_taken zero there = (let lt = there.1 in omega (arith, lt))
    none_taken (suc k) there = (let lt = there.1 in omega (arith, lt))
taken_given_up n f count (call ∷ cs) there = by_flow (same_flow call.flow f) there (λ more. taken_given_up n f (count - call.left) cs more) (λ more. taken_given_up n f count cs more)
  where
    by_flow : (b : Bool) → Contains (take count (cond b (replicate call.left call.number ++ owners f cs) (owners f cs))) n → (Contains (take (count - call.left) (owners f cs)) n → HasGivenUp n (with_fates true f (count - call.left) cs)) → (Contains (take count (owners f cs)) n → HasGivenUp n (with_fates true f count cs))
        → HasGivenUp n (cond b (with_fate true count call ∷ with_fates true f (count - call.left) cs) (call ∷ with_fates true f count cs))
    by_flow true there here other =
        elim (owned count call.left call.number n (owners f cs) there) [
          | inl first ↦
              let now : (nat_lt 0 count && nat_lt 0 call.left) ≡ true = ap (λ (b : Bool). b && nat_lt 0 call.left) first.1 ∙ first.2 in
              given_up_first n (with_fate true count call) _ first.0 (ap (λ (b : Bool). call.has_given_up || b) now ∙ or_true call.has_given_up)
          | inr later ↦ given_up_more n (with_fate true count call) _ (here later)
        ]
    by_flow false there here other = given_up_more n call _ (other there)

pub given_stays : (deed : Deed) (x y : Node) (n : CallNumber) → WasGivenUp deed x y n → HasGivenUp n y.book.calls
given_stays deed x y n g =
    let h = hear_all g.first g.at.book in
    let now : HasGivenUp n (hear h g.told).calls = subst (λ (what : Heard). HasGivenUp n (hear_as what h).calls) (sym g.gives_up) (taken_given_up n g.flow g.count h.calls g.among) in
    let split : fold hear g.at.book (g.first ++ g.told ∷ g.rest) ≡ fold hear (hear h g.told) g.rest = fold-append hear g.at.book g.first (g.told ∷ g.rest) in
    let behind : HasGivenUp n (fold hear g.at.book (g.first ++ g.told ∷ g.rest)).calls = subst (λ (k : CallBook). HasGivenUp n k.calls) (sym split) (told_stay n g.rest (hear h g.told) now) in
    within_stay n g.after (subst (λ (rs : List Told). HasGivenUp n (fold hear g.at.book rs).calls) (sym g.reports) behind)
