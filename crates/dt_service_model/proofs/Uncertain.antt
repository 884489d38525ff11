-- A flow is told uncertain where a reply to it was given up, and once.
use Rattle.std.proofs.Common.{ℕ, ◌+◌, ◌≡◌, ◌≤◌, Bool, true, false, List, [], ◌∷◌, ◌++◌, refl, ap, subst, ◌∙◌, arith}
use Rattle.std.specs.Prelude.{◌||◌, cond, is_some, fold, filter_map, Option, Some, None}
use Rattle.std.specs.List.{cons_option, list_any, position}
use Rattle.dt_units.specs.declared.endpoints.Flow.{Flow}
use Rattle.dt_reports.specs.Told.{Told}
use Rattle.dt_world_model.specs.Host.{one_if}
use Rattle.dt_world_model.specs.Station.{Event, Read}
use Rattle.dt_world_model.specs.Tables.{same_flow}
use Rattle.dt_calls_model.specs.Messages.{Piece, carried_in, has_number, number_in, reversed}
use Rattle.dt_messages.specs.Joining.{whole_within}
use Rattle.dt_endpoint.specs.Endpoints.{after_event}
use Rattle.dt_service_model.specs.declared.calls.OpenCall.{OpenCall}
use Rattle.dt_service_model.specs.declared.calls.Cause.{Cause}
use Rattle.dt_service_model.specs.declared.happenings.Happening.{Happening}
use Rattle.dt_service_model.specs.declared.happenings.Happening.TheVariants.{Answered, ReplyUncertain, Request, Unsure}
use Rattle.dt_service_model.specs.declared.names.CallNumber.{CallNumber}
use Rattle.dt_service_model.specs.declared.names.Token.{Token}
use Rattle.dt_service_model.specs.declared.ports.PortKind.{PortKind}
use Rattle.dt_service_model.specs.declared.ports.PortKind.TheVariants.{Caller, Service}
use Rattle.dt_service_model.specs.Ends.{cause_of, judge, unsure_by, unsure_of}
use Rattle.dt_service_model.specs.CallBook.{CallBook, counted_up, is_service, kind_in, longest_message}
use Rattle.dt_service_model.specs.Hearing.{Accepts, GivesUp, Heard, NoMatter, Settles, hear, hear_as, heard, is_uncertain, told_given_up, with_flow, with_uncertain}
use Rattle.dt_service_model.specs.Names.{from_u64, token_with}
use Rattle.dt_service_model.specs.Turns.{Node, happens, most_read, turn, turn_end}
use Rattle.dt_service_model.specs.Uncertain.{GivesUpReply, uncertain_in}
use Rattle.dt_service_model.specs.Whole.{begun_of, grown, is_open, is_waiting_call, take_as, take_piece, take_reply_at, take_whole, without_token}
use Rattle.dt_world_model.proofs.Tables.{flow_is, flow_self}
use Rattle.dt_service_model.proofs.Walking.{IsKept, end_kept}

pub uncertain_append : (f : Flow) (xs ys : List Happening) → uncertain_in f (xs ++ ys) ≡ uncertain_in f xs + uncertain_in f ys
uncertain_append f [] ys = omega arith
uncertain_append f (x ∷ xs) ys = let e = uncertain_append f xs ys in omega (arith, e)

any_append : (f : Flow) (told : List Happening) (last : Happening) → list_any (is_uncertain f) (told ++ last ∷ []) ≡ (list_any (is_uncertain f) told || is_uncertain f last)
any_append f [] last = or_false (is_uncertain f last)
  where
    or_false : (b : Bool) → (b || false) ≡ b
    or_false true = refl
    or_false false = refl
any_append f (x ∷ told) last = ap (λ (b : Bool). is_uncertain f x || b) (any_append f told last) ∙ or_or (is_uncertain f x) (list_any (is_uncertain f) told) (is_uncertain f last)
  where
    or_or : (a b c : Bool) → (a || (b || c)) ≡ ((a || b) || c)
    or_or true b c = refl
    or_or false b c = refl

-- WHAT IS GIVEN UP IS TOLD
told_with : (f : Flow) (told : List Happening) (b : Bool) → list_any (is_uncertain f) told ≡ b → list_any (is_uncertain f) (cond b told (told ++ ReplyUncertain f ∷ [])) ≡ true
told_with f told true is = is
told_with f told false is = any_append f told (ReplyUncertain f) ∙ ap (λ (b : Bool). list_any (is_uncertain f) told || b) (flow_self f) ∙ or_true (list_any (is_uncertain f) told)
  where
    or_true : (b : Bool) → (b || true) ≡ true
    or_true true = refl
    or_true false = refl

pub given_up_is_told : (f : Flow) (count : ℕ) (h : CallBook) → is_service (kind_in f.from_port h.ports) ≡ true → list_any (is_uncertain (reversed f)) (hear_as (GivesUp f count) h).happenings ≡ true
given_up_is_told f count h of_service = rw of_service (told_with (reversed f) h.happenings (list_any (is_uncertain (reversed f)) h.happenings) refl)

-- AND NOTHING ELSE
new_with : (f g : Flow) (told : List Happening) (b : Bool) → list_any (is_uncertain f) told ≡ false → list_any (is_uncertain f) (cond b told (told ++ ReplyUncertain g ∷ [])) ≡ true → same_flow g f ≡ true
new_with f g told true none some = absurd cc
new_with f g told false none some = by_parts (list_any (is_uncertain f) told) (same_flow g f) none (cc (any_append f told (ReplyUncertain g)))
  where
    by_parts : (a b : Bool) → a ≡ false → (a || b) ≡ true → b ≡ true
    by_parts true b n s = absurd cc
    by_parts false b n s = s

alone_by : (f back : Flow) (count : ℕ) (h : CallBook) (b : Bool) → is_service (kind_in back.from_port h.ports) ≡ b → list_any (is_uncertain f) h.happenings ≡ false
    → list_any (is_uncertain f) (cond b (with_uncertain (reversed back) h.happenings) h.happenings) ≡ true → GivesUpReply f (GivesUp back count) h
alone_by f back count h true of_service none some = record {
  back = back;
  count = count;
  gives_up = refl;
  of_service = of_service;
  way = new_with f (reversed back) h.happenings (list_any (is_uncertain (reversed back)) h.happenings) none some;
}
alone_by f back count h false of_service none some = absurd cc

accepts_none : (f g : Flow) (b : Bool) (h : CallBook) → list_any (is_uncertain f) h.happenings ≡ false → list_any (is_uncertain f) (cond b (record h { unread = with_flow g h.unread }) h).happenings ≡ true → GivesUpReply f (Accepts g) h
accepts_none f g true h none some = absurd cc
accepts_none f g false h none some = absurd cc

pub told_as_given_up : (f : Flow) (what : Heard) (h : CallBook) → list_any (is_uncertain f) h.happenings ≡ false → list_any (is_uncertain f) (hear_as what h).happenings ≡ true → GivesUpReply f what h
told_as_given_up f (Settles g count) h none some = absurd cc
told_as_given_up f (GivesUp back count) h none some = alone_by f back count h (is_service (kind_in back.from_port h.ports)) refl none some
told_as_given_up f (Accepts g) h none some = accepts_none f g (is_some (kind_in g.to_port h.ports)) h none some
told_as_given_up f NoMatter h none some = absurd cc

-- ONCE. What isn't among them is added
none_more : (first rest : Bool) (n : ℕ) → (first || rest) ≡ false → (rest ≡ false → n ≡ 0) → one_if first + n ≡ 0
none_more true rest n none more = absurd cc
none_more false rest n none more = let e = more none in omega (arith, e)

none_in : (f : Flow) (told : List Happening) → list_any (is_uncertain f) told ≡ false → uncertain_in f told ≡ 0
none_in f [] none = refl
none_in f (x ∷ told) none = none_more (is_uncertain f x) (list_any (is_uncertain f) told) (uncertain_in f told) none (λ rest. none_in f told rest)

one_at_most : (b : Bool) → one_if b ≤ 1
one_at_most true = omega arith
one_at_most false = omega arith

once_with : (f g : Flow) (told : List Happening) (b : Bool) → list_any (is_uncertain g) told ≡ b → uncertain_in f told ≤ 1 → uncertain_in f (cond b told (told ++ ReplyUncertain g ∷ [])) ≤ 1
once_with f g told true is most = most
once_with f g told false is most = by_same (same_flow g f) refl
  where
    by_same : (s : Bool) → same_flow g f ≡ s → uncertain_in f (told ++ ReplyUncertain g ∷ []) ≤ 1
    by_same true same =
        let none = none_in f told (subst (λ (x : Flow). list_any (is_uncertain x) told ≡ false) (flow_is g f same) is) in
        let e = uncertain_append f told (ReplyUncertain g ∷ []) in
        let l = one_at_most (same_flow g f) in
        omega (arith, none, e, l)
    by_same false other =
        let e = uncertain_append f told (ReplyUncertain g ∷ []) in
        let l : one_if (same_flow g f) ≡ 0 = ap one_if other in
        omega (arith, e, l)

once_if : (f back : Flow) (h : CallBook) (b : Bool) → uncertain_in f h.happenings ≤ 1 → uncertain_in f (cond b (with_uncertain (reversed back) h.happenings) h.happenings) ≤ 1
once_if f back h true most = once_with f (reversed back) h.happenings (list_any (is_uncertain (reversed back)) h.happenings) refl most
once_if f back h false most = most

accepts_once : (f g : Flow) (b : Bool) (h : CallBook) → uncertain_in f (cond b (record h { unread = with_flow g h.unread }) h).happenings ≡ uncertain_in f h.happenings
accepts_once f g true h = refl
accepts_once f g false h = refl

hear_once : (f : Flow) (what : Heard) (h : CallBook) → uncertain_in f h.happenings ≤ 1 → uncertain_in f (hear_as what h).happenings ≤ 1
hear_once f (Settles g count) h most = most
hear_once f (GivesUp back count) h most = once_if f back h (is_service (kind_in back.from_port h.ports)) most
hear_once f (Accepts g) h most = let e = accepts_once f g (is_some (kind_in g.to_port h.ports)) h in omega (arith, e)
hear_once f NoMatter h most = most

pub all_hear_once : (f : Flow) (told : List Told) (h : CallBook) → uncertain_in f h.happenings ≤ 1 → uncertain_in f (fold hear h told).happenings ≤ 1
all_hear_once f [] h most = most
all_hear_once f (t ∷ told) h most = all_hear_once f told (hear h t) (hear_once f (heard t) h most)

-- A MESSAGE tells of none
more_of : (f : Flow) (hs : List Happening) (t : Happening) → is_uncertain f t ≡ false → uncertain_in f (hs ++ t ∷ []) ≡ uncertain_in f hs
more_of f hs t is = let e = uncertain_append f hs (t ∷ []) in let l : one_if (is_uncertain f t) ≡ 0 = ap one_if is in omega (arith, e, l)

reply_tells_none : (f : Flow) (o : Option ℕ) (n : CallNumber) (answer : List ℕ) (h : CallBook) → uncertain_in f (take_reply_at o n answer h).happenings ≡ uncertain_in f h.happenings
reply_tells_none f None n answer h = refl
reply_tells_none f (Some place) n answer h = more_of f h.happenings (Answered n answer) refl

request_tells_none : (f : Flow) (b : Bool) (token : Token) (payload : List ℕ) (h : CallBook)
    → uncertain_in f (cond b (record h { tokens = without_token token h.tokens; counts = record (h.counts) { reused = counted_up h.counts.reused } }) (record h { tokens = h.tokens ++ token ∷ []; happenings = h.happenings ++ Request token payload ∷ [] })).happenings ≡ uncertain_in f h.happenings
request_tells_none f true token payload h = refl
request_tells_none f false token payload h = more_of f h.happenings (Request token payload) refl

as_tells_none : (f : Flow) (kind : Option PortKind) (g : Flow) (n : CallNumber) (carried : List ℕ) (h : CallBook) → uncertain_in f (take_as kind g n carried h).happenings ≡ uncertain_in f h.happenings
as_tells_none f None g n carried h = refl
as_tells_none f (Some Caller) g n carried h = reply_tells_none f (position (is_waiting_call (reversed g) n) h.calls) n carried h
as_tells_none f (Some Service) g n carried h = request_tells_none f (is_open (token_with g n) h) (token_with g n) carried h

message_tells_none : (f : Flow) (b : Bool) (one : CallBook) (h : CallBook) → uncertain_in f one.happenings ≡ uncertain_in f h.happenings → uncertain_in f (cond b one (record h { counts = record (h.counts) { short = counted_up h.counts.short } })).happenings ≡ uncertain_in f h.happenings
message_tells_none f true one h e = e
message_tells_none f false one h e = refl

whole_tells_none : (f g : Flow) (o : Option (List ℕ)) (h : CallBook) → uncertain_in f (take_whole g o h).happenings ≡ uncertain_in f h.happenings
whole_tells_none f g None h = refl
whole_tells_none f g (Some m) h = message_tells_none f (has_number m) (take_as (kind_in g.to_port h.ports) g (from_u64 (number_in m)) (carried_in m) h) h (as_tells_none f (kind_in g.to_port h.ports) g (from_u64 (number_in m)) (carried_in m) h)

pub piece_tells_none : (f g : Flow) (p : Piece) (h : CallBook) → uncertain_in f (take_piece g p h).happenings ≡ uncertain_in f h.happenings
piece_tells_none f g p h = whole_tells_none f g (whole_within (Some longest_message) (begun_of g h) p) (grown g (begun_of g h) p h)

-- NOR DOES A JUDGING
unsure_none : (f : Flow) (now : ℕ) (calls : List OpenCall) → uncertain_in f (filter_map (unsure_of now) calls) ≡ 0
unsure_none f now [] = refl
unsure_none f now (call ∷ calls) = by_cause (cause_of now call) (unsure_none f now calls)
  where
    by_cause : (o : Option Cause) → uncertain_in f (filter_map (unsure_of now) calls) ≡ 0 → uncertain_in f (cons_option (unsure_by call o) (filter_map (unsure_of now) calls)) ≡ 0
    by_cause None rest = rest
    by_cause (Some cause) rest = omega (arith, rest)

judge_tells_none : (f : Flow) (now : ℕ) (h : CallBook) → uncertain_in f (judge now h).happenings ≡ uncertain_in f h.happenings
judge_tells_none f now h = let a = uncertain_append f h.happenings (filter_map (unsure_of now) h.calls) in let b = unsure_none f now h.calls in omega (arith, a, b)

-- A TURN
once_kept : (f : Flow) (now : ℕ) → IsKept now (λ (x y : Node). uncertain_in f x.book.happenings ≤ 1 → uncertain_in f y.book.happenings ≤ 1)
once_kept f now = record {
  itself = λ x most. most;
  through = λ x y z first second most. second (first most);
  hears = λ g x most. all_hear_once f (after_event now (Read g most_read) x.endpoint).reports x.book most;
  done = λ g x most. most;
  takes = λ g p x most. (let e = piece_tells_none f g p x.book in omega (arith, e));
  swept = λ x most. most;
}

pub end_tells_once : (f : Flow) (now : ℕ) (x : Node) → uncertain_in f x.book.happenings ≤ 1 → uncertain_in f (turn_end now x).book.happenings ≤ 1
end_tells_once f now x =
    end_kept now (λ (u v : Node). uncertain_in f u.book.happenings ≤ 1 → uncertain_in f v.book.happenings ≤ 1) (once_kept f now)
    (λ moment u most. (let e = judge_tells_none f moment u.book in omega (arith, e))) x

pub turn_tells_once : (f : Flow) (now : ℕ) (event : Event (Unit {0})) (x : Node) → uncertain_in f x.book.happenings ≤ 1 → uncertain_in f (turn now event x).book.happenings ≤ 1
turn_tells_once f now event x most = end_tells_once f now (happens now event x) (all_hear_once f (after_event now event x.endpoint).reports x.book most)
