-- What is answered over the moves of a turn, and how tokens open.
use Rattle.std.proofs.Common.{ℕ, zero, suc, ◌+◌, ◌<◌, ◌≤◌, ◌≡◌, ◌⊎◌, ◌==◌, Bool, true, false, List, [], ◌∷◌, ◌++◌, length, map, take, get_or, Option, Some, None, refl, ap, sym, subst, ◌∙◌, inl, inr, append-nil, append_assoc, arith}
use Rattle.std.specs.Prelude.{All, Contains, cond, fold, ◌&&◌}
use Rattle.std.specs.List.{position}
use Rattle.std.proofs.Math.Seq.{take-length}
use Rattle.std.proofs.lemmas.Bool.{and_parts, cases_Bool}
use Rattle.std.proofs.lemmas.List.{map-append}
use Rattle.std.proofs.lemmas.List.Elements.{All-contains, All-head, All-tail, Contains-append_cases, Contains-append_left, Contains-append_right, Contains-get_or}
use Rattle.std.proofs.lemmas.List.Quantifiers.{position-Some}
use Rattle.dt_items.specs.declared.item.Item.{Item}
use Rattle.dt_items.specs.Unread.{marked}
use Rattle.dt_units.specs.declared.endpoints.Flow.{Flow}
use Rattle.dt_world_model.proofs.Tables.{flow_is, flow_self, nat_is, nat_self}
use Rattle.dt_world_model.specs.Host.{one_if}
use Rattle.dt_world_model.specs.Tables.{same_flow}
use Rattle.dt_calls_model.specs.Messages.{Piece, carried_in, has_number, number_in, reversed, whole_with}
use Rattle.dt_messages.specs.Joining.{whole_within}
use Rattle.dt_endpoint.specs.declared.answers.Delivered.TheVariants as answer
use Rattle.dt_network.specs.Network.{Network, Setup}
use Rattle.dt_network.specs.Octets.{all_read, items_read, read_if}
use Rattle.dt_network.specs.Steps.{Step}
use Rattle.dt_service_model.specs.declared.calls.OpenCall.{OpenCall}
use Rattle.dt_service_model.specs.declared.happenings.Happening.{Happening}
use Rattle.dt_service_model.specs.declared.happenings.Happening.TheVariants.{Answered, ReplyUncertain, Request, Unsure}
use Rattle.dt_service_model.specs.declared.names.CallNumber.{CallNumber}
use Rattle.dt_service_model.specs.declared.names.Token.{Token}
use Rattle.dt_service_model.specs.declared.ports.PortKind.{PortKind}
use Rattle.dt_service_model.specs.declared.ports.PortKind.TheVariants.{Caller, Service}
use Rattle.dt_service_model.specs.CallBook.{CallBook, counted_up, kind_in, longest_message}
use Rattle.dt_service_model.specs.Hearing.{hear}
use Rattle.dt_service_model.specs.Names.{from_u64, same_number, same_token, token_with}
use Rattle.dt_service_model.specs.Turns.{Node, hears, with_book}
use Rattle.dt_service_model.specs.Whole.{begun_of, grown, is_open, is_waiting_call, take_as, take_piece, take_reply_at, take_whole, without_token}
use Rattle.dt_service_laws.specs.Histories.{Message, answer_in, count_of, each_of, request_in}
use Rattle.dt_service_laws.specs.Orders.{AreSomeOf, none, skips, takes}
use Rattle.dt_service_laws.specs.Wholes.{begun_after, listed, messages_from}
use Rattle.dt_service_laws.proofs.Begun.{begun_same}
use Rattle.dt_service_laws.proofs.Keeping.{piece_keeps}
use Rattle.dt_service_laws.proofs.Moves.{AreKeptFrom, IsKeptFrom, IsQuiet, IsNoMessage, Moves, Tracks, calls, changes, open_count, pulls, reads, rests}
use Rattle.dt_service_laws.proofs.Pieces.{messages_append, piece_messages, piece_with, whole_stays}
use Rattle.dt_service_laws.proofs.Quiet.{all_heard_quiet, fewer_open, quiet_itself, kept_through}
use Rattle.dt_service_laws.proofs.Telling.{behind_read, each_append, read_tells, said, unsure_requests}

pub unsure_answers : (told : List Happening) → All IsNoMessage told → each_of answer_in told ≡ []
unsure_answers [] all = refl
unsure_answers (Unsure number cause ∷ told) all = unsure_answers told (All-tail IsNoMessage (Unsure number cause) told all)
unsure_answers (ReplyUncertain flow ∷ told) all = unsure_answers told (All-tail IsNoMessage (ReplyUncertain flow) told all)
unsure_answers (Request token payload ∷ told) all = absurd (All-head IsNoMessage (Request token payload) told all)
unsure_answers (Answered number answer ∷ told) all = absurd (All-head IsNoMessage (Answered number answer) told all)

contains_at : {A : Type 0} (y x : A) (ys : List A) (k : ℕ) → k < length (y ∷ ys) → get_or (y ∷ ys) k x ≡ x → (y ≡ x) ⊎ Contains ys x
contains_at y x ys zero lt is = inl is
contains_at y x ys (suc k) lt is = inr (k, omega arith, is)

pub contains_parts : {A : Type 0} (y x : A) (ys : List A) → Contains (y ∷ ys) x → (y ≡ x) ⊎ Contains ys x
contains_parts y x ys there = contains_at y x ys there.0 there.1 there.2

pub contains_first : {A : Type 0} (y x : A) (ys : List A) → y ≡ x → Contains (y ∷ ys) x
contains_first y x ys same = (0, omega arith, same)

pub contains_more : {A : Type 0} (y x : A) (ys : List A) → Contains ys x → Contains (y ∷ ys) x
contains_more y x ys there = (suc there.0, (let lt = there.1 in omega (arith, lt)), there.2)

pub some_contains : {A : Type 0} {xs ys : List A} (x : A) → AreSomeOf xs ys → Contains xs x → Contains ys x
some_contains x none there = absurd (let lt = there.1 in omega (arith, lt))
some_contains x (takes {x = y} {xs} {ys} h) there = elim (contains_parts y x xs there) [ inl same ↦ contains_first y x ys same | inr more ↦ contains_more y x ys (some_contains x h more) ]
some_contains x (skips {y} {xs} {ys} h) there = contains_more y x ys (some_contains x h there)

pub not_in_none : {A : Type 0} (xs : List A) (x : A) → xs ≡ [] → Contains xs x → ⊥
not_in_none xs x is there = let no : Contains [] x = subst (λ ys. Contains ys x) is there in omega (arith, no.1)

pub contains_mapped : {A B : Type 0} (f : A → B) (xs : List A) (x : A) → Contains xs x → Contains (map f xs) (f x)
contains_mapped f [] x there = absurd (let lt = there.1 in omega (arith, lt))
contains_mapped f (y ∷ xs) x there = elim (contains_parts y x xs there) [ inl same ↦ contains_first (f y) (f x) (map f xs) (ap f same) | inr more ↦ contains_more (f y) (f x) (map f xs) (contains_mapped f xs x more) ]

-- numbers and flows
pub number_self : (n : CallNumber) → same_number n n ≡ true
number_self n = ap (λ (b : Bool). b && (n.count == n.count)) (nat_self n.life) ∙ nat_self n.count

pub number_is : (m n : CallNumber) → same_number m n ≡ true → m ≡ n
number_is m n h =
    let p = and_parts (m.life == n.life) (m.count == n.count) h in
    ap (λ (k : ℕ). let r : CallNumber = record { life = k; count = m.count } in r) (nat_is m.life n.life p.0) ∙ ap (λ (k : ℕ). let r : CallNumber = record { life = n.life; count = k } in r) (nat_is m.count n.count p.1)

swap : (a b c d : Bool) → (((a && b) && c) && d) ≡ (((c && d) && a) && b)
swap true true true true = refl
swap true true true false = refl
swap true true false true = refl
swap true true false false = refl
swap true false true true = refl
swap true false true false = refl
swap true false false true = refl
swap true false false false = refl
swap false true true true = refl
swap false true true false = refl
swap false true false true = refl
swap false true false false = refl
swap false false true true = refl
swap false false true false = refl
swap false false false true = refl
swap false false false false = refl

pub same_reversed : (f g : Flow) → same_flow (reversed f) (reversed g) ≡ same_flow f g
same_reversed f g = swap (f.to.0 == g.to.0) (f.to_port == g.to_port) (f.from.0 == g.from.0) (f.from_port == g.from_port)

-- A CALL OF ANOTHER FLOW that waits under the number of an answer
pub record IsOther (g : Flow) (calls : List OpenCall) (a : Message) : Type 0 where
  pub call : OpenCall
  pub there : Contains calls call
  pub waits : call.waits ≡ true
  pub number : call.number ≡ a.number
  pub other : same_flow call.flow (reversed g) ≡ false

-- A WHOLE MESSAGE
pub record WholeAnswers (f : Flow) (o : Option (List ℕ)) (h : CallBook) (a : Message) : Type 0 where
  pub message : List ℕ
  pub whole : o ≡ Some message
  pub says : said message ≡ a
  pub call : OpenCall
  pub there : Contains h.calls call
  pub waits : call.waits ≡ true
  pub number : call.number ≡ a.number
  pub flow : call.flow ≡ reversed f

pub record WholeGives (f : Flow) (o : Option (List ℕ)) (h k : CallBook) : Type 0 where
  pub told : List Happening
  pub happenings : k.happenings ≡ h.happenings ++ told
  pub from : (a : Message) → Contains (each_of answer_in told) a → WholeAnswers f o h a
  pub opens : (t : Token) → open_count t k.tokens ≤ open_count t h.tokens + count_of t.number (each_of (request_in t.flow) told)

gives_none : (f : Flow) (o : Option (List ℕ)) (h k : CallBook) → k.happenings ≡ h.happenings → ((t : Token) → open_count t k.tokens ≤ open_count t h.tokens) → WholeGives f o h k
gives_none f o h k same fewer = record { told = []; happenings = same ∙ sym (append-nil h.happenings); from = λ a there. absurd (let lt = there.1 in omega (arith, lt)); opens = λ t. (let l = fewer t in omega (arith, l)) }

one_there : (x a : Message) → Contains (x ∷ []) a → x ≡ a
one_there x a there = elim (contains_parts x a [] there) [ inl same ↦ same | inr more ↦ absurd (let lt = more.1 in omega (arith, lt)) ]

reply_gives : (f : Flow) (m : List ℕ) (h : CallBook) (o : Option ℕ) → position (is_waiting_call (reversed f) (from_u64 (number_in m))) h.calls ≡ o → WholeGives f (Some m) h (take_reply_at o (from_u64 (number_in m)) (carried_in m) h)
reply_gives f m h None is = gives_none f (Some m) h _ refl (λ t. omega arith)
reply_gives f m h (Some place) is =
    let n = from_u64 (number_in m) in
    let d : OpenCall = record { number = n; flow = f; deadline = 0; left = 0; waits = false; has_given_up = false } in
    let at = position-Some (is_waiting_call (reversed f) n) h.calls place d is in
    let call = get_or h.calls place d in
    let p = and_parts (call.waits && same_number call.number n) (same_flow call.flow (reversed f)) at.1 in
    let q = and_parts call.waits (same_number call.number n) p.0 in
    record {
      told = Answered n (carried_in m) ∷ [];
      happenings = refl;
      from = λ a there.
          let same : said m ≡ a = one_there (said m) a there in
          record { message = m; whole = refl; says = same; call = call; there = Contains-get_or h.calls place d at.0; waits = q.0; number = number_is call.number n q.1 ∙ ap (λ (x : Message). x.number) same; flow = flow_is call.flow (reversed f) p.1 };
      opens = λ t. omega arith;
    }

request_opens : (t token : Token) (payload : List ℕ) (tokens : List Token) → open_count t (tokens ++ token ∷ []) ≤ open_count t tokens + count_of t.number (each_of (request_in t.flow) (Request token payload ∷ []))
request_opens t token payload [] =
    elim (cases_Bool (same_token t token)) [
      | inl y ↦
          let p = and_parts (same_flow t.flow token.flow) (same_number t.number token.number) y in
          let flow : token.flow ≡ t.flow = sym (flow_is t.flow token.flow p.0) in
          let number : token.number ≡ t.number = sym (number_is t.number token.number p.1) in
          let one : count_of t.number (each_of (request_in t.flow) (Request token payload ∷ [])) ≡ 1 =
          ap (λ (b : Bool). count_of t.number (cond b ((record { number = token.number; carried = payload }) ∷ []) [] ++ [])) (ap (λ (f : Flow). same_flow f t.flow) flow ∙ flow_self t.flow)
          ∙ ap (λ (b : Bool). one_if b + 0) (ap (λ (n : CallNumber). same_number n t.number) number ∙ number_self t.number) in
          let here : one_if (same_token t token) ≡ 1 = ap one_if y in
          omega (arith, one, here)
      | inr o ↦ (let here : one_if (same_token t token) ≡ 0 = ap one_if o in omega (arith, here))
    ]
request_opens t token payload (s ∷ tokens) = let more = request_opens t token payload tokens in omega (arith, more)

request_gives : (f : Flow) (m : List ℕ) (h : CallBook) (b : Bool) → let token = token_with f (from_u64 (number_in m)) in
    WholeGives f (Some m) h (cond b (record h { tokens = without_token token h.tokens; counts = record (h.counts) { reused = counted_up h.counts.reused } }) (record h { tokens = h.tokens ++ token ∷ []; happenings = h.happenings ++ Request token (carried_in m) ∷ [] }))
request_gives f m h true = gives_none f (Some m) h _ refl (λ t. fewer_open t _ h.tokens)
request_gives f m h false = record {
  told = Request (token_with f (from_u64 (number_in m))) (carried_in m) ∷ [];
  happenings = refl;
  from = λ a there. absurd (let lt = there.1 in omega (arith, lt));
  opens = λ t. request_opens t (token_with f (from_u64 (number_in m))) (carried_in m) h.tokens;
}

as_gives : (f : Flow) (m : List ℕ) (h : CallBook) (kind : Option PortKind) → WholeGives f (Some m) h (take_as kind f (from_u64 (number_in m)) (carried_in m) h)
as_gives f m h None = gives_none f (Some m) h h refl (λ t. omega arith)
as_gives f m h (Some Caller) = reply_gives f m h (position (is_waiting_call (reversed f) (from_u64 (number_in m))) h.calls) refl
as_gives f m h (Some Service) = request_gives f m h (is_open (token_with f (from_u64 (number_in m))) h)

message_gives : (f : Flow) (m : List ℕ) (h : CallBook) (b : Bool) → WholeGives f (Some m) h (cond b (take_as (kind_in f.to_port h.ports) f (from_u64 (number_in m)) (carried_in m) h) (record h { counts = record (h.counts) { short = counted_up h.counts.short } }))
message_gives f m h true = as_gives f m h (kind_in f.to_port h.ports)
message_gives f m h false = gives_none f (Some m) h _ refl (λ t. omega arith)

pub whole_gives : (f : Flow) (o : Option (List ℕ)) (h : CallBook) → WholeGives f o h (take_whole f o h)
whole_gives f None h = gives_none f None h h refl (λ t. omega arith)
whole_gives f (Some m) h = message_gives f m h (has_number m)

-- FROM ONE STATE TO ANOTHER
pub record Answers (g : Flow) (b : Option (List ℕ)) (items : List Item) (h k : CallBook) : Type 0 where
  pub told : List Happening
  pub happenings : k.happenings ≡ h.happenings ++ told
  pub waits : AreKeptFrom h.calls k.calls
  pub opens : (t : Token) → open_count t k.tokens ≤ open_count t h.tokens + count_of t.number (each_of (request_in t.flow) told)
  pub from : (a : Message) → Contains (each_of answer_in told) a → Contains (map said (messages_from b items)) a ⊎ IsOther g h.calls a

pub quiet_answers : (g : Flow) (b : Option (List ℕ)) (h k : CallBook) → IsQuiet h k → Answers g b [] h k
quiet_answers g b h k quiet = record {
  told = quiet.told;
  happenings = quiet.happenings;
  waits = quiet.waits;
  opens = λ t. (let l = quiet.opens t in let none = ap (count_of t.number) (unsure_requests t.flow quiet.told quiet.unsure) in omega (arith, l, none));
  from = λ a there. absurd (not_in_none (each_of answer_in quiet.told) a (unsure_answers quiet.told quiet.unsure) there);
}

pub count_append : (n : CallNumber) (xs ys : List Message) → count_of n (xs ++ ys) ≡ count_of n xs + count_of n ys
count_append n [] ys = omega arith
count_append n (x ∷ xs) ys = let e = count_append n xs ys in omega (arith, e)

other_kept : (g : Flow) (before after : List OpenCall) (a : Message) → AreKeptFrom before after → IsOther g after a → IsOther g before a
other_kept g before after a kept o =
    let k = All-contains (λ (c : OpenCall). c.waits ≡ true → IsKeptFrom before c) after o.call kept o.there o.waits in
    record { call = k.was; there = k.there; waits = k.waits; number = k.number ∙ o.number; other = ap (λ (f : Flow). same_flow f (reversed g)) k.flow ∙ o.other }

pub answers_then : (g : Flow) (b : Option (List ℕ)) (xs ys : List Item) (h k l : CallBook) → Answers g b xs h k → Answers g (begun_after b xs) ys k l → Answers g b (xs ++ ys) h l
answers_then g b xs ys h k l p q =
    let all : map said (messages_from b (xs ++ ys)) ≡ map said (messages_from b xs) ++ map said (messages_from (begun_after b xs) ys) = ap (map said) (messages_append b xs ys) ∙ map-append said (messages_from b xs) (messages_from (begun_after b xs) ys) in
    record {
      told = p.told ++ q.told;
      happenings = q.happenings ∙ ap (λ (ms : List Happening). ms ++ q.told) p.happenings ∙ append_assoc h.happenings p.told q.told;
      waits = kept_through h.calls k.calls l.calls p.waits q.waits;
      opens = λ t. (
          let a = p.opens t in
          let c = q.opens t in
          let e = ap (count_of t.number) (each_append (request_in t.flow) p.told q.told) ∙ count_append t.number (each_of (request_in t.flow) p.told) (each_of (request_in t.flow) q.told) in
          omega (arith, a, c, e)
          );
      from = λ a there.
          elim (Contains-append_cases (each_of answer_in p.told) (each_of answer_in q.told) a (subst (λ (ms : List Message). Contains ms a) (each_append answer_in p.told q.told) there)) [
            | inl first ↦ elim (p.from a first) [ inl m ↦ inl (subst (λ (ms : List Message). Contains ms a) (sym all) (Contains-append_left (map said (messages_from b xs)) (map said (messages_from (begun_after b xs) ys)) a m)) | inr o ↦ inr o ]
            | inr second ↦ elim (q.from a second) [ inl m ↦ inl (subst (λ (ms : List Message). Contains ms a) (sym all) (Contains-append_right (map said (messages_from b xs)) (map said (messages_from (begun_after b xs) ys)) a m)) | inr o ↦ inr (other_kept g h.calls k.calls a p.waits o) ]
          ];
    }

-- A PIECE
piece_answers : (f g : Flow) (b : Option (List ℕ)) (begin end run : Bool) (o : ℕ) (os : List ℕ) (h : CallBook) → Tracks g b h.begun → (t : Bool) → same_flow f g ≡ t
    → Answers g b (read_if t (marked (o ∷ os) begin end run)) h (take_piece f (piece_with begin end run (o ∷ os)) h)
piece_answers f g b begin end run o os h tracks t is =
    let p = piece_with begin end run (o ∷ os) in
    let whole = whole_within (Some longest_message) (begun_of f h) p in
    let w = whole_gives f whole (grown f (begun_of f h) p h) in
    record {
      told = w.told;
      happenings = w.happenings;
      waits = (piece_keeps f p h).waits;
      opens = w.opens;
      from = λ a there. by_flow t is a (w.from a there);
    }
  where
    by_flow : (t : Bool) → same_flow f g ≡ t → (a : Message) → WholeAnswers f (whole_within (Some longest_message) (begun_of f h) (piece_with begin end run (o ∷ os))) (grown f (begun_of f h) (piece_with begin end run (o ∷ os)) h) a
        → Contains (map said (messages_from b (read_if t (marked (o ∷ os) begin end run)))) a ⊎ IsOther g h.calls a
    by_flow true is a w =
        let p = piece_with begin end run (o ∷ os) in
        let here : Tracks f b h.begun = subst (λ (k : Flow). Tracks k b h.begun) (sym (flow_is f g is)) tracks in
        let whole = whole_within (Some longest_message) (begun_of f h) p in
        let one : Contains (listed whole) w.message = subst (λ (x : Option (List ℕ)). Contains (listed x) w.message) (sym w.whole) (contains_first w.message w.message [] refl) in
        let read : Contains (listed (whole_with b p)) w.message = some_contains w.message (whole_stays (Some longest_message) (begun_of f h) b p (begun_same f b h here)) one in
        let in_items : Contains (messages_from b (marked (o ∷ os) begin end run)) w.message = subst (λ (ms : List (List ℕ)). Contains ms w.message) (sym (piece_messages b o os begin end run)) read in
        inl (subst (λ (x : Message). Contains (map said (messages_from b (marked (o ∷ os) begin end run))) x) w.says (contains_mapped said _ w.message in_items))
    by_flow false is a w = inr (record { call = w.call; there = w.there; waits = w.waits; number = w.number; other = ap (λ (f : Flow). same_flow f (reversed g)) w.flow ∙ same_reversed f g ∙ is })

read_answers : (f g : Flow) (b : Option (List ℕ)) (p : Piece) (o : ℕ) (os : List ℕ) (h : CallBook) → p.octets ≡ o ∷ os → Tracks g b h.begun
    → Answers g b (read_if (same_flow f g) (items_read (answer.Read (length p.octets) p.run p.begin p.end) p.octets)) h (take_piece f p h)
read_answers f g b p o os h is tracks =
    let all : take (length p.octets) p.octets ≡ o ∷ os = take-length p.octets ∙ is in
    subst (λ (xs : List ℕ). Answers g b (read_if (same_flow f g) (marked xs p.begin p.end p.run)) h (take_piece f p h)) (sym all)
    (subst (λ (xs : List ℕ). Answers g b (read_if (same_flow f g) (marked (o ∷ os) p.begin p.end p.run)) h (take_piece f (piece_with p.begin p.end p.run xs) h)) (sym is)
    (piece_answers f g b p.begin p.end p.run o os h tracks (same_flow f g) refl))

-- OVER THE MOVES
module _ (setup : Setup) (n : ℕ) where
  pub moves_answer : (base : Network) (g : Flow) (b : Option (List ℕ)) (x y : Node) (steps : List Step) → Moves setup n base x steps y → Tracks g b x.book.begun → Answers g b (all_read g steps) x.book y.book
  moves_answer base g b x y steps (rests {x = z}) tracks = quiet_answers g b z.book z.book (quiet_itself z.book)
  moves_answer base g b x y steps (changes {x = z} {y = u} {steps = ss} h quiet more) tracks =
      answers_then g b [] (all_read g ss) z.book h u.book (quiet_answers g b z.book h quiet) (moves_answer base g b (record z { book = h }) u ss more (quiet.begun g b tracks))
  moves_answer base g b x y steps (calls {x = z} {y = u} {steps = ss} call f may nothing taken more) tracks =
      let quiet = all_heard_quiet f.reports z.book in
      let heard = fold hear z.book f.reports in
      let rest = moves_answer base g b (hears (record z { endpoint = f })) u ss more (quiet.begun g b tracks) in
      subst (λ (is : List Item). Answers g b is z.book u.book) (sym (ap (λ (is : List Item). is ++ all_read g (pulls setup n f f.reports ++ ss)) (nothing g) ∙ behind_read setup n g f f.reports ss))
      (answers_then g b [] (all_read g ss) z.book heard u.book (quiet_answers g b z.book heard quiet) rest)
  moves_answer base g b x y steps (reads {x = z} {y = u} {steps = ss} now k p o os f comes some may more) tracks =
      let quiet = all_heard_quiet f.reports z.book in
      let heard = fold hear z.book f.reports in
      let here = quiet.begun g b tracks in
      let items = read_if (same_flow k g) (items_read (answer.Read (length p.octets) p.run p.begin p.end) p.octets) in
      let piece = read_answers k g b p o os heard some here in
      let rest = moves_answer base g (begun_after b items) (with_book (take_piece k p) (hears (record z { endpoint = f }))) u ss more (read_tells k g b p o os heard some here).begun in
      subst (λ (is : List Item). Answers g b (items ++ is) z.book u.book) (sym (behind_read setup n g f f.reports ss))
      (answers_then g b items (all_read g ss) z.book (take_piece k p heard) u.book (answers_then g b [] items z.book heard (take_piece k p heard) (quiet_answers g b z.book heard quiet) piece) rest)
