-- Where a turn stopped: what was heard and read until then.
use Rattle.std.proofs.Common.{ℕ, zero, suc, ◌+◌, ◌≡◌, ◌<◌, Bool, true, false, List, [], ◌∷◌, ◌++◌, length, get_or, drop, take, Option, None, refl, ap, sym, subst, ◌∙◌, inl, inr, arith, add-one}
use Rattle.std.specs.Prelude.{◌&&◌, ◌||◌, fold, not, Result, Ok, Err, OnErr}
use Rattle.dt_items.specs.declared.memory.NoMemory.{NoMemory}
use Rattle.dt_units.specs.declared.endpoints.Flow.{Flow}
use Rattle.dt_reports.specs.Told.{Told}
use Rattle.dt_reports.specs.declared.faults.Refusal.{Refusal}
use Rattle.dt_world_model.specs.Station.{Event, Read}
use Rattle.dt_world_model.specs.WorldStep.{first_refusal}
use Rattle.dt_calls_model.specs.Messages.{message_of, reversed}
use Rattle.dt_endpoint.specs.Calls.{send_answer}
use Rattle.dt_endpoint.specs.Endpoints.{EndpointValue, after_event, moment_of}
use Rattle.dt_service_model.specs.declared.answers.Forgot.{Forgot}
use Rattle.dt_service_model.specs.declared.answers.Forgot.TheVariants as forgot
use Rattle.dt_service_model.specs.declared.names.Token.{Token}
use Rattle.dt_service_model.specs.Asked.{call_refusals, forgotten, forgotten_unless, is_closed, message_event, reply_refusals, with_call_unless}
use Rattle.dt_service_model.specs.Names.{to_u64}
use Rattle.dt_service_model.specs.Whole.{is_open}
use Rattle.dt_service_model.specs.CallBook.{CallBook, may_read}
use Rattle.dt_service_model.specs.Hearing.{hear, hear_all}
use Rattle.dt_service_model.specs.Stopping.{CallStops, EndStops, EventStops, ForgetStops, ReadStops, ReplyStops, TurnStops, at_flow, at_judging, at_piece, breaks_off, call_kept, heard_in_part, heard_to, hears_part, in_end, in_event, in_read, message_of_call, not_done, not_read, token_dropped}
use Rattle.dt_service_model.specs.Turns.{Node, comes_in, happens, hears, most_read, read_flow, read_if, read_times, reads, sweep, with_book}
use Rattle.dt_service.specs.Nodes.{FlowStops, HearingStops, IsCutOff, RestStops, node_of}

-- LISTS, at one of their places
drop_one : {A : Type 0} (k : ℕ) (xs : List A) → drop (suc k) xs ≡ drop 1 (drop k xs)
drop_one zero xs = refl
drop_one (suc k) [] = refl
drop_one (suc k) (x ∷ xs) = drop_one k xs

take_one : {A : Type 0} (k : ℕ) (xs : List A) (x : A) (rest : List A) → drop k xs ≡ x ∷ rest → take (suc k) xs ≡ take k xs ++ x ∷ []
take_one zero [] x rest is = absurd cc
take_one zero (y ∷ xs) x rest is = let same : y ≡ x = cc in ap (λ z. z ∷ []) same
take_one (suc k) [] x rest is = absurd cc
take_one (suc k) (y ∷ xs) x rest is = ap (λ zs. y ∷ zs) (take_one k xs x rest is)

-- a list is what stands before a place, what stands there, and what stands after it
pub parted : {A : Type 0} (i : ℕ) (xs : List A) (d : A) → i < length xs → xs ≡ take i xs ++ get_or xs i d ∷ drop (suc i) xs
parted i [] d lt = absurd (omega arith)
parted zero (x ∷ xs) d lt = refl
parted (suc i) (x ∷ xs) d lt = ap (λ ys. x ∷ ys) (parted i xs d (omega arith))

fold_last : {A B : Type 0} (step : B → A → B) (b : B) (xs : List A) (x : A) → fold step b (xs ++ x ∷ []) ≡ step (fold step b xs) x
fold_last step b [] x = refl
fold_last step b (y ∷ xs) x = fold_last step (step b y) xs x

take_at : {A : Type 0} (i : ℕ) (xs : List A) (d : A) → i < length xs → take (suc i) xs ≡ take i xs ++ get_or xs i d ∷ []
take_at i [] d lt = absurd (omega arith)
take_at zero (x ∷ xs) d lt = refl
take_at (suc i) (x ∷ xs) d lt = ap (λ ys. x ∷ ys) (take_at i xs d (omega arith))

pub fold_taken : {A : Type 0} (step : Node → A → Node) (i : ℕ) (xs : List A) (d : A) (n m k : Node) → i < length xs → m ≡ fold step n (take i xs) → k ≡ step m (get_or xs i d) → k ≡ fold step n (take (i + 1) xs)
fold_taken step i xs d n m k lt is next =
    next ∙ ap (λ (x : Node). step x (get_or xs i d)) is ∙ sym (fold_last step n (take i xs) (get_or xs i d)) ∙ ap (fold step n) (sym (take_at i xs d lt)) ∙ ap (λ j. fold step n (take j xs)) (sym (add-one i))

-- WHAT IS HEARD
pub record HeardTo (n m : Node) : Type 0 where
  pub count : ℕ
  pub is : m ≡ heard_to count n

pub heard_none : (n : Node) → HeardTo n n
heard_none n = record { count = 0; is = refl }

pub heard_more : (n : Node) (e f : EndpointValue) (h k : CallBook) (t : Told) → HeardTo n (node_of e h) → e.reports ≡ (t ∷ []) ++ f.reports → f ≡ record e { reports = drop 1 e.reports } → k ≡ hear h t → HeardTo n (node_of f k)
heard_more n e f h k t so reports rest heard =
    let rs = n.endpoint.reports in
    let here : e.reports ≡ drop so.count rs = ap (λ (x : Node). x.endpoint.reports) so.is in
    let left : drop so.count rs ≡ t ∷ f.reports = sym here ∙ reports in
    let endpoint : f ≡ record (n.endpoint) { reports = drop (suc so.count) rs } =
    rest ∙ ap (λ (x : Node). record (x.endpoint) { reports = drop 1 x.endpoint.reports }) so.is ∙ ap (λ (xs : List Told). record (n.endpoint) { reports = xs }) (sym (drop_one so.count rs)) in
    let book : k ≡ hear_all (take (suc so.count) rs) n.book =
    heard ∙ ap (λ (x : Node). hear x.book t) so.is ∙ sym (fold_last hear n.book (take so.count rs) t) ∙ ap (λ (xs : List Told). hear_all xs n.book) (sym (take_one so.count rs t f.reports left)) in
    record { count = suc so.count; is = ap (λ (x : EndpointValue). node_of x k) endpoint ∙ ap (λ (x : CallBook). node_of (record (n.endpoint) { reports = drop (suc so.count) rs }) x) book }

pub hearing_stops : (n : Node) (e f : EndpointValue) (h k : CallBook) → HeardTo n (node_of e h) → f ≡ record e { reports = drop 1 e.reports } → k ≡ h → HearingStops n (node_of f k)
hearing_stops n e f h k so rest same =
    (so.count, ap (λ (x : EndpointValue). node_of x k) rest ∙ ap (λ (x : CallBook). node_of (record e { reports = drop 1 e.reports }) x) same ∙ ap (λ (x : Node). record x { endpoint = record (x.endpoint) { reports = drop 1 x.endpoint.reports } }) so.is)

-- AN EVENT
pub event_heard : (now : ℕ) (event : Event (Unit {0})) (n m : Node) (e : EndpointValue) → e ≡ after_event now event n.endpoint → HearingStops (node_of e n.book) m → EventStops now event n m
event_heard now event n m e is stops = hears_part stops.0 (stops.1 ∙ ap (λ (x : EndpointValue). heard_in_part stops.0 (node_of x n.book)) is)

-- A READ
pub read_cut_off : (now : ℕ) (f : Flow) (n m : Node) (e : EndpointValue) → (comes_in n f && may_read f n.book) ≡ true → IsCutOff now (Read f most_read) n.endpoint e → m ≡ node_of e n.book → ReadStops now f n m
read_cut_off now f n m e may (inl same) is = not_read (is ∙ ap (λ (x : EndpointValue). node_of x n.book) same)
read_cut_off now f n m e may (inr broke) is = in_read may (breaks_off e broke is)

pub read_heard : (now : ℕ) (f : Flow) (n m : Node) (e : EndpointValue) → (comes_in n f && may_read f n.book) ≡ true → e ≡ after_event now (Read f most_read) n.endpoint → HearingStops (node_of e n.book) m → ReadStops now f n m
read_heard now f n m e may is stops = in_read may (event_heard now (Read f most_read) n m e is stops)

pub piece_lost : (now : ℕ) (f : Flow) (n m : Node) (e : EndpointValue) (k : CallBook) → (comes_in n f && may_read f n.book) ≡ true → e ≡ after_event now (Read f most_read) n.endpoint → m ≡ hears (node_of e n.book) → k ≡ record (m.book) { begun = k.begun; counts = k.counts } → ReadStops now f n (node_of m.endpoint k)
piece_lost now f n m e k may is heard lost =
    let happened : m ≡ happens now (Read f most_read) n = heard ∙ ap (λ (x : EndpointValue). hears (node_of x n.book)) is in
    at_piece may k.begun k.counts (ap (λ (x : CallBook). node_of m.endpoint x) lost ∙ ap (λ (x : Node). with_book (λ h. record h { begun = k.begun; counts = k.counts }) x) happened)

-- SO MANY READS
module _ (now : ℕ) (f : Flow) where
  pub times_go : (i : ℕ) (n m k : Node) → ((more : ℕ) → read_times (i + more) now f n ≡ read_times more now f m) → ((again : Node → Node) → read_if again now f m ≡ again k) → (more : ℕ) → read_times ((i + 1) + more) now f n ≡ read_times more now f k
  times_go i n m k so read more =
      let same : (i + 1) + more ≡ i + suc more = omega arith in
      ap (λ (j : ℕ). read_times j now f n) same ∙ so (suc more) ∙ read (read_times more now f)

  pub times_stop : (i : ℕ) (n m k : Node) → ((more : ℕ) → read_times (i + more) now f n ≡ read_times more now f m) → ReadStops now f m k → FlowStops now f n k
  times_stop i n m k so stops = (i + 0, subst (λ (x : Node). ReadStops now f x k) (sym (so 0)) stops)

-- ONE FLOW AFTER ANOTHER
pub flows_stop : (now i : ℕ) (flows : List Flow) (d : Flow) (n m k : Node) → i < length flows → flows ≡ n.book.unread → m ≡ fold (read_flow now) n (take i flows) → FlowStops now (get_or flows i d) m k → EndStops now n k
flows_stop now i flows d n m k lt unread is stops =
    at_flow (take i flows) (drop (suc i) flows) (get_or flows i d) stops.0 (sym unread ∙ parted i flows d lt)
    (subst (λ (x : Node). ReadStops now (get_or flows i d) (read_times stops.0 now (get_or flows i d) x) k) is stops.1)

-- THE END OF A TURN
pub judging_stops : (r : Result (Unit {0}) NoMemory) (now : ℕ) (n q : Node) (h k : CallBook) → q ≡ reads now n → h ≡ sweep q.endpoint.state.host q.book → OnErr r (k ≡ h) → OnErr r (EndStops now n (node_of q.endpoint k))
judging_stops (Ok done) now n q h k read swept same = tt
judging_stops (Err fault) now n q h k read swept same =
    at_judging (ap (λ (x : CallBook). node_of q.endpoint x) (same ∙ swept) ∙ ap (λ (x : Node). with_book (sweep x.endpoint.state.host) x) read)

pub on_error : {A : Type 0} {P Q : Type 0} (r : Result A NoMemory) → (P → Q) → OnErr r P → OnErr r Q
on_error (Ok a) to h = tt
on_error (Err fault) to h = to h

-- A TURN
pub turn_cut_off : (now : ℕ) (event : Event (Unit {0})) (change : CallBook → CallBook) (n m : Node) (e : EndpointValue) → IsCutOff now event n.endpoint e → m ≡ node_of e n.book → TurnStops now event change n m
turn_cut_off now event change n m e (inl same) is = not_done (is ∙ ap (λ (x : EndpointValue). node_of x n.book) same)
turn_cut_off now event change n m e (inr broke) is = in_event (breaks_off e broke is)

pub turn_rests : (now : ℕ) (event : Event (Unit {0})) (n m : Node) (e : EndpointValue) → e ≡ after_event now event n.endpoint → RestStops now (node_of e n.book) m → TurnStops now event (λ h. h) n m
turn_rests now event n m e is (inl stops) = in_event (event_heard now event n m e is stops)
turn_rests now event n m e is (inr stops) = in_end (subst (λ (x : EndpointValue). EndStops now (hears (node_of x n.book)) m) is stops)

pub turn_heard : (now : ℕ) (event : Event (Unit {0})) (change : CallBook → CallBook) (n m : Node) (e : EndpointValue) → e ≡ after_event now event n.endpoint → HearingStops (node_of e n.book) m → TurnStops now event change n m
turn_heard now event change n m e is stops = in_event (event_heard now event n m e is stops)

pub turn_ends : (now : ℕ) (event : Event (Unit {0})) (change : CallBook → CallBook) (n q k m : Node) (e : EndpointValue) → e ≡ after_event now event n.endpoint → q ≡ hears (node_of e n.book) → k ≡ with_book change q → EndStops now k m → TurnStops now event change n m
turn_ends now event change n q k m e is heard changed stops =
    in_end (subst (λ (x : Node). EndStops now x m) (changed ∙ ap (λ (x : Node). with_book change x) (heard ∙ ap (λ (x : EndpointValue). hears (node_of x n.book)) is)) stops)

pub on_err : {A E : Type 0} (r : Result A E) (P : Type 0) → P → OnErr r P
on_err (Ok a) P p = tt
on_err (Err e) P p = p

-- A CALL
pub call_cut_off : (now : ℕ) (f : Flow) (payload : List ℕ) (patience : ℕ) (n : Node) (message : List ℕ) (e : EndpointValue) → first_refusal (call_refusals n f payload patience) ≡ None → message ≡ message_of_call payload n.book → IsCutOff now (message_event f message) n.endpoint e → CallStops now f payload patience n (node_of e n.book)
call_cut_off now f payload patience n message e clear same cut =
    let m = message_of_call payload n.book in
    record { clear = clear; turn = turn_cut_off now (message_event f m) (call_kept now f m patience n) n (node_of e n.book) e (subst (λ (k : List ℕ). IsCutOff now (message_event f k) n.endpoint e) same cut) refl }

pub call_heard : (now : ℕ) (f : Flow) (payload : List ℕ) (patience : ℕ) (n m : Node) (message : List ℕ) (e : EndpointValue) → first_refusal (call_refusals n f payload patience) ≡ None → message ≡ message_of_call payload n.book → e ≡ after_event now (message_event f message) n.endpoint → HearingStops (node_of e n.book) m → CallStops now f payload patience n m
call_heard now f payload patience n m message e clear same after stops =
    let k = message_of_call payload n.book in
    record { clear = clear; turn = turn_heard now (message_event f k) (call_kept now f k patience n) n m e (after ∙ ap (λ (x : List ℕ). after_event now (message_event f x) n.endpoint) same) stops }

pub call_changed : (now : ℕ) (f : Flow) (payload : List ℕ) (patience : ℕ) (n q k : Node) (message : List ℕ) (refused : Option Refusal) (count deadline : ℕ) → message ≡ message_of_call payload n.book → refused ≡ send_answer now f message true true n.endpoint → count ≡ length message → deadline ≡ moment_of now n.endpoint + patience
    → k ≡ with_book (with_call_unless refused f count deadline) q → k ≡ with_book (call_kept now f (message_of_call payload n.book) patience n) q
call_changed now f payload patience n q k message refused count deadline same answer len until kept =
    kept
    ∙ ap (λ (r : Option Refusal). with_book (with_call_unless r f count deadline) q) answer
    ∙ ap (λ (c : ℕ). with_book (with_call_unless (send_answer now f message true true n.endpoint) f c deadline) q) len
    ∙ ap (λ (d : ℕ). with_book (with_call_unless (send_answer now f message true true n.endpoint) f (length message) d) q) until
    ∙ ap (λ (x : List ℕ). with_book (with_call_unless (send_answer now f x true true n.endpoint) f (length x) (moment_of now n.endpoint + patience)) q) same

pub call_ends : (now : ℕ) (f : Flow) (payload : List ℕ) (patience : ℕ) (n q k m : Node) (message : List ℕ) (e : EndpointValue) (refused : Option Refusal) (count deadline : ℕ) → first_refusal (call_refusals n f payload patience) ≡ None → message ≡ message_of_call payload n.book → e ≡ after_event now (message_event f message) n.endpoint → q ≡ hears (node_of e n.book)
    → refused ≡ send_answer now f message true true n.endpoint → count ≡ length message → deadline ≡ moment_of now n.endpoint + patience → k ≡ with_book (with_call_unless refused f count deadline) q → EndStops now k m → CallStops now f payload patience n m
call_ends now f payload patience n q k m message e refused count deadline clear same after heard answer len until kept stops =
    let message' = message_of_call payload n.book in
    let changed = call_changed now f payload patience n q k message refused count deadline same answer len until kept in
    record { clear = clear; turn = turn_ends now (message_event f message') (call_kept now f message' patience n) n q k m e (after ∙ ap (λ (x : List ℕ). after_event now (message_event f x) n.endpoint) same) heard changed stops }

-- A REPLY
pub reply_cut_off : (now : ℕ) (token : Token) (payload : List ℕ) (n : Node) (f : Flow) (message : List ℕ) (e : EndpointValue) → first_refusal (reply_refusals n token payload) ≡ None → f ≡ reversed token.flow → message ≡ message_of (to_u64 token.number) payload → IsCutOff now (message_event f message) n.endpoint e → ReplyStops now token payload n (node_of e n.book)
reply_cut_off now token payload n f message e clear way same cut =
    let m = message_of (to_u64 token.number) payload in
    let g = reversed token.flow in
    record { clear = clear; turn = turn_cut_off now (message_event g m) (token_dropped now token m n) n (node_of e n.book) e (subst (λ (k : List ℕ). IsCutOff now (message_event g k) n.endpoint e) same (subst (λ (h : Flow). IsCutOff now (message_event h message) n.endpoint e) way cut)) refl }

pub sent_so : (now : ℕ) (n : Node) (f g : Flow) (x y : List ℕ) (e : EndpointValue) → f ≡ g → x ≡ y → e ≡ after_event now (message_event f x) n.endpoint → e ≡ after_event now (message_event g y) n.endpoint
sent_so now n f g x y e way same after = after ∙ ap (λ (h : Flow). after_event now (message_event h x) n.endpoint) way ∙ ap (λ (k : List ℕ). after_event now (message_event g k) n.endpoint) same

pub reply_heard : (now : ℕ) (token : Token) (payload : List ℕ) (n m : Node) (f : Flow) (message : List ℕ) (e : EndpointValue) → first_refusal (reply_refusals n token payload) ≡ None → f ≡ reversed token.flow → message ≡ message_of (to_u64 token.number) payload → e ≡ after_event now (message_event f message) n.endpoint → HearingStops (node_of e n.book) m → ReplyStops now token payload n m
reply_heard now token payload n m f message e clear way same after stops =
    let k = message_of (to_u64 token.number) payload in
    let g = reversed token.flow in
    record { clear = clear; turn = turn_heard now (message_event g k) (token_dropped now token k n) n m e (sent_so now n f g message k e way same after) stops }

pub reply_changed : (now : ℕ) (token : Token) (payload : List ℕ) (n q k : Node) (f : Flow) (message : List ℕ) (refused : Option Refusal) → f ≡ reversed token.flow → message ≡ message_of (to_u64 token.number) payload → refused ≡ send_answer now f message true true n.endpoint
    → k ≡ with_book (forgotten_unless refused token) q → k ≡ with_book (token_dropped now token (message_of (to_u64 token.number) payload) n) q
reply_changed now token payload n q k f message refused way same answer kept =
    let g = reversed token.flow in
    kept
    ∙ ap (λ (r : Option Refusal). with_book (forgotten_unless r token) q) answer
    ∙ ap (λ (h : Flow). with_book (forgotten_unless (send_answer now h message true true n.endpoint) token) q) way
    ∙ ap (λ (x : List ℕ). with_book (forgotten_unless (send_answer now g x true true n.endpoint) token) q) same

pub reply_ends : (now : ℕ) (token : Token) (payload : List ℕ) (n q k m : Node) (f : Flow) (message : List ℕ) (e : EndpointValue) (refused : Option Refusal) → first_refusal (reply_refusals n token payload) ≡ None → f ≡ reversed token.flow → message ≡ message_of (to_u64 token.number) payload → e ≡ after_event now (message_event f message) n.endpoint → q ≡ hears (node_of e n.book)
    → refused ≡ send_answer now f message true true n.endpoint → k ≡ with_book (forgotten_unless refused token) q → EndStops now k m → ReplyStops now token payload n m
reply_ends now token payload n q k m f message e refused clear way same after heard answer kept stops =
    let message' = message_of (to_u64 token.number) payload in
    let g = reversed token.flow in
    let changed = reply_changed now token payload n q k f message refused way same answer kept in
    record { clear = clear; turn = turn_ends now (message_event g message') (token_dropped now token message' n) n q k m e (sent_so now n f g message message' e way same after) heard changed stops }

-- A TOKEN IS FORGOTTEN
clear_if : (a b : Bool) → a ≡ false → b ≡ true → first_refusal {F = Forgot} ((a || not b, forgot.Gone) ∷ []) ≡ None
clear_if true b h k = absurd cc
clear_if false false h k = absurd cc
clear_if false true h k = refl

pub forget_ends : (now : ℕ) (token : Token) (n m : Node) (h : CallBook) → is_closed n ≡ false → is_open token n.book ≡ true → h ≡ forgotten token n.book → EndStops now (node_of n.endpoint h) m → ForgetStops now token n m
forget_ends now token n m h unclosed there is stops = record { clear = clear_if (is_closed n) (is_open token n.book) unclosed there; turn = subst (λ (k : CallBook). EndStops now (node_of n.endpoint k) m) is stops }
