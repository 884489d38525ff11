-- The numbers of a node's calls: where its lives differ, none comes twice.
use Rattle.std.proofs.Common.{ℕ, zero, suc, ◌+◌, ◌<◌, ◌≤◌, ◌≡◌, ◌⊎◌, ◌==◌, Bool, true, false, List, [], ◌∷◌, ◌++◌, length, Option, Some, None, refl, ap, sym, subst, ◌∙◌, inl, inr, arith}
use Rattle.std.specs.Prelude.{◌||◌, cond, option_map}
use Rattle.std.proofs.lemmas.Bool.{cases_Bool}
use Rattle.dt_reports.specs.declared.faults.Refusal.{Refusal}
use Rattle.dt_reports.specs.declared.faults.Refusal.TheVariants as refusal
use Rattle.dt_units.specs.declared.endpoints.Flow.{Flow}
use Rattle.dt_world_model.proofs.Tables.{flow_is, nat_is}
use Rattle.dt_world_model.specs.Host.{one_if}
use Rattle.dt_world_model.specs.Station.{Tick}
use Rattle.dt_world_model.specs.Tables.{look, same_flow}
use Rattle.dt_world_model.specs.WorldStep.{first_refusal}
use Rattle.dt_calls_model.specs.Messages.{message_of, reversed}
use Rattle.dt_endpoint.specs.declared.answers.Received.{Received}
use Rattle.dt_endpoint.specs.declared.answers.Received.TheVariants as arrived
use Rattle.dt_endpoint.specs.declared.answers.Ticked.{Ticked}
use Rattle.dt_endpoint.specs.declared.answers.Ticked.TheVariants as ticked
use Rattle.dt_endpoint.specs.Calls.{arrive_event, arrive_refusal, send_answer}
use Rattle.dt_endpoint.specs.Endpoints.{EndpointValue, moment_of}
use Rattle.dt_network.specs.Network.{Network, Setup}
use Rattle.dt_service_model.specs.declared.answers.Forgot.{Forgot}
use Rattle.dt_service_model.specs.declared.answers.Forgot.TheVariants as forgot
use Rattle.dt_service_model.specs.declared.answers.Made.{Made}
use Rattle.dt_service_model.specs.declared.answers.Replied.{Replied}
use Rattle.dt_service_model.specs.declared.calls.OpenCall.{OpenCall}
use Rattle.dt_service_model.specs.declared.happenings.Happening.{Happening}
use Rattle.dt_service_model.specs.declared.names.CallNumber.{CallNumber}
use Rattle.dt_service_model.specs.declared.names.Token.{Token}
use Rattle.dt_service_model.specs.declared.ports.PortKind.{PortKind}
use Rattle.dt_service_model.specs.Asked.{call, call_refusals, forget_refusals, forgotten, forgotten_unless, is_closed, is_life_in_use, made_by, made_of, message_event, next_number, or_counted, replied_by, reply_refusals, unless, with_call_unless, with_port}
use Rattle.dt_service_model.specs.Ends.{next_call, next_in}
use Rattle.dt_service_model.specs.CallBook.{CallBook, kind_in}
use Rattle.dt_service_model.specs.Names.{to_u64, same_number}
use Rattle.dt_service_model.specs.Turns.{Node, happens, turn, turn_end, with_book}
use Rattle.dt_service_laws.specs.Fates.{all_asked, all_by, calls_at}
use Rattle.dt_service_laws.specs.Histories.{Message, asked_as, at_node, at_the, call_asked, call_by, count_of, in_turn, in_turns, life_by, lives_at, made_as}
use Rattle.dt_service_laws.specs.Premises.{Differ, IsNotIn, KeepsDeed, KeepsFrom, KeepsTurn, KeepsTurns}
use Rattle.dt_service_laws.specs.Services.{Arrives, Closes, CountsFlow, Deed, Does, FindsNoMemory, Forgets, GetsRoute, GivesKind, GivesReply, MakesCall, OpensAgain, Passes, PullsFrame, Raises, Services, TakesHappening, Ticks, Turn, node_after, node_does, node_with, services_after}
use Rattle.dt_service_laws.proofs.Answering.{count_append, number_is}
use Rattle.dt_service_laws.proofs.Asked.{all_clear, first_none}
use Rattle.dt_service_laws.proofs.Keeping.{Keeps, end_keeps, happens_keeps, keeps_quietly, keeps_then, turn_keeps}
use Rattle.dt_service_laws.proofs.Leaving.{Leaves, broken_leaves}
use Rattle.dt_service_laws.proofs.Quiet.{forgotten_quiet}

-- WHAT BECOMES OF NUMBERS: they stay, or one call is made, or one may have been made and the node is closed, or a life begins
record Stays (h k : CallBook) : Type 0 where
  life : k.life ≡ h.life
  count : k.count ≡ h.count
  closes : h.closed ≡ true → k.closed ≡ true

pub record MakesOne (h k : CallBook) (made : List Message) : Type 0 where
  pub message : Message
  pub one : made ≡ message ∷ []
  pub number : message.number ≡ next_number h
  pub life : k.life ≡ h.life
  pub count : k.count ≡ h.count + 1
  pub unclosed : h.closed ≡ false

pub record MakesLast (h k : CallBook) (made : List Message) : Type 0 where
  pub message : Message
  pub is : made ≡ message ∷ []
  pub number : message.number ≡ next_number h
  pub life : k.life ≡ h.life
  pub unclosed : h.closed ≡ false
  pub closed : k.closed ≡ true

pub data Numbers (h k : CallBook) (made : List Message) (lives : List ℕ) : Type 0 where
  stay : made ≡ [] → lives ≡ [] → k.life ≡ h.life → (k.closed ≡ false → (k.count ≡ h.count) × (h.closed ≡ false)) → Numbers h k made lives
  one : MakesOne h k made → lives ≡ [] → Numbers h k made lives
  may_end : MakesLast h k made → lives ≡ [] → Numbers h k made lives
  begin : made ≡ [] → lives ≡ k.life ∷ [] → Numbers h k made lives

-- a node that is open was open before
opens_back : (a b : Bool) → (a ≡ true → b ≡ true) → b ≡ false → a ≡ false
opens_back false b closes unclosed = refl
opens_back true b closes unclosed = (let closed = closes refl in absurd cc)

stay_on : {h k : CallBook} {made : List Message} {lives : List ℕ} → made ≡ [] → lives ≡ [] → k.life ≡ h.life → k.count ≡ h.count → (h.closed ≡ true → k.closed ≡ true) → Numbers h k made lives
stay_on {h} {k} none no_life life count closes = stay none no_life life (λ unclosed. (count, opens_back h.closed k.closed closes unclosed))

made_numbers : (r : Option Refusal) (now : ℕ) (f : Flow) (count deadline : ℕ) (payload : List ℕ) (x : CallBook) (z : Node) → x.closed ≡ false → Keeps x z.book → Numbers x (turn_end now (with_book (with_call_unless r f count deadline) z)).book (made_as (made_of r x) payload) []
made_numbers None now f count deadline payload x z unclosed keeps =
    let e = end_keeps now (with_book (with_call_unless None f count deadline) z) in
    one (record { message = record { number = next_number x; carried = payload }; one = refl; number = refl; life = e.life ∙ keeps.life; count = e.count ∙ ap (λ (k : ℕ). k + 1) keeps.count; unclosed = unclosed }) refl
made_numbers (Some (refusal.Quiet until)) now f count deadline payload x z unclosed keeps = let e = end_keeps now z in stay_on refl refl (e.life ∙ keeps.life) (e.count ∙ keeps.count) (λ c. e.closes (keeps.closes c))
made_numbers (Some (refusal.Full free)) now f count deadline payload x z unclosed keeps = let e = end_keeps now z in stay_on refl refl (e.life ∙ keeps.life) (e.count ∙ keeps.count) (λ c. e.closes (keeps.closes c))

not_closed : (spent closed : Bool) → (spent || closed) ≡ false → closed ≡ false
not_closed true closed h = absurd cc
not_closed false closed h = h

call_numbers : (o : Option Made) (now : ℕ) (f : Flow) (payload : List ℕ) (patience : ℕ) (x : Node) → first_refusal (call_refusals x f payload patience) ≡ o
    → let r = unless o x (made_by now f (message_of (to_u64 (next_number x.book)) payload) patience x) in Numbers x.book r.1.book (made_as r.0 payload) []
call_numbers (Some a) now f payload patience x is = stay_on (first_none (λ (r : Made). made_as r payload) (call_refusals x f payload patience) a (refl, (refl, (refl, (refl, (refl, (refl, (refl, (refl, tt)))))))) is) refl refl refl (λ c. c)
call_numbers None now f payload patience x is =
    let message = message_of (to_u64 (next_number x.book)) payload in
    let c = all_clear (call_refusals x f payload patience) is in
    made_numbers (send_answer now f message true true x.endpoint) now f (length message) (moment_of now x.endpoint + patience) payload x.book (happens now (message_event f message) x) (not_closed x.endpoint.spent x.book.closed c.0) (happens_keeps now (message_event f message) x)

-- one that found no memory is the last of its life
closed_not : (b : Bool) → b ≡ true → b ≡ false → ⊥
closed_not true h k = cc
closed_not false h k = cc

asked_numbers : (o : Option Made) (f : Flow) (payload : List ℕ) (patience : ℕ) (x : Node) (k : CallBook) → first_refusal (call_refusals x f payload patience) ≡ o → Leaves x.book k → Numbers x.book k (asked_as o (next_number x.book) payload) []
asked_numbers (Some a) f payload patience x k is l = stay refl refl l.life (λ unclosed. absurd (closed_not k.closed l.closed unclosed))
asked_numbers None f payload patience x k is l =
    let c = all_clear (call_refusals x f payload patience) is in
    may_end (record { message = record { number = next_number x.book; carried = payload }; is = refl; number = refl; life = l.life; unclosed = not_closed x.endpoint.spent x.book.closed c.0; closed = l.closed }) refl

broken_numbers : (deed : Deed) (x y : Node) → Leaves x.book y.book → Numbers x.book y.book (all_asked deed x) []
broken_numbers (MakesCall now f payload patience) x y l = asked_numbers (first_refusal (call_refusals x f payload patience)) f payload patience x y.book refl l
broken_numbers (GivesKind port kind) x y l = stay refl refl l.life (λ unclosed. absurd (closed_not y.book.closed l.closed unclosed))
broken_numbers (GivesReply now token payload) x y l = stay refl refl l.life (λ unclosed. absurd (closed_not y.book.closed l.closed unclosed))
broken_numbers (Forgets now token) x y l = stay refl refl l.life (λ unclosed. absurd (closed_not y.book.closed l.closed unclosed))
broken_numbers (Ticks now) x y l = stay refl refl l.life (λ unclosed. absurd (closed_not y.book.closed l.closed unclosed))
broken_numbers (Arrives now link datagram waited) x y l = stay refl refl l.life (λ unclosed. absurd (closed_not y.book.closed l.closed unclosed))
broken_numbers (Raises life) x y l = stay refl refl l.life (λ unclosed. absurd (closed_not y.book.closed l.closed unclosed))
broken_numbers TakesHappening x y l = stay refl refl l.life (λ unclosed. absurd (closed_not y.book.closed l.closed unclosed))
broken_numbers PullsFrame x y l = stay refl refl l.life (λ unclosed. absurd (closed_not y.book.closed l.closed unclosed))
broken_numbers (GetsRoute route answer added) x y l = stay refl refl l.life (λ unclosed. absurd (closed_not y.book.closed l.closed unclosed))
broken_numbers (CountsFlow flow counted) x y l = stay refl refl l.life (λ unclosed. absurd (closed_not y.book.closed l.closed unclosed))
broken_numbers Closes x y l = stay refl refl l.life (λ unclosed. absurd (closed_not y.book.closed l.closed unclosed))
broken_numbers (OpensAgain again options most life) x y l = stay refl refl l.life (λ unclosed. absurd (closed_not y.book.closed l.closed unclosed))
broken_numbers (FindsNoMemory deed before) x y l = broken_numbers deed x y l

stays_through : (h k l : CallBook) → Stays h k → Stays k l → Stays h l
stays_through h k l p q = record { life = q.life ∙ p.life; count = q.count ∙ p.count; closes = λ c. q.closes (p.closes c) }

stays_kept : (h k : CallBook) → Keeps h k → Stays h k
stays_kept h k keeps = record { life = keeps.life; count = keeps.count; closes = keeps.closes }

forgot_stays : (r : Option Refusal) (token : Token) (h : CallBook) → Stays h (forgotten_unless r token h)
forgot_stays None token h = record { life = refl; count = refl; closes = λ c. c }
forgot_stays (Some r) token h = record { life = refl; count = refl; closes = λ c. c }

reply_stays : (o : Option Replied) (now : ℕ) (token : Token) (message : List ℕ) (x : Node) → Stays x.book (unless o x (replied_by now token message x)).1.book
reply_stays (Some a) now token message x = record { life = refl; count = refl; closes = λ c. c }
reply_stays None now token message x =
    let z = happens now (message_event (reversed token.flow) message) x in
    let r = send_answer now (reversed token.flow) message true true x.endpoint in
    let k = forgotten_unless r token z.book in
    stays_through x.book z.book _ (stays_kept x.book z.book (happens_keeps now (message_event (reversed token.flow) message) x))
    (stays_through z.book k _ (forgot_stays r token z.book) (stays_kept k _ (end_keeps now (with_book (forgotten_unless r token) z))))

forget_stays : (o : Option Forgot) (now : ℕ) (token : Token) (x : Node) → Stays x.book (unless o x (forgot.Done, turn_end now (with_book (forgotten token) x))).1.book
forget_stays (Some a) now token x = record { life = refl; count = refl; closes = λ c. c }
forget_stays None now token x = stays_kept x.book _ (keeps_then x.book (forgotten token x.book) _ (keeps_quietly x.book (forgotten token x.book) (forgotten_quiet token x.book)) (end_keeps now (with_book (forgotten token) x)))

tick_stays : (b : Bool) (now : ℕ) (x : Node) → Stays x.book (cond {A = Ticked × Node} b (ticked.Spent, x) (ticked.Done, turn now Tick x)).1.book
tick_stays true now x = record { life = refl; count = refl; closes = λ c. c }
tick_stays false now x = stays_kept x.book _ (turn_keeps now Tick x)

arrive_stays : (c : Bool) (o : Option Received) (now link : ℕ) (datagram : List ℕ) (waited : ℕ) (x : Node) → Stays x.book (cond {A = Received × Node} c (arrived.Spent, x) (or_counted o x (arrived.Done, turn now (arrive_event link datagram waited) x))).1.book
arrive_stays true o now link datagram waited x = record { life = refl; count = refl; closes = λ c. c }
arrive_stays false (Some a) now link datagram waited x = record { life = refl; count = refl; closes = λ c. c }
arrive_stays false None now link datagram waited x = stays_kept x.book (turn now (arrive_event link datagram waited) x).book (turn_keeps now (arrive_event link datagram waited) x)

kind_stays : (port : ℕ) (o : Option PortKind) (kind : PortKind) (h : CallBook) → Stays h (with_port port o kind h)
kind_stays port (Some k) kind h = record { life = refl; count = refl; closes = λ c. c }
kind_stays port None kind h = record { life = refl; count = refl; closes = λ c. c }

next_stays : (calls : List OpenCall) (h : CallBook) → Stays h (next_call calls h).1
next_stays [] h = record { life = refl; count = refl; closes = λ c. c }
next_stays (call ∷ calls) h = record { life = refl; count = refl; closes = λ c. c }

closed_stays : (b : Bool) (h : CallBook) → Stays h (cond {A = Option Happening × CallBook} b (next_call h.calls h) (None, h)).1
closed_stays true h = next_stays h.calls h
closed_stays false h = record { life = refl; count = refl; closes = λ c. c }

taken_stays : (told : List Happening) (h : CallBook) → Stays h (next_in told h).1
taken_stays [] h = closed_stays h.closed h
taken_stays (x ∷ told) h = record { life = refl; count = refl; closes = λ c. c }

stays_numbers : (h k : CallBook) → Stays h k → Numbers h k [] []
stays_numbers h k s = stay_on refl refl s.life s.count s.closes

raise_numbers : (b : Bool) (life : ℕ) (h : CallBook) → Numbers h (cond b h (record h { life = life; count = 0 })) [] (cond b [] (life ∷ []))
raise_numbers true life h = stay_on refl refl refl refl (λ c. c)
raise_numbers false life h = begin refl refl

pub deed_numbers : (setup : Setup) (n : ℕ) (net : Network) (deed : Deed) (x : Node) → KeepsDeed setup net n deed x → Numbers x.book (node_after setup n deed x).book (all_by deed x) (life_by deed x)
deed_numbers setup n net (MakesCall now f payload patience) x keeps = call_numbers (first_refusal (call_refusals x f payload patience)) now f payload patience x refl
deed_numbers setup n net (GivesKind port kind) x keeps = stays_numbers x.book _ (kind_stays port (kind_in port x.book.ports) kind x.book)
deed_numbers setup n net (GivesReply now token payload) x keeps = stays_numbers x.book _ (reply_stays (first_refusal (reply_refusals x token payload)) now token (message_of (to_u64 token.number) payload) x)
deed_numbers setup n net (Forgets now token) x keeps = stays_numbers x.book _ (forget_stays (first_refusal (forget_refusals x token)) now token x)
deed_numbers setup n net (Ticks now) x keeps = stays_numbers x.book _ (tick_stays (is_closed x) now x)
deed_numbers setup n net (Arrives now link datagram waited) x keeps = stays_numbers x.book _ (arrive_stays (is_closed x) (arrive_refusal link datagram waited x.endpoint) now link datagram waited x)
deed_numbers setup n net (Raises life) x keeps = raise_numbers (is_life_in_use life x.book) life x.book
deed_numbers setup n net TakesHappening x keeps = stays_numbers x.book _ (taken_stays x.book.happenings x.book)
deed_numbers setup n net PullsFrame x keeps = stay_on refl refl refl refl (λ c. c)
deed_numbers setup n net (GetsRoute route answer added) x keeps = stay_on refl refl refl refl (λ c. c)
deed_numbers setup n net (CountsFlow flow counted) x keeps = stay_on refl refl refl refl (λ c. c)
deed_numbers setup n net Closes x keeps = stay_on refl refl refl refl (λ c. refl)
deed_numbers setup n net (OpensAgain again options most life) x keeps = begin refl refl
deed_numbers setup n net (FindsNoMemory deed after) x keeps = broken_numbers deed x after (broken_leaves deed x after keeps.1)

pub zero_or_more : (n : ℕ) → (n ≡ 0) ⊎ (0 < n)
zero_or_more zero = inl refl
zero_or_more (suc n) = inr (omega arith)

-- A TURN, at one node
module _ (setup : Setup) (c : ℕ) where
  abbrev pub made_turn : Turn → Services → List Message
  made_turn t s = in_turn (at_the c (λ n. all_by)) t s

  abbrev pub lives_turn : Turn → Services → List ℕ
  lives_turn t s = in_turn (at_the c (λ n. life_by)) t s

  by_node : (s : Services) (n : ℕ) (deed : Deed) (o : Option EndpointValue) → KeepsFrom setup s.network n deed (option_map (node_with n s) o) → Numbers (s.book c) ((node_does setup n deed s (option_map (node_with n s) o)).book c) (at_node (at_the c (λ n. all_by) n deed) (option_map (node_with n s) o)) (at_node (at_the c (λ n. life_by) n deed) (option_map (node_with n s) o))
  by_node s n deed None keeps = stay_on refl refl refl refl (λ c. c)
  by_node s n deed (Some e) keeps = by_test (n == c) refl (deed_numbers setup n s.network deed (node_with n s e) keeps)
    where
      by_test : (b : Bool) → (n == c) ≡ b → (let x = node_with n s e in Numbers x.book (node_after setup n deed x).book (all_by deed x) (life_by deed x))
          → let x = node_with n s e in Numbers (s.book c) (cond b (node_after setup n deed x).book (s.book c)) (cond b (all_by deed x) []) (cond b (life_by deed x) [])
      by_test true is h = subst (λ (k : ℕ). let x = node_with n s e in Numbers (s.book k) (node_after setup n deed x).book (all_by deed x) (life_by deed x)) (nat_is n c is) h
      by_test false is h = stay_on refl refl refl refl (λ c. c)

  pub turn_numbers : (t : Turn) (s : Services) → KeepsTurn setup t s → Numbers (s.book c) ((services_after setup t s).book c) (made_turn t s) (lives_turn t s)
  turn_numbers (Passes by) s keeps = stay_on refl refl refl refl (λ c. c)
  turn_numbers (Does n deed) s keeps = by_node s n deed (look ◌==◌ n s.network.endpoints) keeps

  -- ALL TURNS
  abbrev pub IsIn : ℕ → List ℕ → Type 0
  IsIn x [] = ⊥
  IsIn x (y ∷ ys) = (x ≡ y) ⊎ IsIn x ys

  not_both : (x : ℕ) (xs : List ℕ) → IsNotIn x xs → IsIn x xs → ⊥
  not_both x [] out found = found
  not_both x (y ∷ ys) out (inl same) = out.0 same
  not_both x (y ∷ ys) out (inr more) = not_both x ys out.1 more

  -- numbers that a node may still give
  abbrev pub MayCome : CallBook → List ℕ → CallNumber → Type 0
  MayCome h lives m = ((m.life ≡ h.life) × (h.count ≤ m.count) × (h.closed ≡ false)) ⊎ IsIn m.life lives

  pub record AreOnce (h : CallBook) (made : List Message) (lives : List ℕ) (m : CallNumber) : Type 0 where
    pub once : count_of m made ≤ 1
    pub from : 0 < count_of m made → MayCome h lives m

  -- that number is after, and its life doesn't come again
  none_behind : (h k : CallBook) (rest : List Message) (lives : List ℕ) (m : CallNumber) → ((m.life ≡ k.life) × (k.count ≤ m.count) × (k.closed ≡ false) → ⊥) → m.life ≡ h.life → Differ (h.life ∷ lives) → AreOnce k rest lives m → count_of m rest ≡ 0
  none_behind h k rest lives m never life differ r =
      elim (zero_or_more (count_of m rest)) [
        | inl none ↦ none
        | inr some ↦ elim (r.from some) [ inl on ↦ absurd (never on) | inr later ↦ absurd (not_both h.life lives differ.0 (subst (λ (l : ℕ). IsIn l lives) life later)) ]
      ]

  -- one call is made, and after it come other numbers
  once_with : (h k : CallBook) (message : Message) (rest : List Message) (lives : List ℕ) (m : CallNumber) → message.number ≡ next_number h → h.closed ≡ false → Differ (h.life ∷ lives) → (m ≡ next_number h → (m.life ≡ k.life) × (k.count ≤ m.count) × (k.closed ≡ false) → ⊥)
      → ((m.life ≡ k.life) × (k.count ≤ m.count) × (k.closed ≡ false) → MayCome h lives m) → AreOnce k rest lives m → AreOnce h (message ∷ rest) lives m
  once_with h k message rest lives m number unclosed differ never back r =
      elim (cases_Bool (same_number message.number m)) [
        | inl y ↦
            let same : m ≡ next_number h = sym (number_is message.number m y) ∙ number in
            let life : m.life ≡ h.life = ap (λ (n : CallNumber). n.life) same in
            let count : m.count ≡ h.count = ap (λ (n : CallNumber). n.count) same in
            let here : one_if (same_number message.number m) ≡ 1 = ap one_if y in
            let none : count_of m rest ≡ 0 = none_behind h k rest lives m (never same) life differ r in
            record { once = omega (arith, here, none); from = λ some. inl (life, omega (arith, count), unclosed) }
        | inr o ↦
            let here : one_if (same_number message.number m) ≡ 0 = ap one_if o in
            let once = r.once in
            record { once = omega (arith, here, once); from = λ some. elim (r.from (omega (arith, here, some))) [ inl on ↦ back on | inr later ↦ inr later ] }
      ]

  -- made by the turn that begins
  once_made : (h k : CallBook) (message : Message) (first rest : List Message) (begun lives : List ℕ) (m : CallNumber) → first ≡ message ∷ [] → begun ≡ [] → message.number ≡ next_number h → k.life ≡ h.life → h.closed ≡ false → Differ (h.life ∷ (begun ++ lives)) → (Differ (k.life ∷ lives) → AreOnce k rest lives m)
      → (m ≡ next_number h → (m.life ≡ k.life) × (k.count ≤ m.count) × (k.closed ≡ false) → ⊥) → ((m.life ≡ k.life) × (k.count ≤ m.count) × (k.closed ≡ false) → MayCome h lives m) → AreOnce h (first ++ rest) (begun ++ lives) m
  once_made h k message first rest begun lives m is no_life number life unclosed differ more never back =
      subst (λ (xs : List Message). AreOnce h (xs ++ rest) (begun ++ lives) m) (sym is)
      (subst (λ (ls : List ℕ). AreOnce h (message ∷ rest) (ls ++ lives) m) (sym no_life)
      (let d : Differ (h.life ∷ lives) = subst (λ (ls : List ℕ). Differ (h.life ∷ (ls ++ lives))) no_life differ in
      once_with h k message rest lives m number unclosed d never back (more (subst (λ (l : ℕ). Differ (l ∷ lives)) (sym life) d))))

  once_then : (h k : CallBook) (first rest : List Message) (begun lives : List ℕ) (m : CallNumber) → Numbers h k first begun → Differ (h.life ∷ (begun ++ lives)) → (Differ (k.life ∷ lives) → AreOnce k rest lives m) → AreOnce h (first ++ rest) (begun ++ lives) m
  once_then h k first rest begun lives m (stay none no_life life unclosed) differ more =
      subst (λ (xs : List Message). AreOnce h (xs ++ rest) (begun ++ lives) m) (sym none)
      (subst (λ (ls : List ℕ). AreOnce h rest (ls ++ lives) m) (sym no_life)
      (let d : Differ (k.life ∷ lives) = subst (λ (l : ℕ). Differ (l ∷ lives)) (sym life) (subst (λ (ls : List ℕ). Differ (h.life ∷ (ls ++ lives))) no_life differ) in
      let r = more d in
      record { once = r.once; from = λ some. elim (r.from some) [ inl here ↦ (let was = unclosed here.2 in inl (here.0 ∙ life, (let l = here.1 in let e = was.0 in omega (arith, l, e)), was.1)) | inr later ↦ inr later ] }))
  once_then h k first rest begun lives m (may_end made no_life) differ more =
      let never : (m.life ≡ k.life) × (k.count ≤ m.count) × (k.closed ≡ false) → ⊥ = λ on. closed_not k.closed made.closed on.2 in
      once_made h k made.message first rest begun lives m made.is no_life made.number made.life made.unclosed differ more (λ same. never) (λ on. absurd (never on))
  once_then h k first rest begun lives m (begin none one_life) differ more =
      subst (λ (xs : List Message). AreOnce h (xs ++ rest) (begun ++ lives) m) (sym none)
      (subst (λ (ls : List ℕ). AreOnce h rest (ls ++ lives) m) (sym one_life)
      (let d : Differ (h.life ∷ k.life ∷ lives) = subst (λ (ls : List ℕ). Differ (h.life ∷ (ls ++ lives))) one_life differ in
      let r = more d.1 in
      record { once = r.once; from = λ some. elim (r.from some) [ inl here ↦ inr (inl here.0) | inr later ↦ inr (inr later) ] }))
  once_then h k first rest begun lives m (one made no_life) differ more =
      once_made h k made.message first rest begun lives m made.one no_life made.number made.life made.unclosed differ more
      (λ same on. (let l = on.1 in let e = made.count in let c = ap (λ (n : CallNumber). n.count) same in absurd (omega (arith, l, e, c))))
      (λ on. inl (on.0 ∙ made.life, (let l = on.1 in let e = made.count in omega (arith, l, e)), made.unclosed))

  pub numbers_once : (turns : List Turn) (s : Services) (m : CallNumber) → KeepsTurns setup turns s → Differ ((s.book c).life ∷ lives_at c setup turns s) → AreOnce (s.book c) (calls_at c setup turns s) (lives_at c setup turns s) m
  numbers_once [] s m keeps differ = record { once = omega arith; from = λ some. absurd (omega (arith, some)) }
  numbers_once (t ∷ turns) s m keeps differ =
      let v = services_after setup t s in
      once_then (s.book c) (v.book c) (made_turn t s) (calls_at c setup turns v) (lives_turn t s) (lives_at c setup turns v) m (turn_numbers t s keeps.0) differ (λ d. numbers_once turns v m keeps.1 d)

  -- CALLS OF TWO FLOWS are among all of its calls
  two_of : (m : CallNumber) (f g : Flow) (ms : List Message) (k : Flow) → same_flow g f ≡ false → count_of m (cond (same_flow k f) ms []) + count_of m (cond (same_flow k g) ms []) ≤ count_of m ms
  two_of m f g ms k apart =
      elim (cases_Bool (same_flow k f)) [
        | inl y ↦
            let no : same_flow k g ≡ false = not_too f g k y apart in
            rw (y, no) (omega arith)
        | inr o ↦ elim (cases_Bool (same_flow k g)) [ inl y ↦ rw (o, y) (omega arith) | inr n ↦ rw (o, n) (omega arith) ]
      ]
    where
      not_too : (f g k : Flow) → same_flow k f ≡ true → same_flow g f ≡ false → same_flow k g ≡ false
      not_too f g k y apart =
          elim (cases_Bool (same_flow k g)) [
            | inl same ↦ (let wrong : same_flow g f ≡ true = subst (λ (j : Flow). same_flow j f ≡ true) (flow_is k g same) y in absurd cc)
            | inr o ↦ o
          ]

  two_asked : (m : CallNumber) (f g : Flow) → same_flow g f ≡ false → (deed : Deed) (x : Node) → count_of m (call_asked f deed x) + count_of m (call_asked g deed x) ≤ count_of m (all_asked deed x)
  two_asked m f g apart (MakesCall now k payload patience) x = two_of m f g (asked_as (first_refusal (call_refusals x k payload patience)) (next_number x.book) payload) k apart
  two_asked m f g apart (GivesKind port kind) x = omega arith
  two_asked m f g apart (GivesReply now token payload) x = omega arith
  two_asked m f g apart (Forgets now token) x = omega arith
  two_asked m f g apart (Ticks now) x = omega arith
  two_asked m f g apart (Arrives now link datagram waited) x = omega arith
  two_asked m f g apart (Raises life) x = omega arith
  two_asked m f g apart TakesHappening x = omega arith
  two_asked m f g apart PullsFrame x = omega arith
  two_asked m f g apart (GetsRoute route answer added) x = omega arith
  two_asked m f g apart (CountsFlow flow counted) x = omega arith
  two_asked m f g apart Closes x = omega arith
  two_asked m f g apart (OpensAgain again options most life) x = omega arith
  two_asked m f g apart (FindsNoMemory deed after) x = two_asked m f g apart deed x

  two_by : (m : CallNumber) (f g : Flow) → same_flow g f ≡ false → (deed : Deed) (x : Node) → count_of m (call_by f deed x) + count_of m (call_by g deed x) ≤ count_of m (all_by deed x)
  two_by m f g apart (MakesCall now k payload patience) x = two_of m f g (made_as (call now k payload patience x).0 payload) k apart
  two_by m f g apart (GivesKind port kind) x = omega arith
  two_by m f g apart (GivesReply now token payload) x = omega arith
  two_by m f g apart (Forgets now token) x = omega arith
  two_by m f g apart (Ticks now) x = omega arith
  two_by m f g apart (Arrives now link datagram waited) x = omega arith
  two_by m f g apart (Raises life) x = omega arith
  two_by m f g apart TakesHappening x = omega arith
  two_by m f g apart PullsFrame x = omega arith
  two_by m f g apart (GetsRoute route answer added) x = omega arith
  two_by m f g apart (CountsFlow flow counted) x = omega arith
  two_by m f g apart Closes x = omega arith
  two_by m f g apart (OpensAgain again options most life) x = omega arith
  two_by m f g apart (FindsNoMemory deed after) x = two_asked m f g apart deed x

  two_at : (m : CallNumber) (f g : Flow) → same_flow g f ≡ false → (n : ℕ) (deed : Deed) (o : Option Node) → count_of m (at_node (at_the c (λ n. call_by f) n deed) o) + count_of m (at_node (at_the c (λ n. call_by g) n deed) o) ≤ count_of m (at_node (at_the c (λ n. all_by) n deed) o)
  two_at m f g apart n deed None = omega arith
  two_at m f g apart n deed (Some x) = by_test (n == c)
    where
      by_test : (b : Bool) → count_of m (cond b (call_by f deed x) []) + count_of m (cond b (call_by g deed x) []) ≤ count_of m (cond b (all_by deed x) [])
      by_test true = two_by m f g apart deed x
      by_test false = omega arith

  two_in : (m : CallNumber) (f g : Flow) → same_flow g f ≡ false → (t : Turn) (s : Services) → count_of m (in_turn (at_the c (λ n. call_by f)) t s) + count_of m (in_turn (at_the c (λ n. call_by g)) t s) ≤ count_of m (made_turn t s)
  two_in m f g apart (Passes by) s = omega arith
  two_in m f g apart (Does n deed) s = two_at m f g apart n deed (option_map (node_with n s) (look ◌==◌ n s.network.endpoints))

  pub two_flows : (m : CallNumber) (f g : Flow) → same_flow g f ≡ false → (turns : List Turn) (s : Services) → count_of m (in_turns (at_the c (λ n. call_by f)) setup turns s) + count_of m (in_turns (at_the c (λ n. call_by g)) setup turns s) ≤ count_of m (calls_at c setup turns s)
  two_flows m f g apart [] s = omega arith
  two_flows m f g apart (t ∷ turns) s =
      let v = services_after setup t s in
      let a = two_in m f g apart t s in
      let b = two_flows m f g apart turns v in
      let p = count_append m (in_turn (at_the c (λ n. call_by f)) t s) (in_turns (at_the c (λ n. call_by f)) setup turns v) in
      let q = count_append m (in_turn (at_the c (λ n. call_by g)) t s) (in_turns (at_the c (λ n. call_by g)) setup turns v) in
      let r = count_append m (made_turn t s) (calls_at c setup turns v) in
      omega (arith, a, b, p, q, r)
