-- Each call has one end, or waits, or was lost with its program: the accounts of the numbers of a node, over all turns.
use Rattle.std.proofs.Common.{ℕ, ◌+◌, ◌≤◌, ◌≡◌, ◌==◌, Bool, true, false, List, [], ◌∷◌, ◌++◌, drop, length, map, filter, Option, Some, None, refl, ap, sym, subst, ◌∙◌, append-nil, append_assoc, drop_of_length-le, inl, inr, arith}
use Rattle.std.specs.Prelude.{◌||◌, cond, option_map}
use Rattle.std.proofs.Math.Seq.{drop-append_seam, drop-length, drop-nil}
use Rattle.std.proofs.lemmas.Bool.{cases_Bool}
use Rattle.std.proofs.lemmas.List.{length-append, length-map}
use Rattle.dt_units.specs.declared.endpoints.Flow.{Flow}
use Rattle.dt_reports.specs.declared.faults.Refusal.{Refusal}
use Rattle.dt_world_model.proofs.Tables.{nat_is}
use Rattle.dt_world_model.specs.Station.{Tick}
use Rattle.dt_world_model.specs.Tables.{look}
use Rattle.dt_world_model.specs.WorldStep.{first_refusal}
use Rattle.dt_calls_model.specs.Messages.{message_of, reversed}
use Rattle.dt_endpoint.specs.declared.answers.Received.{Received}
use Rattle.dt_endpoint.specs.declared.answers.Received.TheVariants as arrived
use Rattle.dt_endpoint.specs.declared.answers.Ticked.{Ticked}
use Rattle.dt_endpoint.specs.declared.answers.Ticked.TheVariants as ticked
use Rattle.dt_endpoint.specs.Calls.{arrive_event, arrive_refusal, send_answer}
use Rattle.dt_endpoint.specs.Endpoints.{EndpointValue, after_event, moment_of}
use Rattle.dt_network.specs.Network.{Network, Setup}
use Rattle.dt_service_model.specs.declared.answers.Forgot.{Forgot}
use Rattle.dt_service_model.specs.declared.answers.Forgot.TheVariants as forgot
use Rattle.dt_service_model.specs.declared.answers.Made.{Made}
use Rattle.dt_service_model.specs.declared.answers.Made.TheVariants as made
use Rattle.dt_service_model.specs.declared.answers.Replied.{Replied}
use Rattle.dt_service_model.specs.declared.calls.OpenCall.{OpenCall}
use Rattle.dt_service_model.specs.declared.happenings.Happening.{Happening}
use Rattle.dt_service_model.specs.declared.names.CallNumber.{CallNumber}
use Rattle.dt_service_model.specs.declared.names.Token.{Token}
use Rattle.dt_service_model.specs.declared.ports.PortKind.{PortKind}
use Rattle.dt_service_model.specs.Accounts.{account, ends_in, made_in, waits_in}
use Rattle.dt_service_model.specs.Asked.{call, call_refusals, forget_refusals, forgotten, forgotten_unless, is_closed, is_life_in_use, made_by, made_of, message_event, next_number, or_counted, replied_by, reply_refusals, unless, with_call_unless, with_port}
use Rattle.dt_service_model.specs.Ends.{close, closing_of, next_call, next_in, told_by}
use Rattle.dt_service_model.specs.CallBook.{CallBook, kind_in}
use Rattle.dt_service_model.specs.Names.{to_u64}
use Rattle.dt_service_model.specs.Stopping.{GoesOn, BookGoesOn, one_more}
use Rattle.dt_service_model.specs.Turns.{Node, happens, turn, turn_end, with_book}
use Rattle.dt_service_model.proofs.Accounts.{ends_append}
use Rattle.dt_service_model.proofs.Going.{arrive_part, call_part, forget_part, reply_part, tick_part}
use Rattle.dt_service_model.proofs.Making.{added, numbers_heard}
use Rattle.dt_service_model.proofs.Turning.{end_keeps, happens_keeps}
use Rattle.dt_service_laws.specs.Fates.{all_asked, all_by, lost_at, lost_by, still_in, told_at, told_in}
use Rattle.dt_service_laws.specs.Histories.{Message, asked_as, at_node, at_the, count_of, in_turn, made_as}
use Rattle.dt_service_laws.specs.Premises.{BreaksBy, KeepsDeed, KeepsFrom, KeepsTurn, KeepsTurns}
use Rattle.dt_service_laws.specs.Services.{Arrives, Closes, CountsFlow, Deed, Does, FindsNoMemory, Forgets, GetsRoute, GivesKind, GivesReply, MakesCall, OpensAgain, Passes, PullsFrame, Raises, Services, TakesHappening, Ticks, Turn, node_after, node_does, node_with, services_after, services_by}
use Rattle.dt_service_laws.specs.Tie.{AreSentOf, IsSentOf, finds_memory, has_memory}
use Rattle.dt_service_laws.proofs.Answering.{count_append}
use Rattle.dt_service_laws.proofs.Asked.{all_clear, first_none}
use Rattle.dt_service_model.proofs.Growing.{Grows, end_grows, grows_same, grows_through, happens_tells}

-- THE ACCOUNT of a number over what is done: what waited or is made has an end, waits on, or is lost
pub record Sums (m : CallNumber) (h k : CallBook) (calls : List Message) (told : List Happening) (lost : List OpenCall) : Type 0 where
  pub sum : waits_in m (still_in h) + count_of m calls ≡ ends_in m told + waits_in m (still_in k) + waits_in m lost

abbrev pub told_of : CallBook → CallBook → List Happening
told_of h k = drop (length (told_by h)) (told_by k)

-- of a node that isn't closed all that was told are its happenings
pub all_told : (h : CallBook) → h.closed ≡ false → told_by h ≡ h.happenings
all_told h open_h = ap (λ (b : Bool). h.happenings ++ cond b (map closing_of h.calls) []) open_h ∙ append-nil h.happenings

still_all : (h : CallBook) → h.closed ≡ false → still_in h ≡ h.calls
still_all h open_h = ap (λ (b : Bool). cond b [] h.calls) open_h

pub told_more : (h k : CallBook) → h.closed ≡ false → (g : Grows h k) → told_of h k ≡ g.told
told_more h k open_h g =
    ap (λ (ts : List Happening). drop (length ts) (told_by k)) (all_told h open_h)
    ∙ ap (drop (length h.happenings)) (all_told k (g.closed ∙ open_h) ∙ g.happenings)
    ∙ drop-append_seam h.happenings g.told

-- nothing changes
sums_same : (m : CallNumber) (h : CallBook) (calls : List Message) → calls ≡ [] → Sums m h h calls (told_of h h) []
sums_same m h calls none =
    let a = ap (count_of m) none in
    let b = ap (ends_in m) (drop-length (told_by h)) in
    record { sum = omega (arith, a, b) }

-- the end of a turn, from a book whose account is that of before and of what is made
sums_end : (m : CallNumber) (now : ℕ) (x z : Node) (calls : List Message) → x.book.closed ≡ false → Grows x.book z.book → account m z.book ≡ account m x.book + count_of m calls → Sums m x.book (turn_end now z).book calls (told_of x.book (turn_end now z).book) []
sums_end m now x z calls open_x grows kept =
    let h = x.book in
    let k = (turn_end now z).book in
    let g = grows_through h z.book k grows (end_grows now z) in
    let a = end_keeps m now z in
    let b = ap (ends_in m) g.happenings ∙ ends_append m h.happenings g.told in
    let c = ap (waits_in m) (still_all h open_x) in
    let d = ap (waits_in m) (still_all k (g.closed ∙ open_x)) in
    let e = ap (ends_in m) (told_more h k open_x g) in
    record { sum = omega (arith, kept, a, b, c, d, e) }

-- A CALL
made_counts : (m : CallNumber) (a : Made) (payload : List ℕ) → count_of m (made_as a payload) ≡ made_in m a
made_counts m (made.Call number) payload = omega arith
made_counts m (made.Declined why) payload = refl
made_counts m (made.Refused why) payload = refl
made_counts m made.NoMemory payload = refl

pub either_false : (a b : Bool) → (a || b) ≡ false → b ≡ false
either_false true b h = absurd cc
either_false false b h = h

pub either_first : (a b : Bool) → (a || b) ≡ false → a ≡ false
either_first true b h = absurd cc
either_first false b h = refl

pub call_grows : (o : Option Refusal) (f : Flow) (count deadline : ℕ) (h : CallBook) → Grows h (with_call_unless o f count deadline h)
call_grows None f count deadline h = grows_same h _ refl refl
call_grows (Some r) f count deadline h = grows_same h h refl refl

forgot_grows : (o : Option Refusal) (token : Token) (h : CallBook) → Grows h (forgotten_unless o token h)
forgot_grows None token h = grows_same h _ refl refl
forgot_grows (Some r) token h = grows_same h h refl refl

forgot_keeps : (m : CallNumber) (o : Option Refusal) (token : Token) (h : CallBook) → account m (forgotten_unless o token h) ≡ account m h
forgot_keeps m None token h = refl
forgot_keeps m (Some r) token h = refl

-- WHAT WAS TOLD IS TAKEN: nothing more is told
none_told : (h k : CallBook) → length (told_by k) ≤ length (told_by h) → told_of h k ≡ []
none_told h k le = drop_of_length-le (told_by k) le

next_told : (calls : List OpenCall) (h : CallBook) → h.closed ≡ true → h.calls ≡ calls → told_of h (next_call calls h).1 ≡ []
next_told [] h closed is = drop-length (told_by h)
next_told (call ∷ calls) h closed is =
    let k : CallBook = record h { calls = calls } in
    let p = length-append h.happenings (cond h.closed (map closing_of h.calls) []) in
    let q = length-append h.happenings (cond h.closed (map closing_of calls) []) in
    let r = ap (λ (b : Bool). length (cond b (map closing_of h.calls) [])) closed ∙ length-map h.calls closing_of ∙ ap length is in
    let s = ap (λ (b : Bool). length (cond b (map closing_of calls) [])) closed ∙ length-map calls closing_of in
    none_told h k (omega (arith, p, q, r, s))

closed_told : (b : Bool) (h : CallBook) → h.closed ≡ b → told_of h (cond {A = Option Happening × CallBook} b (next_call h.calls h) (None, h)).1 ≡ []
closed_told true h is = next_told h.calls h is refl
closed_told false h is = drop-length (told_by h)

pub taken_told : (told : List Happening) (h : CallBook) → h.happenings ≡ told → told_of h (next_in told h).1 ≡ []
taken_told [] h is = closed_told h.closed h refl
taken_told (x ∷ xs) h is =
    let rest = cond h.closed (map closing_of h.calls) [] in
    let p = length-append h.happenings rest in
    let q = length-append xs rest in
    let r = ap length is in
    none_told h (record h { happenings = xs }) (omega (arith, p, q, r))

-- A NODE THAT CLOSES tells the ends of its calls that wait, and once only
pub closed_now : (h : CallBook) → h.closed ≡ false → told_of h (close h) ≡ map closing_of (filter (λ (call : OpenCall). call.waits) h.calls)
closed_now h is = let left = filter (λ (call : OpenCall). call.waits) h.calls in ap (λ (ts : List Happening). drop (length ts) (h.happenings ++ map closing_of left)) (all_told h is) ∙ drop-append_seam h.happenings (map closing_of left)

fewer_kept : (calls : List OpenCall) → length (filter (λ (call : OpenCall). call.waits) calls) ≤ length calls
fewer_kept [] = omega arith
fewer_kept (call ∷ calls) = let more = fewer_kept calls in elim (cases_Bool call.waits) [ inl y ↦ rw y (omega (arith, more)) | inr o ↦ rw o (omega (arith, more)) ]

pub closed_again : (h : CallBook) → h.closed ≡ true → told_of h (close h) ≡ []
closed_again h is =
    let left = filter (λ (call : OpenCall). call.waits) h.calls in
    let p = length-append h.happenings (cond h.closed (map closing_of h.calls) []) in
    let q = length-append h.happenings (map closing_of left) in
    let r = ap (λ (b : Bool). length (cond b (map closing_of h.calls) [])) is ∙ length-map h.calls closing_of in
    let s = length-map left closing_of in
    let few = fewer_kept h.calls in
    none_told h (close h) (omega (arith, p, q, r, s, few))

-- beside calls and what is told
pub told_beside : (h k : CallBook) → k.closed ≡ h.closed → k.calls ≡ h.calls → k.happenings ≡ h.happenings → told_of h k ≡ []
told_beside h k closed calls happenings =
    let same : told_by k ≡ told_by h =
    ap (λ (hs : List Happening). hs ++ cond k.closed (map closing_of k.calls) []) happenings
    ∙ ap (λ (b : Bool). h.happenings ++ cond b (map closing_of k.calls) []) closed
    ∙ ap (λ (cs : List OpenCall). h.happenings ++ cond h.closed (map closing_of cs) []) calls in
    ap (drop (length (told_by h))) same ∙ drop-length (told_by h)

module _ (m : CallNumber) where
  call_sums : (o : Option Made) (now : ℕ) (f : Flow) (payload : List ℕ) (patience : ℕ) (x : Node) → first_refusal (call_refusals x f payload patience) ≡ o
      → let r = unless o x (made_by now f (message_of (to_u64 (next_number x.book)) payload) patience x) in Sums m x.book r.1.book (made_as r.0 payload) (told_of x.book r.1.book) []
  call_sums (Some a) now f payload patience x is = sums_same m x.book (made_as a payload) (first_none (λ (r : Made). made_as r payload) (call_refusals x f payload patience) a (refl, (refl, (refl, (refl, (refl, (refl, (refl, (refl, tt)))))))) is)
  call_sums None now f payload patience x is =
      let message = message_of (to_u64 (next_number x.book)) payload in
      let refused = send_answer now f message true true x.endpoint in
      let deadline = moment_of now x.endpoint + patience in
      let y = happens now (message_event f message) x in
      let z = with_book (with_call_unless refused f (length message) deadline) y in
      let open_x = either_false x.endpoint.spent x.book.closed (all_clear (call_refusals x f payload patience) is).0 in
      let a = added m refused f (length message) deadline y.book x.book (numbers_heard (after_event now (message_event f message) x.endpoint).reports x.book) in
      let b = happens_keeps m now (message_event f message) x in
      let c = made_counts m (made_of refused x.book) payload in
      sums_end m now x z (made_as (made_of refused x.book) payload) open_x (grows_through x.book y.book z.book (happens_tells now (message_event f message) x).grows (call_grows refused f (length message) deadline y.book)) (omega (arith, a, b, c))

  reply_sums : (o : Option Replied) (now : ℕ) (token : Token) (payload message : List ℕ) (x : Node) → first_refusal (reply_refusals x token payload) ≡ o → let r = unless o x (replied_by now token message x) in Sums m x.book r.1.book [] (told_of x.book r.1.book) []
  reply_sums (Some a) now token payload message x is = sums_same m x.book [] refl
  reply_sums None now token payload message x is =
      let refused = send_answer now (reversed token.flow) message true true x.endpoint in
      let y = happens now (message_event (reversed token.flow) message) x in
      let z = with_book (forgotten_unless refused token) y in
      let open_x = either_false x.endpoint.spent x.book.closed (all_clear (reply_refusals x token payload) is).0 in
      let a = forgot_keeps m refused token y.book in
      let b = happens_keeps m now (message_event (reversed token.flow) message) x in
      sums_end m now x z [] open_x (grows_through x.book y.book z.book (happens_tells now (message_event (reversed token.flow) message) x).grows (forgot_grows refused token y.book)) (omega (arith, a, b))

  forget_sums : (o : Option Forgot) (now : ℕ) (token : Token) (x : Node) → first_refusal (forget_refusals x token) ≡ o → let y = (unless o x (forgot.Done, turn_end now (with_book (forgotten token) x))).1 in Sums m x.book y.book [] (told_of x.book y.book) []
  forget_sums (Some a) now token x is = sums_same m x.book [] refl
  forget_sums None now token x is =
      let open_x = either_false x.endpoint.spent x.book.closed (either_first (is_closed x) _ (all_clear (forget_refusals x token) is).0) in
      sums_end m now x (with_book (forgotten token) x) [] open_x (grows_same x.book (forgotten token x.book) refl refl) (omega arith)

  tick_sums : (b : Bool) (now : ℕ) (x : Node) → is_closed x ≡ b → let y = (cond {A = Ticked × Node} b (ticked.Spent, x) (ticked.Done, turn now Tick x)).1 in Sums m x.book y.book [] (told_of x.book y.book) []
  tick_sums true now x is = sums_same m x.book [] refl
  tick_sums false now x is = (let a = happens_keeps m now Tick x in sums_end m now x (happens now Tick x) [] (either_false x.endpoint.spent x.book.closed is) (happens_tells now Tick x).grows (omega (arith, a)))

  arrive_sums : (c : Bool) (o : Option Received) (now link : ℕ) (datagram : List ℕ) (waited : ℕ) (x : Node) → is_closed x ≡ c → let y = (cond {A = Received × Node} c (arrived.Spent, x) (or_counted o x (arrived.Done, turn now (arrive_event link datagram waited) x))).1 in Sums m x.book y.book [] (told_of x.book y.book) []
  arrive_sums true o now link datagram waited x is = sums_same m x.book [] refl
  arrive_sums false (Some a) now link datagram waited x is = sums_same m x.book [] refl
  arrive_sums false None now link datagram waited x is =
      let event = arrive_event link datagram waited in
      let a = happens_keeps m now event x in
      sums_end m now x (happens now event x) [] (either_false x.endpoint.spent x.book.closed is) (happens_tells now event x).grows (omega (arith, a))

  -- beside calls and what is told
  sums_beside : (h k : CallBook) → k.closed ≡ h.closed → k.calls ≡ h.calls → k.happenings ≡ h.happenings → Sums m h k [] (told_of h k) []
  sums_beside h k closed calls happenings =
      let a = ap (ends_in m) (told_beside h k closed calls happenings) in
      let b = ap (waits_in m) (ap (λ (t : Bool). cond t [] k.calls) closed ∙ ap (λ (cs : List OpenCall). cond h.closed [] cs) calls) in
      record { sum = omega (arith, a, b) }

  kind_sums : (port : ℕ) (o : Option PortKind) (kind : PortKind) (h : CallBook) → Sums m h (with_port port o kind h) [] (told_of h (with_port port o kind h)) []
  kind_sums port (Some has) kind h = sums_same m h [] refl
  kind_sums port None kind h = sums_beside h (with_port port None kind h) refl refl refl

  raise_sums : (b : Bool) (life : ℕ) (h : CallBook) → let k = cond b h (record h { life = life; count = 0 }) in Sums m h k [] (told_of h k) []
  raise_sums true life h = sums_same m h [] refl
  raise_sums false life h = sums_beside h (record h { life = life; count = 0 }) refl refl refl

  -- WHAT WAS TOLD IS TAKEN
  next_still : (calls : List OpenCall) (h : CallBook) → h.closed ≡ true → still_in (next_call calls h).1 ≡ still_in h
  next_still [] h closed = refl
  next_still (call ∷ calls) h closed = ap (λ (b : Bool). cond b [] calls) closed ∙ sym (ap (λ (b : Bool). cond b [] h.calls) closed)

  closed_still : (b : Bool) (h : CallBook) → h.closed ≡ b → still_in (cond {A = Option Happening × CallBook} b (next_call h.calls h) (None, h)).1 ≡ still_in h
  closed_still true h is = next_still h.calls h is
  closed_still false h is = refl

  taken_still : (told : List Happening) (h : CallBook) → still_in (next_in told h).1 ≡ still_in h
  taken_still [] h = closed_still h.closed h refl
  taken_still (x ∷ xs) h = refl

  take_sums : (h : CallBook) → let k = (next_in h.happenings h).1 in Sums m h k [] (told_of h k) []
  take_sums h =
      let a = ap (ends_in m) (taken_told h.happenings h refl) in
      let b = ap (waits_in m) (taken_still h.happenings h) in
      record { sum = omega (arith, a, b) }

  -- THE NODE CLOSES
  closing_ends : (calls : List OpenCall) → ends_in m (map closing_of (filter (λ (call : OpenCall). call.waits) calls)) ≡ waits_in m calls
  closing_ends [] = refl
  closing_ends (call ∷ calls) = let more = closing_ends calls in elim (cases_Bool call.waits) [ inl y ↦ rw y (omega (arith, more)) | inr o ↦ rw o (omega (arith, more)) ]

  close_sums : (b : Bool) (h : CallBook) → h.closed ≡ b → Sums m h (close h) [] (told_of h (close h)) []
  close_sums true h is =
      let a = ap (λ (b : Bool). waits_in m (cond b [] h.calls)) is in
      let told = ap (ends_in m) (closed_again h is) in
      record { sum = omega (arith, a, told) }
  close_sums false h is =
      let a = ap (λ (b : Bool). waits_in m (cond b [] h.calls)) is in
      let ends = ap (ends_in m) (closed_now h is) ∙ closing_ends h.calls in
      record { sum = omega (arith, a, ends) }

-- WHAT A TURN MADE is all of its calls; one that found no memory made its call or didn't
pub record Accounts (memory : Bool) (calls : List Message) (h k : CallBook) (told : List Happening) (lost : List OpenCall) : Type 0 where
  pub made : List Message
  pub are : IsSentOf memory calls made
  pub sums : (m : CallNumber) → Sums m h k made told lost

accounts_all : (h k : CallBook) (calls : List Message) (told : List Happening) (lost : List OpenCall) → ((m : CallNumber) → Sums m h k calls told lost) → Accounts true calls h k told lost
accounts_all h k calls told lost sums = record { made = calls; are = refl; sums = sums }

accounts_none : (memory : Bool) (h : CallBook) → Accounts memory [] h h [] []
accounts_none true h = record { made = []; are = refl; sums = λ m. record { sum = omega arith } }
accounts_none false h = record { made = []; are = inl refl; sums = λ m. record { sum = omega arith } }

-- A TURN THAT FOUND NO MEMORY tells what it had told where it stopped, and then that each call that waits is unsure
pub told_closing : (h k l : CallBook) (more : List Happening) → h.closed ≡ false → k.happenings ≡ h.happenings ++ more → l ≡ close k → told_of h l ≡ more ++ map closing_of (filter (λ (call : OpenCall). call.waits) k.calls)
told_closing h k l more open_h is closes =
    let ends = map closing_of (filter (λ (call : OpenCall). call.waits) k.calls) in
    ap (told_of h) closes
    ∙ ap (λ (ts : List Happening). drop (length ts) (k.happenings ++ ends)) (all_told h open_h)
    ∙ ap (λ (hs : List Happening). drop (length h.happenings) (hs ++ ends)) is
    ∙ ap (drop (length h.happenings)) (append_assoc h.happenings more ends)
    ∙ drop-append_seam h.happenings (more ++ ends)

sums_closing : (m : CallNumber) (made : Bool) (h k l : CallBook) (calls : List Message) → h.closed ≡ false → BookGoesOn made h k → l ≡ close k → count_of m calls ≡ one_more made h m → Sums m h l calls (told_of h l) []
sums_closing m made h k l calls open_h go closes counts =
    let ends = map closing_of (filter (λ (call : OpenCall). call.waits) k.calls) in
    let a = ap (waits_in m) (still_all h open_h) in
    let b = go.accounts m in
    let c = ap (ends_in m) go.told ∙ ends_append m h.happenings go.more in
    let d = ap (ends_in m) (told_closing h k l go.more open_h go.told closes) ∙ ends_append m go.more ends in
    let e = closing_ends m k.calls in
    let g = ap (λ (n : CallBook). waits_in m (still_in n)) closes in
    record { sum = omega (arith, counts, a, b, c, d, e, g) }

-- none of its calls, where it asked for none
broken_none : (x st y : Node) → x.book.closed ≡ false → GoesOn false x st → y ≡ with_book close st → Accounts false [] x.book y.book (told_of x.book y.book) []
broken_none x st y open_x go closes = record { made = []; are = inl refl; sums = λ m. sums_closing m false x.book st.book y.book [] open_x go.book (ap (λ (z : Node). z.book) closes) refl }

broken_call : (made : Bool) (x st y : Node) (f : Flow) (payload : List ℕ) (patience : ℕ) → first_refusal (call_refusals x f payload patience) ≡ None → x.book.closed ≡ false → GoesOn made x st → y ≡ with_book close st
    → Accounts false (asked_as (first_refusal (call_refusals x f payload patience)) (next_number x.book) payload) x.book y.book (told_of x.book y.book) []
broken_call true x st y f payload patience clear open_x go closes =
    let one : List Message = record { number = next_number x.book; carried = payload } ∷ [] in
    record {
      made = one;
      are = inl (sym (ap (λ (o : Option Made). asked_as o (next_number x.book) payload) clear));
      sums = λ m. sums_closing m true x.book st.book y.book one open_x go.book (ap (λ (z : Node). z.book) closes) (omega arith);
    }
broken_call false x st y f payload patience clear open_x go closes = record { made = []; are = inr refl; sums = λ m. sums_closing m false x.book st.book y.book [] open_x go.book (ap (λ (z : Node). z.book) closes) refl }

-- it was open before
pub broken_open : (deed : Deed) (x y : Node) → BreaksBy deed x y → x.book.closed ≡ false
broken_open (MakesCall now f payload patience) x y b = either_false x.endpoint.spent x.book.closed (all_clear (call_refusals x f payload patience) b.stops.clear).0
broken_open (GivesReply now token payload) x y b = either_false x.endpoint.spent x.book.closed (all_clear (reply_refusals x token payload) b.stops.clear).0
broken_open (Forgets now token) x y b = either_false x.endpoint.spent x.book.closed (either_first (is_closed x) _ (all_clear (forget_refusals x token) b.stops.clear).0)
broken_open (Ticks now) x y b = either_false x.endpoint.spent x.book.closed b.stops.clear
broken_open (Arrives now link datagram waited) x y b = either_false x.endpoint.spent x.book.closed b.stops.clear
broken_open (GivesKind port kind) x y b = absurd b
broken_open (Raises life) x y b = absurd b
broken_open TakesHappening x y b = absurd b
broken_open PullsFrame x y b = absurd b
broken_open (GetsRoute route answer added) x y b = absurd b
broken_open (CountsFlow flow counted) x y b = absurd b
broken_open Closes x y b = absurd b
broken_open (OpensAgain again options most life) x y b = absurd b
broken_open (FindsNoMemory deed before) x y b = absurd b

broken_accounts : (deed : Deed) (x y : Node) → BreaksBy deed x y → x.book.closed ≡ false → Accounts false (all_asked deed x) x.book y.book (told_of x.book y.book) []
broken_accounts (MakesCall now f payload patience) x y b open_x = (let g = call_part now f payload patience x b.stopped b.stops in broken_call g.0 x b.stopped y f payload patience b.stops.clear open_x g.1 b.closed)
broken_accounts (GivesReply now token payload) x y b open_x = broken_none x b.stopped y open_x (reply_part now token payload x b.stopped b.stops) b.closed
broken_accounts (Forgets now token) x y b open_x = broken_none x b.stopped y open_x (forget_part now token x b.stopped b.stops) b.closed
broken_accounts (Ticks now) x y b open_x = broken_none x b.stopped y open_x (tick_part now x b.stopped b.stops) b.closed
broken_accounts (Arrives now link datagram waited) x y b open_x = broken_none x b.stopped y open_x (arrive_part now link datagram waited x b.stopped b.stops) b.closed
broken_accounts (GivesKind port kind) x y b open_x = absurd b
broken_accounts (Raises life) x y b open_x = absurd b
broken_accounts TakesHappening x y b open_x = absurd b
broken_accounts PullsFrame x y b open_x = absurd b
broken_accounts (GetsRoute route answer added) x y b open_x = absurd b
broken_accounts (CountsFlow flow counted) x y b open_x = absurd b
broken_accounts Closes x y b open_x = absurd b
broken_accounts (OpensAgain again options most life) x y b open_x = absurd b
broken_accounts (FindsNoMemory deed before) x y b open_x = absurd b

-- WHATEVER IS DONE
pub deed_accounts : (setup : Setup) (net : Network) (n : ℕ) (deed : Deed) (x : Node) → KeepsDeed setup net n deed x → Accounts (finds_memory deed) (all_by deed x) x.book (node_after setup n deed x).book (told_in setup n deed x) (lost_by deed x)
deed_accounts setup net n (MakesCall now f payload patience) x keeps = accounts_all _ _ _ _ _ (λ m. call_sums m (first_refusal (call_refusals x f payload patience)) now f payload patience x refl)
deed_accounts setup net n (GivesKind port kind) x keeps = accounts_all _ _ _ _ _ (λ m. kind_sums m port (kind_in port x.book.ports) kind x.book)
deed_accounts setup net n (GivesReply now token payload) x keeps = accounts_all _ _ _ _ _ (λ m. reply_sums m (first_refusal (reply_refusals x token payload)) now token payload (message_of (to_u64 token.number) payload) x refl)
deed_accounts setup net n (Forgets now token) x keeps = accounts_all _ _ _ _ _ (λ m. forget_sums m (first_refusal (forget_refusals x token)) now token x refl)
deed_accounts setup net n (Ticks now) x keeps = accounts_all _ _ _ _ _ (λ m. tick_sums m (is_closed x) now x refl)
deed_accounts setup net n (Arrives now link datagram waited) x keeps = accounts_all _ _ _ _ _ (λ m. arrive_sums m (is_closed x) (arrive_refusal link datagram waited x.endpoint) now link datagram waited x refl)
deed_accounts setup net n (Raises life) x keeps = accounts_all _ _ _ _ _ (λ m. raise_sums m (is_life_in_use life x.book) life x.book)
deed_accounts setup net n TakesHappening x keeps = accounts_all _ _ _ _ _ (λ m. take_sums m x.book)
deed_accounts setup net n PullsFrame x keeps = accounts_all _ _ _ _ _ (λ m. sums_same m x.book [] refl)
deed_accounts setup net n (GetsRoute route answer added) x keeps = accounts_all _ _ _ _ _ (λ m. sums_same m x.book [] refl)
deed_accounts setup net n (CountsFlow flow counted) x keeps = accounts_all _ _ _ _ _ (λ m. sums_same m x.book [] refl)
deed_accounts setup net n Closes x keeps = accounts_all _ _ _ _ _ (λ m. close_sums m x.book.closed x.book refl)
deed_accounts setup net n (OpensAgain again options most life) x keeps = accounts_all _ _ _ _ _ (λ m. (let a = ap (ends_in m) (drop-nil (length (told_by x.book))) in record { sum = omega (arith, a) }))
deed_accounts setup net n (FindsNoMemory deed after) x keeps = broken_accounts deed x after keeps.1 (broken_open deed x after keeps.1)

-- A TURN, at one node
module _ (setup : Setup) (c : ℕ) where
  by_node : (s : Services) (n : ℕ) (deed : Deed) (o : Option EndpointValue) → KeepsFrom setup s.network n deed (option_map (node_with n s) o)
      → Accounts (finds_memory deed) (at_node (at_the c (λ n. all_by) n deed) (option_map (node_with n s) o)) (s.book c) ((node_does setup n deed s (option_map (node_with n s) o)).book c) (at_node (at_the c (told_in setup) n deed) (option_map (node_with n s) o)) (at_node (at_the c (λ n. lost_by) n deed) (option_map (node_with n s) o))
  by_node s n deed None keeps = accounts_none (finds_memory deed) (s.book c)
  by_node s n deed (Some e) keeps = by_test (n == c) refl (deed_accounts setup s.network n deed (node_with n s e) keeps)
    where
      by_test : (b : Bool) → (n == c) ≡ b → (let x = node_with n s e in Accounts (finds_memory deed) (all_by deed x) x.book (node_after setup n deed x).book (told_in setup n deed x) (lost_by deed x))
          → let x = node_with n s e in Accounts (finds_memory deed) (cond b (all_by deed x) []) (s.book c) (cond b (node_after setup n deed x).book (s.book c)) (cond b (told_in setup n deed x) []) (cond b (lost_by deed x) [])
      by_test true is h = subst (λ (k : ℕ). let x = node_with n s e in Accounts (finds_memory deed) (all_by deed x) (s.book k) (node_after setup n deed x).book (told_in setup n deed x) (lost_by deed x)) (nat_is n c is) h
      by_test false is h = accounts_none (finds_memory deed) (s.book c)

  turn_accounts : (t : Turn) (s : Services) → KeepsTurn setup t s → Accounts (has_memory t) (in_turn (at_the c (λ n. all_by)) t s) (s.book c) ((services_after setup t s).book c) (in_turn (at_the c (told_in setup)) t s) (in_turn (at_the c (λ n. lost_by)) t s)
  turn_accounts (Passes by) s keeps = accounts_none true (s.book c)
  turn_accounts (Does n deed) s keeps = by_node s n deed (look ◌==◌ n s.network.endpoints) keeps

  waits_append : (m : CallNumber) (xs ys : List OpenCall) → waits_in m (xs ++ ys) ≡ waits_in m xs + waits_in m ys
  waits_append m [] ys = omega arith
  waits_append m (x ∷ xs) ys = let e = waits_append m xs ys in omega (arith, e)

  sums_then : (m : CallNumber) (h k l : CallBook) (xs ys : List Message) (ts us : List Happening) (ls ms : List OpenCall) → Sums m h k xs ts ls → Sums m k l ys us ms → Sums m h l (xs ++ ys) (ts ++ us) (ls ++ ms)
  sums_then m h k l xs ys ts us ls ms p q =
      let a = count_append m xs ys in
      let b = ends_append m ts us in
      let d = waits_append m ls ms in
      let e = p.sum in
      let g = q.sum in
      record { sum = omega (arith, a, b, d, e, g) }

  -- ALL TURNS
  pub record AllAccounts (turns : List Turn) (s : Services) : Type 0 where
    pub made : List Message
    pub are : AreSentOf (at_the c (λ n. all_by)) setup turns s made
    pub sums : (m : CallNumber) → Sums m (s.book c) ((services_by setup turns s).book c) made (told_at c setup turns s) (lost_at c setup turns s)

  pub turns_account : (turns : List Turn) (s : Services) → KeepsTurns setup turns s → AllAccounts turns s
  turns_account [] s keeps = record { made = []; are = refl; sums = λ m. record { sum = omega arith } }
  turns_account (t ∷ turns) s keeps =
      let v = services_after setup t s in
      let first = turn_accounts t s keeps.0 in
      let rest = turns_account turns v keeps.1 in
      record {
        made = first.made ++ rest.made;
        are = (first.made, rest.made, first.are, rest.are, refl);
        sums = λ m.
            sums_then m (s.book c) (v.book c) ((services_by setup turns v).book c) first.made rest.made (in_turn (at_the c (told_in setup)) t s) (told_at c setup turns v) (in_turn (at_the c (λ n. lost_by)) t s) (lost_at c setup turns v) (first.sums m) (rest.sums m);
      }
