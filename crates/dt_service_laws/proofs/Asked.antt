-- Each thing that a program asks of its node, as steps of the network.
use Rattle.std.proofs.Common.{ℕ, ◌+◌, ◌≡◌, ◌==◌, Bool, true, false, List, [], ◌∷◌, length, map, Option, Some, None, refl, ap, sym, subst, ◌∙◌, append-nil, arith}
use Rattle.std.specs.Prelude.{All, cond, nat_le, not, ◌||◌}
use Rattle.std.proofs.Math.Seq.{drop-length}
use Rattle.std.proofs.lemmas.Bool.Decides.{nat_tests}
use Rattle.dt_items.specs.declared.item.Item.{Item}
use Rattle.dt_items.specs.Unread.{marked}
use Rattle.dt_reports.specs.declared.faults.Refusal.{Refusal}
use Rattle.dt_reports.specs.declared.faults.Refusal.TheVariants as refusal
use Rattle.dt_units.specs.declared.endpoints.Flow.{Flow}
use Rattle.dt_units.specs.Flows.{IsFlow}
use Rattle.dt_flow_model.specs.Keeping.{octets_below}
use Rattle.dt_world_model.specs.Station.{Event, Tick}
use Rattle.dt_world_model.specs.Tables.{same_flow}
use Rattle.dt_world_model.specs.WorldStep.{first_refusal}
use Rattle.dt_calls_laws.specs.Wholes.{items_of_all}
use Rattle.dt_calls_model.specs.Messages.{message_of, reversed}
use Rattle.dt_endpoint.specs.declared.answers.Received.{Received}
use Rattle.dt_endpoint.specs.declared.answers.Received.TheVariants as arrived
use Rattle.dt_endpoint.specs.declared.answers.Sent.{Sent}
use Rattle.dt_endpoint.specs.declared.answers.Sent.TheVariants as sent
use Rattle.dt_endpoint.specs.declared.answers.Ticked.{Ticked}
use Rattle.dt_endpoint.specs.declared.answers.Ticked.TheVariants as ticked
use Rattle.dt_endpoint.specs.Acts.{acts_of, frames_in}
use Rattle.dt_endpoint.specs.Calls.{ArriveDoes, SendDoes, TickDoes, Unless, arrive_event, arrive_refusal, send_answer, send_refusals, sent_of}
use Rattle.dt_endpoint.specs.Endpoints.{EndpointValue, after_event, moment_of, script_of, with_refused}
use Rattle.dt_network.specs.Duties.{IsInTime, KeepsCall, KeepsTime}
use Rattle.dt_network.specs.Duties.{KeepsFrom as CallKeeps}
use Rattle.dt_network.specs.Network.{Network, Setup}
use Rattle.dt_network.specs.Octets.{TakesIf}
use Rattle.dt_network.specs.Steps.{CallArrive, CallSend, CallTick, Calls, DoesFrom}
use Rattle.dt_service_model.specs.declared.answers.Forgot.{Forgot}
use Rattle.dt_service_model.specs.declared.answers.Forgot.TheVariants as forgot
use Rattle.dt_service_model.specs.declared.answers.Made.{Made}
use Rattle.dt_service_model.specs.declared.answers.Replied.{Replied}
use Rattle.dt_service_model.specs.declared.names.Token.{Token}
use Rattle.dt_service_model.specs.Asked.{arrive, call, call_refusals, forget, forget_refusals, forgotten, forgotten_unless, goes_out, is_closed, is_one_too_many, made_by, made_of, message_event, next_number, or_counted, replied_by, replied_of, reply, reply_refusals, tick, unless, with_call_unless}
use Rattle.dt_service_model.specs.CallBook.{CallBook}
use Rattle.dt_service_model.specs.Names.{to_u64}
use Rattle.dt_service_model.specs.Turns.{Node, happens, turn, turn_end, with_book}
use Rattle.dt_service_model.specs.Whole.{is_open}
use Rattle.dt_service_laws.specs.Histories.{Message, made_as, replied_as, spelled}
use Rattle.dt_service_laws.proofs.Deeds.{Comes, IsBetween, IsOn, comes_by_end, comes_by_event, comes_by_step, comes_nowhere, nothing_between, reposted}
use Rattle.dt_service_laws.proofs.Elsewhere.{IsLawful}
use Rattle.dt_service_laws.proofs.Ending.{time_later}
use Rattle.dt_service_laws.proofs.Moves.{IsLater, MayCall}
use Rattle.dt_service_laws.proofs.Owed.{ReadsFlows}
use Rattle.dt_service_laws.proofs.Quiet.{forgotten_quiet}
use Rattle.dt_service_laws.proofs.Runs.{IsAt}
use Rattle.dt_service_laws.proofs.Sending.{takes_more, takes_nothing}

-- REFUSALS
abbrev pub AllClear : {F : Type 0} → List (Bool × F) → Type 0
AllClear [] = Unit {0}
AllClear (test ∷ tests) = (test.0 ≡ false) × AllClear tests

first_clear : {F : Type 0} (b : Bool) (r : F) (o : Option F) → cond b (Some r) o ≡ None → (b ≡ false) × (o ≡ None)
first_clear true r o h = absurd cc
first_clear false r o h = (refl, h)

pub all_clear : {F : Type 0} (tests : List (Bool × F)) → first_refusal tests ≡ None → AllClear tests
all_clear [] h = tt
all_clear (test ∷ tests) h = let c = first_clear test.0 test.1 (first_refusal tests) h in (c.0, all_clear tests c.1)

-- each answer of refused calls makes no message
abbrev pub AllNone : {F : Type 0} → (F → List Message) → List (Bool × F) → Type 0
AllNone says [] = Unit {0}
AllNone says (test ∷ tests) = (says test.1 ≡ []) × AllNone says tests

refused_here : {F : Type 0} (says : F → List Message) (b : Bool) (a r : F) (o : Option F) → says a ≡ [] → (o ≡ Some r → says r ≡ []) → cond b (Some a) o ≡ Some r → says r ≡ []
refused_here says true a r o none more h = (let same : a ≡ r = cc in subst (λ x. says x ≡ []) same none)
refused_here says false a r o none more h = more h

pub first_none : {F : Type 0} (says : F → List Message) (tests : List (Bool × F)) (r : F) → AllNone says tests → first_refusal tests ≡ Some r → says r ≡ []
first_none says [] r all h = absurd cc
first_none says (test ∷ tests) r all h = refused_here says test.0 test.1 r (first_refusal tests) all.0 (λ e. first_none says tests r all.1 e) h

pub not_false : (b : Bool) → not b ≡ false → b ≡ true
not_false true h = refl
not_false false h = absurd cc

pub not_true : (b : Bool) → not b ≡ true → b ≡ false
not_true true h = absurd cc
not_true false h = refl

-- A MESSAGE IS SENT WHOLE
abbrev pub posted : Option Refusal → List ℕ → List Item
posted None m = marked m true true false
posted (Some r) m = []

pub send_takes : (b : Bool) (o : Option Refusal) (m : List ℕ) (taken : List Item) → TakesIf b (sent_of o) (marked m true true false) taken → taken ≡ cond b (posted o m) []
send_takes true None m taken h = h
send_takes true (Some (refusal.Quiet until)) m taken h = h
send_takes true (Some (refusal.Full free)) m taken h = h
send_takes false o m taken h = h

send_does : (now : ℕ) (o : Option Refusal) (event : Event (Unit {0})) (e : EndpointValue) → SendDoes (sent_of o) now o event e (after_event now event e)
send_does now None event e = (refl, refl)
send_does now (Some (refusal.Quiet until)) event e = (refl, refl)
send_does now (Some (refusal.Full free)) event e = (refl, refl)

none_refused : (a b c d : Bool) → a ≡ false → b ≡ false → c ≡ false → d ≡ false → first_refusal {F = Sent} ((a, sent.Spent) ∷ (b, sent.BadFlow) ∷ (c, sent.Empty) ∷ (d, sent.TooMany) ∷ []) ≡ None
none_refused true b c d p q r s = absurd cc
none_refused false true c d p q r s = absurd cc
none_refused false false true d p q r s = absurd cc
none_refused false false false true p q r s = absurd cc
none_refused false false false false p q r s = refl

pub length_message : (n : ℕ) (carried : List ℕ) → length (message_of n carried) ≡ 8 + length carried
length_message n carried = omega arith

-- the book between an event and the end of its turn: that of before where nothing is done
abbrev pub mid_of : {A : Type 0} → Option A → CallBook → CallBook → CallBook
mid_of (Some refusal) before between = before
mid_of None before between = between

abbrev pub called : (now : ℕ) → Flow → List ℕ → (patience : ℕ) → Node → CallBook
called now f message patience x = with_call_unless (send_answer now f message true true x.endpoint) f (length message) (moment_of now x.endpoint + patience) (happens now (message_event f message) x).book

abbrev pub replied_mid : (now : ℕ) → Token → List ℕ → Node → CallBook
replied_mid now token message x = forgotten_unless (send_answer now (reversed token.flow) message true true x.endpoint) token (happens now (message_event (reversed token.flow) message) x).book

nothing_if : (b : Bool) (ms : List Message) → ms ≡ [] → [] ≡ items_of_all (map spelled (cond b ms []))
nothing_if true ms h = ap (λ (l : List Message). items_of_all (map spelled l)) (sym h)
nothing_if false ms h = refl

-- a call that is made leaves what was begun and told, and a reply that is taken too
module _ (setup : Setup) (n : ℕ) where
  pub kept_between : (o : Option Refusal) (f : Flow) (count deadline : ℕ) (h : CallBook) → IsBetween setup n h (with_call_unless o f count deadline h)
  kept_between None f count deadline h = record { begun = refl; happenings = refl }
  kept_between (Some r) f count deadline h = record { begun = refl; happenings = refl }

  pub forgot_between : (o : Option Refusal) (token : Token) (h : CallBook) → IsBetween setup n h (forgotten_unless o token h)
  forgot_between None token h = record { begun = refl; happenings = refl }
  forgot_between (Some r) token h = record { begun = refl; happenings = refl }

pub flows_kept : (o : Option Refusal) (f : Flow) (count deadline : ℕ) (h : CallBook) → All IsFlow h.unread → All IsFlow (with_call_unless o f count deadline h).unread
flows_kept None f count deadline h all = all
flows_kept (Some r) f count deadline h all = all

pub forgot_flows : (o : Option Refusal) (token : Token) (h : CallBook) → All IsFlow h.unread → All IsFlow (forgotten_unless o token h).unread
forgot_flows None token h all = all
forgot_flows (Some r) token h all = all

-- an endpoint whose node isn't closed goes on
pub goes_on : (spent closed : Bool) → (spent || closed) ≡ false → spent ≡ false
goes_on true closed h = absurd cc
goes_on false closed h = refl

module _ (setup : Setup) (n : ℕ) (m : Network) (x : Node) (there : IsAt n m x.endpoint) (Good : Network → Type 0) (law : IsLawful setup Good) (good : Good m) where
  pub send_unrefused : (f : Flow) (number : ℕ) (carried : List ℕ) → x.endpoint.spent ≡ false → goes_out x f ≡ true → is_one_too_many x carried ≡ false → first_refusal (send_refusals f (message_of number carried) x.endpoint) ≡ None
  send_unrefused f number carried unspent out few =
      let message = message_of number carried in
      let len = length_message number carried in
      let some : (length message == 0) ≡ false = grind (arith, nat_tests, len) in
      let room : nat_le octets_below (x.endpoint.asked + length message) ≡ false = ap (λ (k : ℕ). nat_le octets_below (x.endpoint.asked + k)) len ∙ few in
      none_refused x.endpoint.spent (not (f.from.0 == x.endpoint.state.host.me) || (f.to.0 == x.endpoint.state.host.me)) (length message == 0) (nat_le octets_below (x.endpoint.asked + length message)) unspent (not_true _ out) some room

  pub may_send : (now : ℕ) → KeepsTime setup m n now → (f : Flow) → IsFlow f → (number : ℕ) (carried : List ℕ) → x.endpoint.spent ≡ false → goes_out x f ≡ true → is_one_too_many x carried ≡ false
      → let message = message_of number carried in MayCall setup n m (CallSend now f message true true (sent_of (send_answer now f message true true x.endpoint))) x.endpoint (after_event now (message_event f message) x.endpoint)
  may_send now time f flow number carried unspent out few =
      let message = message_of number carried in
      let o = send_answer now f message true true x.endpoint in
      let after = after_event now (message_event f message) x.endpoint in
      record {
        does = (
          flow,
          subst (λ (r : Option Sent). Unless r (sent_of o) x.endpoint after (SendDoes (sent_of o) now o (message_event f message) x.endpoint after))
              (sym (send_unrefused f number carried unspent out few))
              (send_does now o (message_event f message) x.endpoint),
        );
        keeps = time_later setup n m now time;
        frames = frames_in (acts_of (script_of now (message_event f message) x.endpoint));
        appended = refl;
        unspent = refl;
      }

  -- a send, and the end of its turn
  comes_by_send : (now : ℕ) → KeepsTime setup m n now → (f : Flow) → IsFlow f → (number : ℕ) (carried : List ℕ) → x.endpoint.spent ≡ false → goes_out x f ≡ true → is_one_too_many x carried ≡ false
      → let message = message_of number carried in (h : CallBook) → IsBetween setup n (happens now (message_event f message) x).book h → All IsFlow h.unread
      → Comes setup n x h (turn_end now (record { endpoint = (happens now (message_event f message) x).endpoint; book = h })) m (λ g. cond (same_flow f g) (posted (send_answer now f message true true x.endpoint) message) [])
  comes_by_send now time f flow number carried unspent out few h between flows =
      let message = message_of number carried in
      let o = send_answer now f message true true x.endpoint in
      comes_by_event setup n x m there now time Good law good (CallSend now f message true true (sent_of o)) (after_event now (message_event f message) x.endpoint) h (λ g. cond (same_flow f g) (posted o message) [])
      (may_send now time f flow number carried unspent out few) (λ g. refl) (λ g taken t. send_takes (same_flow f g) o message taken t) between flows

  -- A CALL
  call_posts : (b : Bool) (o : Option Refusal) (payload : List ℕ) → let h = x.book in cond b (posted o (message_of (to_u64 (next_number h)) payload)) [] ≡ items_of_all (map spelled (cond b (made_as (made_of o h) payload) []))
  call_posts true None payload = sym (append-nil (marked (message_of (to_u64 (next_number x.book)) payload) true true false))
  call_posts true (Some (refusal.Quiet until)) payload = refl
  call_posts true (Some (refusal.Full free)) payload = refl
  call_posts false o payload = refl

  pub alike : (h : CallBook) (y : Node) (us vs : Flow → List Item) → ((g : Flow) → us g ≡ vs g) → Comes setup n x h y m us → Comes setup n x h y m vs
  alike h y us vs same c = reposted setup n (λ g taken. taken ≡ us g) (λ g taken. taken ≡ vs g) x h y m (λ g taken is. is ∙ same g) c

  call_goes : IsOn x → (now : ℕ) → KeepsTime setup m n now → (f : Flow) → IsFlow f → (payload : List ℕ) (patience : ℕ) → ReadsFlows (happens now (message_event f (message_of (to_u64 (next_number x.book)) payload)) x)
      → (o : Option Made) → first_refusal (call_refusals x f payload patience) ≡ o
      → let r = unless o x (made_by now f (message_of (to_u64 (next_number x.book)) payload) patience x) in Comes setup n x (mid_of o x.book (called now f (message_of (to_u64 (next_number x.book)) payload) patience x)) r.1 m (λ g. items_of_all (map spelled (cond (same_flow f g) (made_as r.0 payload) [])))
  call_goes on now time f flow payload patience flows (Some a) refused =
      let nothing : made_as a payload ≡ [] = first_none (λ (r : Made). made_as r payload) (call_refusals x f payload patience) a (refl, (refl, (refl, (refl, (refl, (refl, (refl, (refl, tt)))))))) refused in
      alike x.book x (λ g. []) _ (λ g. nothing_if (same_flow f g) (made_as a payload) nothing) (comes_nowhere setup n x m there on)
  call_goes on now time f flow payload patience flows None clear =
      let h = x.book in
      let message = message_of (to_u64 (next_number h)) payload in
      let refused = send_answer now f message true true x.endpoint in
      let deadline = moment_of now x.endpoint + patience in
      let c = all_clear (call_refusals x f payload patience) clear in
      let heard = (happens now (message_event f message) x).book in
      alike _ _ _ _ (λ k. call_posts (same_flow f k) refused payload)
      (comes_by_send now time f flow (to_u64 (next_number h)) payload (goes_on x.endpoint.spent x.book.closed c.0) (not_false _ c.1.0) c.1.1.1.1.1.0 (with_call_unless refused f (length message) deadline heard) (kept_between setup n refused f (length message) deadline heard) (flows_kept refused f (length message) deadline heard flows))

  pub call_comes : IsOn x → (now : ℕ) → KeepsTime setup m n now → (f : Flow) → IsFlow f → (payload : List ℕ) (patience : ℕ) → ReadsFlows (happens now (message_event f (message_of (to_u64 (next_number x.book)) payload)) x)
      → Comes setup n x (mid_of (first_refusal (call_refusals x f payload patience)) x.book (called now f (message_of (to_u64 (next_number x.book)) payload) patience x)) (call now f payload patience x).1 m (λ g. items_of_all (map spelled (cond (same_flow f g) (made_as (call now f payload patience x).0 payload) [])))
  call_comes on now time f flow payload patience flows = call_goes on now time f flow payload patience flows (first_refusal (call_refusals x f payload patience)) refl

  -- A REPLY
  reply_posts : (b : Bool) (o : Option Refusal) (token : Token) (payload : List ℕ) → cond b (posted o (message_of (to_u64 token.number) payload)) [] ≡ items_of_all (map spelled (cond b (replied_as (replied_of o) token payload) []))
  reply_posts true None token payload = sym (append-nil (marked (message_of (to_u64 token.number) payload) true true false))
  reply_posts true (Some (refusal.Quiet until)) token payload = refl
  reply_posts true (Some (refusal.Full free)) token payload = refl
  reply_posts false o token payload = refl

  reply_goes : IsOn x → (now : ℕ) → KeepsTime setup m n now → (token : Token) → IsFlow token.flow → (payload : List ℕ) → ReadsFlows (happens now (message_event (reversed token.flow) (message_of (to_u64 token.number) payload)) x)
      → (o : Option Replied) → first_refusal (reply_refusals x token payload) ≡ o
      → let r = unless o x (replied_by now token (message_of (to_u64 token.number) payload) x) in Comes setup n x (mid_of o x.book (replied_mid now token (message_of (to_u64 token.number) payload) x)) r.1 m (λ g. items_of_all (map spelled (cond (same_flow (reversed token.flow) g) (replied_as r.0 token payload) [])))
  reply_goes on now time token flow payload flows (Some a) refused =
      let nothing : replied_as a token payload ≡ [] = first_none (λ (r : Replied). replied_as r token payload) (reply_refusals x token payload) a (refl, (refl, (refl, (refl, (refl, tt))))) refused in
      alike x.book x (λ g. []) _ (λ g. nothing_if (same_flow (reversed token.flow) g) (replied_as a token payload) nothing) (comes_nowhere setup n x m there on)
  reply_goes on now time token flow payload flows None clear =
      let message = message_of (to_u64 token.number) payload in
      let refused = send_answer now (reversed token.flow) message true true x.endpoint in
      let c = all_clear (reply_refusals x token payload) clear in
      let heard = (happens now (message_event (reversed token.flow) message) x).book in
      alike _ _ _ _ (λ k. reply_posts (same_flow (reversed token.flow) k) refused token payload)
      (comes_by_send now time (reversed token.flow) (record { from = flow.to; from_port = flow.to_port; to = flow.from; to_port = flow.from_port }) (to_u64 token.number) payload (goes_on x.endpoint.spent x.book.closed c.0) (not_false _ c.1.1.1.0) c.1.1.1.1.0 (forgotten_unless refused token heard) (forgot_between setup n refused token heard) (forgot_flows refused token heard flows))

  pub reply_comes : IsOn x → (now : ℕ) → KeepsTime setup m n now → (token : Token) → IsFlow token.flow → (payload : List ℕ) → ReadsFlows (happens now (message_event (reversed token.flow) (message_of (to_u64 token.number) payload)) x)
      → Comes setup n x (mid_of (first_refusal (reply_refusals x token payload)) x.book (replied_mid now token (message_of (to_u64 token.number) payload) x)) (reply now token payload x).1 m (λ g. items_of_all (map spelled (cond (same_flow (reversed token.flow) g) (replied_as (reply now token payload x).0 token payload) [])))
  reply_comes on now time token flow payload flows = reply_goes on now time token flow payload flows (first_refusal (reply_refusals x token payload)) refl

  -- A TOKEN IS FORGOTTEN
  forget_goes : IsOn x → (now : ℕ) → KeepsTime setup m n now → (token : Token) → ReadsFlows x → (o : Option Forgot) → first_refusal (forget_refusals x token) ≡ o → Comes setup n x (mid_of o x.book (forgotten token x.book)) (unless o x (forgot.Done, turn_end now (with_book (forgotten token) x))).1 m (λ g. [])
  forget_goes on now time token flows (Some a) is = comes_nowhere setup n x m there on
  forget_goes on now time token flows None is =
      let c = all_clear (forget_refusals x token) is in
      comes_by_end setup n x m there now time Good law good (forgotten token x.book) (forgotten_quiet token x.book) flows (goes_on x.endpoint.spent x.book.closed (goes_on (is_closed x) (not (is_open token x.book)) c.0))

  pub forget_comes : IsOn x → (now : ℕ) → KeepsTime setup m n now → (token : Token) → ReadsFlows x → Comes setup n x (mid_of (first_refusal (forget_refusals x token)) x.book (forgotten token x.book)) (forget now token x).1 m (λ g. [])
  forget_comes on now time token flows = forget_goes on now time token flows (first_refusal (forget_refusals x token)) refl

  -- A TICK
  pub tick_does : (now : ℕ) → (s : Bool) → s ≡ false → Unless (first_refusal {F = Ticked} ((s, ticked.Spent) ∷ [])) ticked.Done x.endpoint (after_event now Tick x.endpoint) (TickDoes ticked.Done now x.endpoint (after_event now Tick x.endpoint))
  tick_does now true h = absurd cc
  tick_does now false h = (refl, refl)

  tick_goes : IsOn x → (now : ℕ) → KeepsTime setup m n now → ReadsFlows (happens now Tick x) → (b : Bool) → is_closed x ≡ b → Comes setup n x (cond b x.book (happens now Tick x).book) (cond {A = Ticked × Node} b (ticked.Spent, x) (ticked.Done, turn now Tick x)).1 m (λ g. [])
  tick_goes on now time flows true is = comes_nowhere setup n x m there on
  tick_goes on now time flows false is =
      comes_by_event setup n x m there now time Good law good (CallTick now ticked.Done) (after_event now Tick x.endpoint) (happens now Tick x).book (λ g. [])
      (record { does = tick_does now x.endpoint.spent (goes_on x.endpoint.spent x.book.closed is); keeps = time_later setup n m now time; frames = frames_in (acts_of (script_of now Tick x.endpoint)); appended = refl; unspent = refl })
      (λ g. refl) (λ g taken t. t) (nothing_between setup n (happens now Tick x).book) flows

  pub tick_comes : IsOn x → (now : ℕ) → KeepsTime setup m n now → ReadsFlows (happens now Tick x) → Comes setup n x (cond (is_closed x) x.book (happens now Tick x).book) (tick now x).1 m (λ g. [])
  tick_comes on now time flows = tick_goes on now time flows (is_closed x) refl

  -- A DATAGRAM COMES
  pub in_time_later : (link : ℕ) (datagram : List ℕ) (waited : ℕ) (k : Network) → IsLater m k → IsInTime m x.endpoint link datagram waited → IsInTime k x.endpoint link datagram waited
  in_time_later link datagram waited k later t = record {
    flight = t.flight;
    left = later.left t.flight t.left;
    octets = t.octets;
    in_time = (let a = t.in_time in let b = later.now in omega (arith, a, b));
  }

  arrive_goes : IsOn x → (now link : ℕ) (datagram : List ℕ) (waited : ℕ) → KeepsCall setup m n (CallArrive now link datagram waited arrived.Done) x.endpoint → (arrive_refusal link datagram waited x.endpoint ≡ None → ReadsFlows (happens now (arrive_event link datagram waited) x)) → (c : Bool) → (o : Option Received) → arrive_refusal link datagram waited x.endpoint ≡ o
      → Comes setup n x (cond c x.book (mid_of o x.book (happens now (arrive_event link datagram waited) x).book)) (cond {A = Received × Node} c (arrived.Spent, x) (or_counted o x (arrived.Done, turn now (arrive_event link datagram waited) x))).1 m (λ g. [])
  arrive_goes on now link datagram waited keeps flows true o is = comes_nowhere setup n x m there on
  arrive_goes on now link datagram waited keeps flows false (Some a) is =
      let y : Node = record x { endpoint = with_refused x.endpoint } in
      let call = CallArrive now link datagram waited a in
      comes_by_step setup n x m y (Calls n call y.endpoint)
      (subst (DoesFrom setup n call y.endpoint) (sym there) (subst (λ (o : Option Received). Unless o a (with_refused x.endpoint) y.endpoint (ArriveDoes a now (arrive_event link datagram waited) x.endpoint y.endpoint)) (sym is) (refl, refl)), tt)
      (subst (CallKeeps setup m n call) (sym there) keeps, tt) refl on (λ g. refl) (λ g. takes_more g (Calls n call y.endpoint) [] [] [] (λ first t. t) (takes_nothing g)) (λ g b tracks. tracks) (drop-length x.book.happenings)
  arrive_goes on now link datagram waited keeps flows false None is =
      let event = arrive_event link datagram waited in
      let after = after_event now event x.endpoint in
      comes_by_event setup n x m there now keeps.0 Good law good (CallArrive now link datagram waited arrived.Done) after (happens now event x).book (λ g. [])
      (record {
        does = subst (λ (o : Option Received). Unless o arrived.Done (with_refused x.endpoint) after (ArriveDoes arrived.Done now event x.endpoint after)) (sym is) (refl, refl);
        keeps = λ k later. (time_later setup n m now keeps.0 k later, λ clear. in_time_later link datagram waited k later (keeps.1 clear));
        frames = frames_in (acts_of (script_of now event x.endpoint));
        appended = refl;
        unspent = refl;
      })
      (λ g. refl) (λ g taken t. t) (nothing_between setup n (happens now event x).book) (flows is)

  pub arrive_comes : IsOn x → (now link : ℕ) (datagram : List ℕ) (waited : ℕ) → KeepsCall setup m n (CallArrive now link datagram waited arrived.Done) x.endpoint → (arrive_refusal link datagram waited x.endpoint ≡ None → ReadsFlows (happens now (arrive_event link datagram waited) x))
      → Comes setup n x (cond (is_closed x) x.book (mid_of (arrive_refusal link datagram waited x.endpoint) x.book (happens now (arrive_event link datagram waited) x).book)) (arrive now link datagram waited x).1 m (λ g. [])
  arrive_comes on now link datagram waited keeps flows = arrive_goes on now link datagram waited keeps flows (is_closed x) (arrive_refusal link datagram waited x.endpoint) refl
