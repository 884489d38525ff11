-- Between what is done and the end of its turn: each call that waits did before, or is made now, and a token that is replied to is open no more.
use Rattle.std.proofs.Common.{ℕ, ◌+◌, ◌<◌, ◌≤◌, ◌≡◌, ◌⊎◌, Bool, true, false, List, [], ◌∷◌, length, Option, Some, None, refl, ap, sym, subst, ◌∙◌, inl, inr, arith}
use Rattle.std.specs.Prelude.{All, Contains, cond, not, ◌&&◌}
use Rattle.std.proofs.lemmas.Bool.{and_parts, cases_Bool}
use Rattle.std.proofs.lemmas.List.Elements.{All-append, All-cons, All-nil, All-tail, All-weaker}
use Rattle.dt_reports.specs.declared.faults.Refusal.{Refusal}
use Rattle.dt_reports.specs.declared.faults.Refusal.TheVariants as refusal
use Rattle.dt_units.specs.declared.endpoints.Flow.{Flow}
use Rattle.dt_world_model.proofs.Tables.{flow_is, flow_self}
use Rattle.dt_world_model.specs.Host.{one_if}
use Rattle.dt_world_model.specs.Tables.{same_flow}
use Rattle.dt_world_model.specs.WorldStep.{first_refusal}
use Rattle.dt_calls_model.specs.Messages.{message_of, reversed}
use Rattle.dt_endpoint.specs.Calls.{send_answer}
use Rattle.dt_endpoint.specs.Endpoints.{after_event, moment_of}
use Rattle.dt_service_model.specs.declared.answers.Made.{Made}
use Rattle.dt_service_model.specs.declared.answers.Made.TheVariants as made
use Rattle.dt_service_model.specs.declared.answers.Replied.{Replied}
use Rattle.dt_service_model.specs.declared.calls.OpenCall.{OpenCall}
use Rattle.dt_service_model.specs.declared.happenings.Happening.{Happening}
use Rattle.dt_service_model.specs.declared.names.CallNumber.{CallNumber}
use Rattle.dt_service_model.specs.declared.names.Token.{Token}
use Rattle.dt_service_model.specs.declared.ports.PortKind.{PortKind}
use Rattle.dt_service_model.specs.Asked.{call, call_refusals, forgotten_unless, made_by, made_of, message_event, new_call, next_number, replied_by, replied_of, reply_refusals, unless, with_call_unless, with_port}
use Rattle.dt_service_model.specs.Ends.{next_call, next_in}
use Rattle.dt_service_model.specs.CallBook.{CallBook}
use Rattle.dt_service_model.specs.Names.{to_u64, same_number, same_token}
use Rattle.dt_service_model.specs.Turns.{Node, happens}
use Rattle.dt_service_model.specs.Whole.{is_open, without_token}
use Rattle.dt_service_laws.specs.Histories.{Message, asked_as, count_of, made_as, replied_as}
use Rattle.dt_service_laws.proofs.Answering.{contains_parts, number_is, number_self}
use Rattle.dt_service_laws.proofs.Asked.{all_clear, called, first_none, mid_of, not_false, replied_mid}
use Rattle.dt_service_laws.proofs.Keeping.{happens_keeps}
use Rattle.dt_service_laws.proofs.Moves.{AreKeptFrom, IsKeptFrom, open_count}
use Rattle.dt_service_laws.proofs.Quiet.{all_heard_quiet, fewer_open, kept_itself}
use Rattle.dt_service_laws.proofs.Sound.{token_there}

-- CALLS THAT WAIT did before, or are of these
abbrev pub AreOf : (new : Flow → List Message) → List OpenCall → List OpenCall → Type 0
AreOf new before calls = All (λ (call : OpenCall). call.waits ≡ true → IsKeptFrom before call ⊎ (0 < count_of call.number (new call.flow))) calls

pub kept_of : (new : Flow → List Message) (before calls : List OpenCall) → AreKeptFrom before calls → AreOf new before calls
kept_of new before calls kept = All-weaker (λ (c : OpenCall). c.waits ≡ true → IsKeptFrom before c) (λ (c : OpenCall). c.waits ≡ true → IsKeptFrom before c ⊎ (0 < count_of c.number (new c.flow))) (λ c k waits. inl (k waits)) calls kept

pub heard_kept : (now : ℕ) (x : Node) (event : _) → AreKeptFrom x.book.calls (happens now event x).book.calls
heard_kept now x event = (happens_keeps now event x).waits

made_once : (f : Flow) (number : CallNumber) (payload : List ℕ) → 0 < count_of number (cond (same_flow f f) (made_as (made.Call number) payload) [])
made_once f number payload =
    let e : count_of number (cond (same_flow f f) (made_as (made.Call number) payload) []) ≡ 1 =
    ap (λ (b : Bool). count_of number (cond b (made_as (made.Call number) payload) [])) (flow_self f) ∙ ap (λ (b : Bool). one_if b + 0) (number_self number) in
    omega (arith, e)

sent_of_call : (r : Option Refusal) (f : Flow) (count deadline : ℕ) (payload : List ℕ) (x h : CallBook) → next_number h ≡ next_number x → AreKeptFrom x.calls h.calls → (new : Flow → List Message) → ((g : Flow) → new g ≡ cond (same_flow f g) (made_as (made_of r x) payload) [])
    → AreOf new x.calls (with_call_unless r f count deadline h).calls
sent_of_call None f count deadline payload x h same kept new is =
    All-append (λ (c : OpenCall). c.waits ≡ true → IsKeptFrom x.calls c ⊎ (0 < count_of c.number (new c.flow))) h.calls (new_call f count deadline h ∷ []) (kept_of new x.calls h.calls kept)
    (All-cons (λ (c : OpenCall). c.waits ≡ true → IsKeptFrom x.calls c ⊎ (0 < count_of c.number (new c.flow))) (new_call f count deadline h) []
    (λ waits. inr (subst (λ (ms : List Message). 0 < count_of (next_number h) ms) (sym (is f)) (subst (λ (n : CallNumber). 0 < count_of n (cond (same_flow f f) (made_as (made.Call (next_number x)) payload) [])) (sym same) (made_once f (next_number x) payload))))
    (All-nil (λ (c : OpenCall). c.waits ≡ true → IsKeptFrom x.calls c ⊎ (0 < count_of c.number (new c.flow)))))
sent_of_call (Some r) f count deadline payload x h same kept new is = kept_of new x.calls h.calls kept

pub call_of : (now : ℕ) (f : Flow) (payload : List ℕ) (patience : ℕ) (x : Node) (o : Option Made) → first_refusal (call_refusals x f payload patience) ≡ o
    → let message = message_of (to_u64 (next_number x.book)) payload in
    AreOf (λ g. cond (same_flow f g) (made_as (unless o x (made_by now f message patience x)).0 payload) []) x.book.calls (mid_of o x.book (called now f message patience x)).calls
call_of now f payload patience x (Some a) is = kept_of (λ g. cond (same_flow f g) (made_as a payload) []) x.book.calls x.book.calls (kept_itself x.book.calls)
call_of now f payload patience x None is =
    let message = message_of (to_u64 (next_number x.book)) payload in
    let keeps = happens_keeps now (message_event f message) x in
    let same : next_number (happens now (message_event f message) x).book ≡ next_number x.book =
    ap (λ (k : ℕ). let r : CallNumber = record { life = k; count = (happens now (message_event f message) x).book.count } in r) keeps.life ∙ ap (λ (k : ℕ). let r : CallNumber = record { life = x.book.life; count = k } in r) keeps.count in
    sent_of_call (send_answer now f message true true x.endpoint) f (length message) (moment_of now x.endpoint + patience) payload x.book (happens now (message_event f message) x).book same keeps.waits _ (λ g. refl)

pub forgot_kept : (r : Option Refusal) (token : Token) (before : List OpenCall) (h : CallBook) → AreKeptFrom before h.calls → AreKeptFrom before (forgotten_unless r token h).calls
forgot_kept None token before h kept = kept
forgot_kept (Some r) token before h kept = kept

pub reply_of : (now : ℕ) (token : Token) (message : List ℕ) (x : Node) (o : Option Replied) → AreKeptFrom x.book.calls (mid_of o x.book (replied_mid now token message x)).calls
reply_of now token message x (Some a) = kept_itself x.book.calls
reply_of now token message x None = forgot_kept (send_answer now (reversed token.flow) message true true x.endpoint) token x.book.calls _ (heard_kept now x (message_event (reversed token.flow) message))

pub mid_kept : {A : Type 0} (o : Option A) (x h : CallBook) → AreKeptFrom x.calls h.calls → AreKeptFrom x.calls (mid_of o x h).calls
mid_kept (Some a) x h kept = kept_itself x.calls
mid_kept None x h kept = kept

pub cond_kept : (b : Bool) (x h : CallBook) → AreKeptFrom x.calls h.calls → AreKeptFrom x.calls (cond b x h).calls
cond_kept true x h kept = kept_itself x.calls
cond_kept false x h kept = kept

pub kind_kept : (port : ℕ) (o : Option PortKind) (kind : PortKind) (h : CallBook) → AreKeptFrom h.calls (with_port port o kind h).calls
kind_kept port (Some k) kind h = kept_itself h.calls
kind_kept port None kind h = kept_itself h.calls

pub raise_kept : (b : Bool) (life : ℕ) (h : CallBook) → AreKeptFrom h.calls (cond b h (record h { life = life; count = 0 })).calls
raise_kept true life h = kept_itself h.calls
raise_kept false life h = kept_itself h.calls

rest_kept : (base : List OpenCall) (call : OpenCall) (calls : List OpenCall) → AreKeptFrom base (call ∷ calls) → AreKeptFrom base calls
rest_kept base call calls kept = All-tail (λ (c : OpenCall). c.waits ≡ true → IsKeptFrom base c) call calls kept

next_kept : (calls : List OpenCall) (h : CallBook) → h.calls ≡ calls → AreKeptFrom h.calls (next_call calls h).1.calls
next_kept [] h is = kept_itself h.calls
next_kept (call ∷ calls) h is = rest_kept h.calls call calls (subst (λ (cs : List OpenCall). AreKeptFrom h.calls cs) is (kept_itself h.calls))

closed_kept : (b : Bool) (h : CallBook) → AreKeptFrom h.calls (cond {A = Option Happening × CallBook} b (next_call h.calls h) (None, h)).1.calls
closed_kept true h = next_kept h.calls h refl
closed_kept false h = kept_itself h.calls

pub taken_kept : (told : List Happening) (h : CallBook) → AreKeptFrom h.calls (next_in told h).1.calls
taken_kept [] h = closed_kept h.closed h
taken_kept (x ∷ told) h = kept_itself h.calls

-- TOKENS
token_is : (s t : Token) → same_token s t ≡ true → s ≡ t
token_is s t h =
    let p = and_parts (same_flow s.flow t.flow) (same_number s.number t.number) h in
    ap (λ (f : Flow). let r : Token = record { flow = f; number = s.number } in r) (flow_is s.flow t.flow p.0) ∙ ap (λ (n : CallNumber). let r : Token = record { flow = t.flow; number = n } in r) (number_is s.number t.number p.1)

abbrev pub FewerOpen : CallBook → CallBook → Type 0
FewerOpen h k = (t : Token) → open_count t k.tokens ≤ open_count t h.tokens

abbrev pub GoneBy : (Token → List Message) → CallBook → CallBook → Type 0
GoneBy replies h k = (t : Token) → count_of t.number (replies t) + open_count t k.tokens ≤ open_count t h.tokens

pub heard_fewer : (now : ℕ) (x : Node) (event : _) → FewerOpen x.book (happens now event x).book
heard_fewer now x event = (all_heard_quiet (after_event now event x.endpoint).reports x.book).opens

none_open : (t token : Token) (tokens : List Token) → same_token token t ≡ true → open_count t (without_token token tokens) ≡ 0
none_open t token [] same = omega arith
none_open t token (s ∷ tokens) same =
    let more = none_open t token tokens same in
    elim (cases_Bool (same_token token s)) [
      | inl y ↦ rw y more
      | inr o ↦
          let apart : same_token t s ≡ false = ap (λ (u : Token). same_token u s) (sym (token_is token t same)) ∙ o in
          let here : one_if (same_token t s) ≡ 0 = ap one_if apart in
          rw o (omega (arith, here, more))
    ]

some_open : (t : Token) (tokens : List Token) → (s : Token) → Contains tokens s → same_token t s ≡ true → 1 ≤ open_count t tokens
some_open t [] s there same = absurd (let lt = there.1 in omega (arith, lt))
some_open t (u ∷ tokens) s there same =
    elim (contains_parts u s tokens there) [
      | inl here ↦ (let one : one_if (same_token t u) ≡ 1 = ap (λ (v : Token). one_if (same_token t v)) here ∙ ap one_if same in omega (arith, one))
      | inr more ↦ (let m = some_open t tokens s more same in omega (arith, m))
    ]

no_match : (b : Bool) (n : CallNumber) (m : Message) → (b && same_number m.number n) ≡ false → count_of n (cond b (m ∷ []) []) ≡ 0
no_match true n m h = (let e : one_if (same_number m.number n) ≡ 0 = ap one_if h in omega (arith, e))
no_match false n m h = omega arith

same_with : (s t : Token) → s.flow ≡ t.flow → same_number s.number t.number ≡ true → same_token s t ≡ true
same_with s t flow number = ap (λ (f : Flow). same_flow f t.flow && same_number s.number t.number) flow ∙ ap (λ (b : Bool). b && same_number s.number t.number) (flow_self t.flow) ∙ number

-- the reply is taken: its token was open, and isn't any more
reply_done : (r : Option Refusal) (token : Token) (payload : List ℕ) (x h : CallBook) → is_open token x ≡ true → FewerOpen x h → GoneBy (λ t. cond (same_flow token.flow t.flow) (replied_as (replied_of r) token payload) []) x (forgotten_unless r token h)
reply_done (Some (refusal.Quiet until)) token payload x h was_open fewer t = (let l = fewer t in by_test (same_flow token.flow t.flow) l)
  where
    by_test : (b : Bool) → open_count t h.tokens ≤ open_count t x.tokens → count_of t.number (cond b [] []) + open_count t h.tokens ≤ open_count t x.tokens
    by_test true l = omega (arith, l)
    by_test false l = omega (arith, l)
reply_done (Some (refusal.Full free)) token payload x h was_open fewer t = (let l = fewer t in by_test (same_flow token.flow t.flow) l)
  where
    by_test : (b : Bool) → open_count t h.tokens ≤ open_count t x.tokens → count_of t.number (cond b [] []) + open_count t h.tokens ≤ open_count t x.tokens
    by_test true l = omega (arith, l)
    by_test false l = omega (arith, l)
reply_done None token payload x h was_open fewer t =
    let l = fewer t in
    let left = fewer_open t (λ s. not (same_token token s)) h.tokens in
    elim (cases_Bool (same_token token t)) [
      | inl y ↦
          let p = and_parts (same_flow token.flow t.flow) (same_number token.number t.number) y in
          let o = token_there token x.tokens was_open in
          let was : 1 ≤ open_count token x.tokens = some_open token x.tokens o.0 o.1 (same_with token o.0 o.2 o.3) in
          let was_t : 1 ≤ open_count t x.tokens = subst (λ (s : Token). 1 ≤ open_count s x.tokens) (token_is token t y) was in
          let none = none_open t token h.tokens y in
          let one : count_of t.number (cond (same_flow token.flow t.flow) ((record { number = token.number; carried = payload }) ∷ []) []) ≡ 1 = ap (λ (b : Bool). count_of t.number (cond b ((record { number = token.number; carried = payload }) ∷ []) [])) p.0 ∙ ap (λ (b : Bool). one_if b + 0) p.1 in
          omega (arith, was_t, none, one)
      | inr other ↦
          let no_reply : count_of t.number (cond (same_flow token.flow t.flow) ((record { number = token.number; carried = payload }) ∷ []) []) ≡ 0 = no_match (same_flow token.flow t.flow) t.number (record { number = token.number; carried = payload }) other in
          omega (arith, l, left, no_reply)
    ]

no_gone : (b : Bool) (n : CallNumber) (ms : List Message) → ms ≡ [] → count_of n (cond b ms []) ≡ 0
no_gone true n ms h = ap (count_of n) h
no_gone false n ms h = refl

pub reply_gone : (now : ℕ) (token : Token) (payload : List ℕ) (x : Node) (o : Option Replied) → first_refusal (reply_refusals x token payload) ≡ o
    → let message = message_of (to_u64 token.number) payload in
    GoneBy (λ t. cond (same_flow token.flow t.flow) (replied_as (unless o x (replied_by now token message x)).0 token payload) []) x.book (mid_of o x.book (replied_mid now token message x))
reply_gone now token payload x (Some a) is = λ t.
    let none = no_gone (same_flow token.flow t.flow) t.number (replied_as a token payload) (first_none (λ (r : Replied). replied_as r token payload) (reply_refusals x token payload) a (refl, (refl, (refl, (refl, (refl, tt))))) is) in
    omega (arith, none)
reply_gone now token payload x None is =
    let message = message_of (to_u64 token.number) payload in
    let c = all_clear (reply_refusals x token payload) is in
    reply_done (send_answer now (reversed token.flow) message true true x.endpoint) token payload x.book (happens now (message_event (reversed token.flow) message) x).book (not_false _ c.1.1.0) (heard_fewer now x (message_event (reversed token.flow) message))

pub none_gone : (h k : CallBook) → FewerOpen h k → GoneBy (λ t. []) h k
none_gone h k fewer t = let l = fewer t in omega (arith, l)

pub same_open : (h : CallBook) → FewerOpen h h
same_open h t = omega arith

pub mid_fewer : {A : Type 0} (o : Option A) (x h : CallBook) → FewerOpen x h → FewerOpen x (mid_of o x h)
mid_fewer (Some a) x h fewer t = omega arith
mid_fewer None x h fewer t = fewer t

pub cond_fewer : (b : Bool) (x h : CallBook) → FewerOpen x h → FewerOpen x (cond b x h)
cond_fewer true x h fewer t = omega arith
cond_fewer false x h fewer t = fewer t

pub call_fewer : (r : Option Refusal) (f : Flow) (count deadline : ℕ) (x h : CallBook) → FewerOpen x h → FewerOpen x (with_call_unless r f count deadline h)
call_fewer None f count deadline x h fewer = fewer
call_fewer (Some r) f count deadline x h fewer = fewer

pub kind_fewer : (port : ℕ) (o : Option PortKind) (kind : PortKind) (h : CallBook) → FewerOpen h (with_port port o kind h)
kind_fewer port (Some k) kind h = same_open h
kind_fewer port None kind h = same_open h

pub raise_fewer : (b : Bool) (life : ℕ) (h : CallBook) → FewerOpen h (cond b h (record h { life = life; count = 0 }))
raise_fewer true life h = same_open h
raise_fewer false life h = same_open h

next_fewer : (calls : List OpenCall) (h : CallBook) → FewerOpen h (next_call calls h).1
next_fewer [] h = same_open h
next_fewer (call ∷ calls) h = same_open h

closed_fewer : (b : Bool) (h : CallBook) → FewerOpen h (cond {A = Option Happening × CallBook} b (next_call h.calls h) (None, h)).1
closed_fewer true h = next_fewer h.calls h
closed_fewer false h = same_open h

pub taken_fewer : (told : List Happening) (h : CallBook) → FewerOpen h (next_in told h).1
taken_fewer [] h = closed_fewer h.closed h
taken_fewer (x ∷ told) h = same_open h

-- what is asked and finds no memory: its call may be made, and its reply may be taken
pub asked_of_call : (r : Option Refusal) (f : Flow) (count deadline : ℕ) (payload : List ℕ) (x h : CallBook) → next_number h ≡ next_number x → AreKeptFrom x.calls h.calls → AreOf (λ g. cond (same_flow f g) (asked_as {A = Made} None (next_number x) payload) []) x.calls (with_call_unless r f count deadline h).calls
asked_of_call None f count deadline payload x h same kept = sent_of_call None f count deadline payload x h same kept (λ g. cond (same_flow f g) (asked_as {A = Made} None (next_number x) payload) []) (λ g. refl)
asked_of_call (Some r) f count deadline payload x h same kept = kept_of (λ g. cond (same_flow f g) (asked_as {A = Made} None (next_number x) payload) []) x.calls h.calls kept

pub asked_gone : (token : Token) (payload : List ℕ) (x h : CallBook) → is_open token x ≡ true → h.tokens ≡ [] → GoneBy (λ t. cond (same_flow token.flow t.flow) (asked_as {A = Replied} None token.number payload) []) x h
asked_gone token payload x h was_open none t =
    let l = reply_done None token payload x x was_open (same_open x) t in
    let no = ap (open_count t) none in
    omega (arith, l, no)
