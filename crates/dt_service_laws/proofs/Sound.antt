-- Where kinds agree, a caller's flow takes nothing but calls, and each says its own number and payload.
use Rattle.std.proofs.Common.{ℕ, ◌+◌, ◌*◌, ◌<◌, ◌^◌, ◌≡◌, ◌⊎◌, ◌==◌, Bool, true, false, List, [], ◌∷◌, ◌++◌, length, map, Option, Some, None, refl, ap, sym, subst, ◌∙◌, inl, inr, arith}
use Rattle.std.specs.Prelude.{Contains, cond, find, nat_le, not, option_map, ◌||◌, ◌/◌, ◌%◌}
use Rattle.std.specs.List.{list_any}
use Rattle.std.proofs.lemmas.Bool.{and_parts}
use Rattle.std.proofs.lemmas.Bool.Decides.{nat_tests}
use Rattle.std.proofs.lemmas.List.Folds.{Any-from_list_any}
use Rattle.dt_reports.specs.declared.faults.Refusal.{Refusal}
use Rattle.dt_reports.specs.declared.faults.Refusal.TheVariants as refusal
use Rattle.dt_units.specs.declared.endpoints.Flow.{Flow}
use Rattle.dt_world_model.proofs.Tables.{flow_is, nat_is}
use Rattle.dt_world_model.specs.Station.{Tick}
use Rattle.dt_world_model.specs.Tables.{same_flow}
use Rattle.dt_world_model.specs.WorldStep.{first_refusal}
use Rattle.dt_calls_laws.proofs.SideBySide.{number_back}
use Rattle.dt_calls_model.specs.Messages.{message_of, reversed}
use Rattle.dt_endpoint.specs.declared.answers.Received.{Received}
use Rattle.dt_endpoint.specs.declared.answers.Received.TheVariants as arrived
use Rattle.dt_endpoint.specs.declared.answers.Ticked.{Ticked}
use Rattle.dt_endpoint.specs.declared.answers.Ticked.TheVariants as ticked
use Rattle.dt_endpoint.specs.Calls.{arrive_event, arrive_refusal, send_answer}
use Rattle.dt_endpoint.specs.Endpoints.{moment_of}
use Rattle.dt_network.specs.Network.{Network, Setup}
use Rattle.dt_service_model.specs.declared.answers.Forgot.{Forgot}
use Rattle.dt_service_model.specs.declared.answers.Forgot.TheVariants as forgot
use Rattle.dt_service_model.specs.declared.answers.Made.{Made}
use Rattle.dt_service_model.specs.declared.answers.Replied.{Replied}
use Rattle.dt_service_model.specs.declared.calls.OpenCall.{OpenCall}
use Rattle.dt_service_model.specs.declared.happenings.Happening.{Happening}
use Rattle.dt_service_model.specs.declared.names.CallNumber.{CallNumber}
use Rattle.dt_service_model.specs.declared.names.Token.{Token}
use Rattle.dt_service_model.specs.declared.ports.PortKind.{PortKind}
use Rattle.dt_service_model.specs.declared.ports.PortKind.TheVariants.{Caller, Service}
use Rattle.dt_service_model.specs.declared.ports.Most.{Most}
use Rattle.dt_service_model.specs.declared.ports.Port.{Port}
use Rattle.dt_service_model.specs.Asked.{call, call_refusals, forget_refusals, forgotten, forgotten_unless, is_closed, is_life_in_use, made_by, made_of, message_event, next_number, or_counted, replied_by, reply, reply_refusals, unless, with_call_unless, with_port}
use Rattle.dt_service_model.specs.Ends.{next_call, next_in}
use Rattle.dt_service_model.specs.CallBook.{CallBook, is_caller, kind_in, new_book}
use Rattle.dt_service_model.specs.Names.{from_u64, to_u64, same_number, same_token}
use Rattle.dt_service_model.specs.Turns.{Node, happens, turn, turn_end, with_book}
use Rattle.dt_service_laws.specs.Histories.{Message, asked_as, call_asked, call_by, made_as, replied_as, reply_asked, reply_by, spelled}
use Rattle.dt_service_laws.specs.Premises.{IsLife, IsServed, KeepsDeed, KeepsKind}
use Rattle.dt_service_laws.specs.Services.{Arrives, Closes, CountsFlow, Deed, FindsNoMemory, Forgets, GetsRoute, GivesKind, GivesReply, MakesCall, OpensAgain, PullsFrame, Raises, TakesHappening, Ticks, node_after}
use Rattle.dt_service_laws.proofs.Asked.{all_clear, first_none, goes_on, not_false}
use Rattle.dt_service_laws.proofs.Keeping.{IsOfService, Keeps, end_keeps, happens_keeps, keeps_quietly, turn_keeps}
use Rattle.dt_service_laws.proofs.Quiet.{close_quiet, forgotten_quiet}
use Rattle.dt_service_laws.proofs.Telling.{said}
use Rattle.dt_service_laws.proofs.Leaving.{broken_leaves}

-- a token that is open is there
pub token_there : (token : Token) (tokens : List Token) → list_any (same_token token) tokens ≡ true → (t : Token) × Contains tokens t × (token.flow ≡ t.flow) × (same_number token.number t.number ≡ true)
token_there token tokens h =
    let a = Any-from_list_any (same_token token) tokens h in
    let b = and_parts (same_flow token.flow a.1.flow) (same_number token.number a.1.number) a.4 in
    (a.1, (a.0, a.2, a.3), flow_is token.flow a.1.flow b.0, b.1)

module _ (kinds : (node port : ℕ) → PortKind) (n : ℕ) where
  -- kinds, tokens and the life of a node
  pub record IsSound (h : CallBook) : Type 0 where
    pub ports : (port : ℕ) (kind : PortKind) → kind_in port h.ports ≡ Some kind → kind ≡ kinds n port
    pub tokens : (t : Token) → Contains h.tokens t → IsOfService h.ports t
    pub life : IsLife h.life

  pub sound_keeps : (h k : CallBook) → Keeps h k → IsSound h → IsSound k
  sound_keeps h k keeps s = record {
    ports = λ port kind is. s.ports port kind (subst (λ (ps : List Port). kind_in port ps ≡ Some kind) keeps.ports is);
    tokens = λ t there. subst (λ (ps : List Port). IsOfService ps t) (sym keeps.ports) (elim (keeps.tokens t there) [ inl was ↦ s.tokens t was | inr of ↦ of ]);
    life = subst IsLife (sym keeps.life) s.life;
  }

  -- a call that is made, and one that isn't
  sound_call : (o : Option Refusal) (f : Flow) (count deadline : ℕ) (h : CallBook) → IsSound h → IsSound (with_call_unless o f count deadline h)
  sound_call None f count deadline h s = record { ports = s.ports; tokens = s.tokens; life = s.life }
  sound_call (Some r) f count deadline h s = s

  sound_forgot : (o : Option Refusal) (token : Token) (h : CallBook) → IsSound h → IsSound (forgotten_unless o token h)
  sound_forgot None token h s = sound_keeps h (forgotten token h) (keeps_quietly h (forgotten token h) (forgotten_quiet token h)) s
  sound_forgot (Some r) token h s = s

  sound_end : (now : ℕ) (x : Node) → IsSound x.book → IsSound (turn_end now x).book
  sound_end now x s = sound_keeps x.book (turn_end now x).book (end_keeps now x) s

  call_sound : (o : Option Made) (now : ℕ) (f : Flow) (message : List ℕ) (patience : ℕ) (x : Node) → IsSound x.book → IsSound (unless o x (made_by now f message patience x)).1.book
  call_sound (Some a) now f message patience x s = s
  call_sound None now f message patience x s =
      let y = happens now (message_event f message) x in
      sound_end now _ (sound_call (send_answer now f message true true x.endpoint) f (length message) (moment_of now x.endpoint + patience) y.book (sound_keeps x.book y.book (happens_keeps now (message_event f message) x) s))

  reply_sound : (o : Option Replied) (now : ℕ) (token : Token) (message : List ℕ) (x : Node) → IsSound x.book → IsSound (unless o x (replied_by now token message x)).1.book
  reply_sound (Some a) now token message x s = s
  reply_sound None now token message x s =
      let y = happens now (message_event (reversed token.flow) message) x in
      sound_end now _ (sound_forgot (send_answer now (reversed token.flow) message true true x.endpoint) token y.book (sound_keeps x.book y.book (happens_keeps now (message_event (reversed token.flow) message) x) s))

  forget_sound : (o : Option Forgot) (now : ℕ) (token : Token) (x : Node) → IsSound x.book → IsSound (unless o x (forgot.Done, turn_end now (with_book (forgotten token) x))).1.book
  forget_sound (Some a) now token x s = s
  forget_sound None now token x s = sound_end now (with_book (forgotten token) x) (sound_forgot None token x.book s)

  tick_sound : (b : Bool) (now : ℕ) (x : Node) → IsSound x.book → IsSound (cond {A = Ticked × Node} b (ticked.Spent, x) (ticked.Done, turn now Tick x)).1.book
  tick_sound true now x s = s
  tick_sound false now x s = sound_keeps x.book (turn now Tick x).book (turn_keeps now Tick x) s

  arrive_sound : (c : Bool) (o : Option Received) (now link : ℕ) (datagram : List ℕ) (waited : ℕ) (x : Node) → IsSound x.book → IsSound (cond {A = Received × Node} c (arrived.Spent, x) (or_counted o x (arrived.Done, turn now (arrive_event link datagram waited) x))).1.book
  arrive_sound true o now link datagram waited x s = s
  arrive_sound false (Some a) now link datagram waited x s = s
  arrive_sound false None now link datagram waited x s = sound_keeps x.book (turn now (arrive_event link datagram waited) x).book (turn_keeps now (arrive_event link datagram waited) x) s

  raise_sound : (b : Bool) (life : ℕ) (h : CallBook) → IsLife life → IsSound h → IsSound (cond b h (record h { life = life; count = 0 }))
  raise_sound true life h fits s = s
  raise_sound false life h fits s = record { ports = s.ports; tokens = s.tokens; life = fits }

  next_sound : (calls : List OpenCall) (h : CallBook) → IsSound h → IsSound (next_call calls h).1
  next_sound [] h s = s
  next_sound (call ∷ calls) h s = record { ports = s.ports; tokens = s.tokens; life = s.life }

  closed_sound : (b : Bool) (h : CallBook) → IsSound h → IsSound (cond {A = Option Happening × CallBook} b (next_call h.calls h) (None, h)).1
  closed_sound true h s = next_sound h.calls h s
  closed_sound false h s = s

  taken_sound : (told : List Happening) (h : CallBook) → IsSound h → IsSound (next_in told h).1
  taken_sound [] h s = closed_sound h.closed h s
  taken_sound (x ∷ told) h s = record { ports = s.ports; tokens = s.tokens; life = s.life }

  -- a port gets its kind
  kept_kind : (port : ℕ) (kind : PortKind) (ports more : List Port) → kind_in port ports ≡ Some kind → kind_in port (ports ++ more) ≡ Some kind
  kept_kind port kind [] more is = absurd cc
  kept_kind port kind (p ∷ ports) more is = by_test (p.port == port) is (kept_kind port kind ports more)
    where
      by_test : (b : Bool) → option_map (λ (p : Port). p.kind) (cond b (Some p) (find (λ (p : Port). p.port == port) ports)) ≡ Some kind → (kind_in port ports ≡ Some kind → kind_in port (ports ++ more) ≡ Some kind)
          → option_map (λ (p : Port). p.kind) (cond b (Some p) (find (λ (p : Port). p.port == port) (ports ++ more))) ≡ Some kind
      by_test true is rest = is
      by_test false is rest = rest is

  new_kind : (q : ℕ) (k : PortKind) (port : ℕ) (kind : PortKind) (ports : List Port) → kind_in q (ports ++ (record { port = port; kind = kind }) ∷ []) ≡ Some k → (kind_in q ports ≡ Some k) ⊎ ((port ≡ q) × (kind ≡ k))
  new_kind q k port kind [] is = by_test (port == q) refl is
    where
      by_test : (b : Bool) → (port == q) ≡ b → option_map (λ (p : Port). p.kind) (cond b (Some (record { port = port; kind = kind })) None) ≡ Some k → (kind_in q [] ≡ Some k) ⊎ ((port ≡ q) × (kind ≡ k))
      by_test true e is = inr (nat_is port q e, (let same : kind ≡ k = cc in same))
      by_test false e is = absurd cc
  new_kind q k port kind (p ∷ ports) is = by_test (p.port == q) is (new_kind q k port kind ports)
    where
      by_test : (b : Bool) → option_map (λ (p : Port). p.kind) (cond b (Some p) (find (λ (p : Port). p.port == q) (ports ++ (record { port = port; kind = kind }) ∷ []))) ≡ Some k
          → (kind_in q (ports ++ (record { port = port; kind = kind }) ∷ []) ≡ Some k → (kind_in q ports ≡ Some k) ⊎ ((port ≡ q) × (kind ≡ k)))
          → (option_map (λ (p : Port). p.kind) (cond b (Some p) (find (λ (p : Port). p.port == q) ports)) ≡ Some k) ⊎ ((port ≡ q) × (kind ≡ k))
      by_test true is rest = inl is
      by_test false is rest = rest is

  kind_sound : (o : Option PortKind) (port : ℕ) (kind : PortKind) (h : CallBook) → kind ≡ kinds n port → IsSound h → IsSound (with_port port o kind h)
  kind_sound (Some has) port kind h agrees s = s
  kind_sound None port kind h agrees s = record {
    ports = λ q k is. elim (new_kind q k port kind h.ports is) [ inl was ↦ s.ports q k was | inr new ↦ sym new.1 ∙ agrees ∙ ap (kinds n) new.0 ];
    tokens = λ t there. kept_kind t.flow.to_port Service h.ports ((record { port = port; kind = kind }) ∷ []) (s.tokens t there);
    life = s.life;
  }

  pub new_sound : (most : Most) (life : ℕ) → IsLife life → IsSound (new_book most life)
  new_sound most life fits = record { ports = λ port kind is. absurd cc; tokens = λ t there. absurd (omega (arith, there.1)); life = fits }

  -- WHATEVER IS DONE
  pub sound_deed : (setup : Setup) (m : Network) (x : Node) (deed : Deed) → KeepsKind kinds n deed → KeepsDeed setup m n deed x → IsSound x.book → IsSound (node_after setup n deed x).book
  sound_deed setup m x (GivesKind port kind) agrees keeps s = kind_sound (kind_in port x.book.ports) port kind x.book agrees s
  sound_deed setup m x (MakesCall now f payload patience) agrees keeps s = call_sound (first_refusal (call_refusals x f payload patience)) now f (message_of (to_u64 (next_number x.book)) payload) patience x s
  sound_deed setup m x (GivesReply now token payload) agrees keeps s = reply_sound (first_refusal (reply_refusals x token payload)) now token (message_of (to_u64 token.number) payload) x s
  sound_deed setup m x (Forgets now token) agrees keeps s = forget_sound (first_refusal (forget_refusals x token)) now token x s
  sound_deed setup m x (Ticks now) agrees keeps s = tick_sound (is_closed x) now x s
  sound_deed setup m x (Arrives now link datagram waited) agrees keeps s = arrive_sound (is_closed x) (arrive_refusal link datagram waited x.endpoint) now link datagram waited x s
  sound_deed setup m x (Raises life) agrees keeps s = raise_sound (is_life_in_use life x.book) life x.book keeps s
  sound_deed setup m x TakesHappening agrees keeps s = taken_sound x.book.happenings x.book s
  sound_deed setup m x PullsFrame agrees keeps s = s
  sound_deed setup m x (GetsRoute route answer added) agrees keeps s = s
  sound_deed setup m x (CountsFlow flow counted) agrees keeps s = s
  sound_deed setup m x Closes agrees keeps s = sound_keeps x.book _ (keeps_quietly x.book _ (close_quiet x.book)) s
  sound_deed setup m x (OpensAgain again options most life) agrees keeps s = new_sound most life keeps.1
  sound_deed setup m x (FindsNoMemory deed after) agrees keeps s =
      let l = broken_leaves deed x after keeps.1 in
      record { ports = λ port kind is. s.ports port kind (subst (λ (ps : List Port). kind_in port ps ≡ Some kind) l.ports is); tokens = λ t at. absurd (subst (λ (ts : List Token). Contains ts t → ⊥) (sym l.tokens) (λ there. omega (arith, there.1)) at); life = subst IsLife (sym l.life) s.life }

-- A CALL goes from its node, and its port is a caller's
is_a_caller : (o : Option PortKind) → is_caller o ≡ true → o ≡ Some Caller
is_a_caller None h = absurd cc
is_a_caller (Some Caller) h = refl
is_a_caller (Some Service) h = absurd cc

first_of_both : (a b : Bool) → not (not a || b) ≡ true → a ≡ true
first_of_both true b h = refl
first_of_both false b h = absurd cc

pub record IsCall (x : Node) (f : Flow) : Type 0 where
  pub from : f.from.0 ≡ x.endpoint.state.host.me
  pub caller : kind_in f.from_port x.book.ports ≡ Some Caller
  pub unspent : x.endpoint.spent ≡ false

is_call : (f : Flow) (payload : List ℕ) (patience : ℕ) (x : Node) → first_refusal (call_refusals x f payload patience) ≡ None → IsCall x f
is_call f payload patience x clear =
    let c = all_clear (call_refusals x f payload patience) clear in
    record {
      from = nat_is f.from.0 x.endpoint.state.host.me (first_of_both (f.from.0 == x.endpoint.state.host.me) (f.to.0 == x.endpoint.state.host.me) (not_false _ c.1.0));
      caller = is_a_caller (kind_in f.from_port x.book.ports) (not_false _ c.1.1.0);
      unspent = goes_on x.endpoint.spent x.book.closed c.0;
    }

made_if : (o : Option Made) (now : ℕ) (f : Flow) (payload : List ℕ) (patience : ℕ) (x : Node) → first_refusal (call_refusals x f payload patience) ≡ o
    → (made_as (unless o x (made_by now f (message_of (to_u64 (next_number x.book)) payload) patience x)).0 payload ≡ []) ⊎ IsCall x f
made_if (Some a) now f payload patience x refused = inl (first_none (λ (r : Made). made_as r payload) (call_refusals x f payload patience) a (refl, (refl, (refl, (refl, (refl, (refl, (refl, (refl, tt)))))))) refused)
made_if None now f payload patience x clear = inr (is_call f payload patience x clear)

asked_if : (o : Option Made) (f : Flow) (payload : List ℕ) (patience : ℕ) (x : Node) → first_refusal (call_refusals x f payload patience) ≡ o → (asked_as o (next_number x.book) payload ≡ []) ⊎ IsCall x f
asked_if (Some a) f payload patience x is = inl refl
asked_if None f payload patience x clear = inr (is_call f payload patience x clear)

call_if : (f g : Flow) (ms : List Message) (x : Node) → (ms ≡ []) ⊎ IsCall x g → (b : Bool) → same_flow g f ≡ b → (cond b ms [] ≡ []) ⊎ IsCall x f
call_if f g ms x h false is = inl refl
call_if f g ms x (inl none) true is = inl none
call_if f g ms x (inr call) true is = inr (subst (IsCall x) (flow_is g f is) call)

asked_is : (f : Flow) (deed : Deed) (x : Node) → (call_asked f deed x ≡ []) ⊎ IsCall x f
asked_is f (MakesCall now g payload patience) x = call_if f g _ x (asked_if (first_refusal (call_refusals x g payload patience)) g payload patience x refl) (same_flow g f) refl
asked_is f (GivesKind port kind) x = inl refl
asked_is f (GivesReply now token payload) x = inl refl
asked_is f (Forgets now token) x = inl refl
asked_is f (Ticks now) x = inl refl
asked_is f (Arrives now link datagram waited) x = inl refl
asked_is f (Raises life) x = inl refl
asked_is f TakesHappening x = inl refl
asked_is f PullsFrame x = inl refl
asked_is f (GetsRoute route answer added) x = inl refl
asked_is f (CountsFlow flow counted) x = inl refl
asked_is f Closes x = inl refl
asked_is f (OpensAgain again options most life) x = inl refl
asked_is f (FindsNoMemory deed after) x = asked_is f deed x

pub call_is : (f : Flow) (deed : Deed) (x : Node) → (call_by f deed x ≡ []) ⊎ IsCall x f
call_is f (MakesCall now g payload patience) x = call_if f g _ x (made_if (first_refusal (call_refusals x g payload patience)) now g payload patience x refl) (same_flow g f) refl
call_is f (GivesKind port kind) x = inl refl
call_is f (GivesReply now token payload) x = inl refl
call_is f (Forgets now token) x = inl refl
call_is f (Ticks now) x = inl refl
call_is f (Arrives now link datagram waited) x = inl refl
call_is f (Raises life) x = inl refl
call_is f TakesHappening x = inl refl
call_is f PullsFrame x = inl refl
call_is f (GetsRoute route answer added) x = inl refl
call_is f (CountsFlow flow counted) x = inl refl
call_is f Closes x = inl refl
call_is f (OpensAgain again options most life) x = inl refl
call_is f (FindsNoMemory deed after) x = asked_is f deed x

-- no port is both
two_kinds : (kind : PortKind) → Caller ≡ kind → kind ≡ Service → ⊥
two_kinds kind caller service = (let wrong : Caller ≡ Service = caller ∙ service in absurd cc)

-- on the way back to a caller no call is made, and what goes there are the replies
pub no_call_back : (kinds : (node port : ℕ) → PortKind) (n : ℕ) (f : Flow) → IsServed kinds f → (x : Node) → IsSound kinds n x.book → (x.endpoint.spent ≡ false → x.endpoint.state.host.me ≡ n) → (deed : Deed) → call_by (reversed f) deed x ≡ []
no_call_back kinds n f served x s me deed =
    elim (call_is (reversed f) deed x) [
      | inl none ↦ none
      | inr call ↦ absurd (two_kinds (kinds n f.to_port) (s.ports f.to_port Caller call.caller) (subst (λ (k : ℕ). kinds k f.to_port ≡ Service) (call.from ∙ me call.unspent) served.service))
    ]

-- A REPLY goes from its node, which isn't closed, to a token that is open there
pub record GoesBack (f : Flow) (x : Node) : Type 0 where
  pub from : f.to.0 ≡ x.endpoint.state.host.me
  pub unspent : x.endpoint.spent ≡ false
  pub token : Token
  pub there : Contains x.book.tokens token
  pub flow : token.flow ≡ f

is_reply : (f : Flow) (token : Token) (payload : List ℕ) (x : Node) → same_flow token.flow f ≡ true → first_refusal (reply_refusals x token payload) ≡ None → GoesBack f x
is_reply f token payload x is h =
    let c = all_clear (reply_refusals x token payload) h in
    let open_at = token_there token x.book.tokens (not_false _ c.1.1.0) in
    let same = flow_is token.flow f is in
    record {
      from = ap (λ (g : Flow). g.to.0) (sym same) ∙ nat_is token.flow.to.0 x.endpoint.state.host.me (first_of_both (token.flow.to.0 == x.endpoint.state.host.me) (token.flow.from.0 == x.endpoint.state.host.me) (not_false _ c.1.1.1.0));
      unspent = goes_on x.endpoint.spent x.book.closed c.0;
      token = open_at.0;
      there = open_at.1;
      flow = sym open_at.2 ∙ same;
    }

replied_if : (f : Flow) (now : ℕ) (token : Token) (payload : List ℕ) (x : Node) (b : Bool) → same_flow token.flow f ≡ b → (o : Option Replied) → first_refusal (reply_refusals x token payload) ≡ o
    → (cond b (replied_as (unless o x (replied_by now token (message_of (to_u64 token.number) payload) x)).0 token payload) [] ≡ []) ⊎ GoesBack f x
replied_if f now token payload x false is o h = inl refl
replied_if f now token payload x true is (Some a) h = inl (first_none (λ (r : Replied). replied_as r token payload) (reply_refusals x token payload) a (refl, (refl, (refl, (refl, (refl, tt))))) h)
replied_if f now token payload x true is None h = inr (is_reply f token payload x is h)

asked_reply_if : (f : Flow) (token : Token) (payload : List ℕ) (x : Node) (b : Bool) → same_flow token.flow f ≡ b → (o : Option Replied) → first_refusal (reply_refusals x token payload) ≡ o → (cond b (asked_as o token.number payload) [] ≡ []) ⊎ GoesBack f x
asked_reply_if f token payload x false is o h = inl refl
asked_reply_if f token payload x true is (Some a) h = inl refl
asked_reply_if f token payload x true is None h = inr (is_reply f token payload x is h)

asked_reply : (f : Flow) (deed : Deed) (x : Node) → (reply_asked f deed x ≡ []) ⊎ GoesBack f x
asked_reply f (GivesReply now token payload) x = asked_reply_if f token payload x (same_flow token.flow f) refl (first_refusal (reply_refusals x token payload)) refl
asked_reply f (GivesKind port kind) x = inl refl
asked_reply f (MakesCall now g payload patience) x = inl refl
asked_reply f (Forgets now token) x = inl refl
asked_reply f (Ticks now) x = inl refl
asked_reply f (Arrives now link datagram waited) x = inl refl
asked_reply f (Raises life) x = inl refl
asked_reply f TakesHappening x = inl refl
asked_reply f PullsFrame x = inl refl
asked_reply f (GetsRoute route answer added) x = inl refl
asked_reply f (CountsFlow flow counted) x = inl refl
asked_reply f Closes x = inl refl
asked_reply f (OpensAgain again options most life) x = inl refl
asked_reply f (FindsNoMemory deed after) x = asked_reply f deed x

pub reply_is : (f : Flow) (deed : Deed) (x : Node) → (reply_by f deed x ≡ []) ⊎ GoesBack f x
reply_is f (GivesReply now token payload) x = replied_if f now token payload x (same_flow token.flow f) refl (first_refusal (reply_refusals x token payload)) refl
reply_is f (GivesKind port kind) x = inl refl
reply_is f (MakesCall now g payload patience) x = inl refl
reply_is f (Forgets now token) x = inl refl
reply_is f (Ticks now) x = inl refl
reply_is f (Arrives now link datagram waited) x = inl refl
reply_is f (Raises life) x = inl refl
reply_is f TakesHappening x = inl refl
reply_is f PullsFrame x = inl refl
reply_is f (GetsRoute route answer added) x = inl refl
reply_is f (CountsFlow flow counted) x = inl refl
reply_is f Closes x = inl refl
reply_is f (OpensAgain again options most life) x = inl refl
reply_is f (FindsNoMemory deed after) x = asked_reply f deed x

-- so it goes to a caller, and never on a caller's flow
pub no_reply_there : (kinds : (node port : ℕ) → PortKind) (n : ℕ) (f : Flow) → IsServed kinds f → (x : Node) → IsSound kinds n x.book → (x.endpoint.spent ≡ false → x.endpoint.state.host.me ≡ n) → (deed : Deed) → reply_by (reversed f) deed x ≡ []
no_reply_there kinds n f served x s me deed =
    elim (reply_is (reversed f) deed x) [
      | inl none ↦ none
      | inr reply ↦
          let service = s.ports reply.token.flow.to_port Service (s.tokens reply.token reply.there) ∙ ap (λ (g : Flow). kinds n g.to_port) reply.flow in
          absurd (two_kinds (kinds n f.from_port) (sym (subst (λ (k : ℕ). kinds k f.from_port ≡ Caller) (reply.from ∙ me reply.unspent) served.caller)) (sym service))
    ]

-- WHAT IS SPELLED is said
pub number_again : (number : CallNumber) → number.life < 2 ^ 32 → number.count < 2 ^ 32 → from_u64 (to_u64 number) ≡ number
number_again number life count =
    let l : (number.life * 2 ^ 32 + number.count) / 2 ^ 32 ≡ number.life = omega arith in
    let c : (number.life * 2 ^ 32 + number.count) % 2 ^ 32 ≡ number.count = omega arith in
    ap (λ (k : ℕ). let r : CallNumber = record { life = k; count = (number.life * 2 ^ 32 + number.count) % 2 ^ 32 } in r) l
    ∙ ap (λ (k : ℕ). let r : CallNumber = record { life = number.life; count = k } in r) c

pub said_again : (m : Message) → m.number.life < 2 ^ 32 → m.number.count < 2 ^ 32 → said (spelled m) ≡ m
said_again m life count =
    let fits : to_u64 m.number < 2 ^ 64 = omega arith in
    ap (λ (k : ℕ). let r : Message = record { number = from_u64 k; carried = m.carried } in r) (number_back (to_u64 m.number) m.carried fits)
    ∙ ap (λ (k : CallNumber). let r : Message = record { number = k; carried = m.carried } in r) (number_again m.number life count)

-- messages whose numbers fit into their octets
abbrev pub AreFit : List Message → Type 0
AreFit [] = Unit {0}
AreFit (m ∷ ms) = (m.number.life < 2 ^ 32) × (m.number.count < 2 ^ 32) × AreFit ms

abbrev pub AreSaid : List Message → Type 0
AreSaid ms = map said (map spelled ms) ≡ ms

pub fit_said : (ms : List Message) → AreFit ms → AreSaid ms
fit_said [] fit = refl
fit_said (m ∷ ms) fit = ap (λ (x : Message). x ∷ map said (map spelled ms)) (said_again m fit.0 fit.1) ∙ ap (λ (xs : List Message). m ∷ xs) (fit_said ms fit.2)

fit_made : (o : Option Refusal) (h : CallBook) (payload : List ℕ) → IsLife h.life → h.count < 2 ^ 32 → AreFit (made_as (made_of o h) payload)
fit_made None h payload life count = (life, count, tt)
fit_made (Some (refusal.Quiet until)) h payload life count = tt
fit_made (Some (refusal.Full free)) h payload life count = tt

call_fits : (o : Option Made) (now : ℕ) (f : Flow) (payload : List ℕ) (patience : ℕ) (x : Node) → IsLife x.book.life → first_refusal (call_refusals x f payload patience) ≡ o
    → AreFit (made_as (unless o x (made_by now f (message_of (to_u64 (next_number x.book)) payload) patience x)).0 payload)
call_fits (Some a) now f payload patience x life refused =
    subst AreFit (sym (first_none (λ (r : Made). made_as r payload) (call_refusals x f payload patience) a (refl, (refl, (refl, (refl, (refl, (refl, (refl, (refl, tt)))))))) refused)) tt
call_fits None now f payload patience x life clear =
    let c = all_clear (call_refusals x f payload patience) clear in
    let many : nat_le (2 ^ 32) x.book.count ≡ false = c.1.1.1.1.1.1.0 in
    let count : x.book.count < 2 ^ 32 = grind (arith, nat_tests, many) in
    fit_made (send_answer now f (message_of (to_u64 (next_number x.book)) payload) true true x.endpoint) x.book payload life count

fit_if : (b : Bool) (ms : List Message) → AreFit ms → AreFit (cond b ms [])
fit_if true ms h = h
fit_if false ms h = tt

asked_fit : (o : Option Made) (f : Flow) (payload : List ℕ) (patience : ℕ) (x : Node) → IsLife x.book.life → first_refusal (call_refusals x f payload patience) ≡ o → AreFit (asked_as o (next_number x.book) payload)
asked_fit (Some a) f payload patience x life is = tt
asked_fit None f payload patience x life clear =
    let c = all_clear (call_refusals x f payload patience) clear in
    let many : nat_le (2 ^ 32) x.book.count ≡ false = c.1.1.1.1.1.1.0 in
    let count : x.book.count < 2 ^ 32 = grind (arith, nat_tests, many) in
    (life, count, tt)

asked_fits : (f : Flow) (deed : Deed) (x : Node) → IsLife x.book.life → AreFit (call_asked f deed x)
asked_fits f (MakesCall now g payload patience) x life = fit_if (same_flow g f) _ (asked_fit (first_refusal (call_refusals x g payload patience)) g payload patience x life refl)
asked_fits f (GivesKind port kind) x life = tt
asked_fits f (GivesReply now token payload) x life = tt
asked_fits f (Forgets now token) x life = tt
asked_fits f (Ticks now) x life = tt
asked_fits f (Arrives now link datagram waited) x life = tt
asked_fits f (Raises l) x life = tt
asked_fits f TakesHappening x life = tt
asked_fits f PullsFrame x life = tt
asked_fits f (GetsRoute route answer added) x life = tt
asked_fits f (CountsFlow flow counted) x life = tt
asked_fits f Closes x life = tt
asked_fits f (OpensAgain again routes most l) x life = tt
asked_fits f (FindsNoMemory deed after) x life = asked_fits f deed x life

pub calls_fit : (f : Flow) (deed : Deed) (x : Node) → IsLife x.book.life → AreFit (call_by f deed x)
calls_fit f (MakesCall now g payload patience) x life = fit_if (same_flow g f) _ (call_fits (first_refusal (call_refusals x g payload patience)) now g payload patience x life refl)
calls_fit f (GivesKind port kind) x life = tt
calls_fit f (GivesReply now token payload) x life = tt
calls_fit f (Forgets now token) x life = tt
calls_fit f (Ticks now) x life = tt
calls_fit f (Arrives now link datagram waited) x life = tt
calls_fit f (Raises l) x life = tt
calls_fit f TakesHappening x life = tt
calls_fit f PullsFrame x life = tt
calls_fit f (GetsRoute route answer added) x life = tt
calls_fit f (CountsFlow flow counted) x life = tt
calls_fit f Closes x life = tt
calls_fit f (OpensAgain again routes most l) x life = tt
calls_fit f (FindsNoMemory deed after) x life = asked_fits f deed x life
