-- Turns of services are steps of the network of their endpoints.
use Rattle.std.proofs.Common.{ℕ, ◌+◌, ◌<◌, ◌≤◌, ◌≡◌, ◌⊎◌, ◌==◌, Bool, true, false, List, [], ◌∷◌, ◌++◌, drop, length, map, Option, Some, None, refl, ap, sym, subst, ◌∙◌, inl, inr, append-nil, append_assoc, drop_of_length-le, arith}
use Rattle.std.specs.Prelude.{All, Contains, cond, option_map}
use Rattle.std.proofs.Math.Seq.{drop-length, drop-nil}
use Rattle.std.proofs.lemmas.Bool.{cases_Bool}
use Rattle.std.proofs.lemmas.List.{map-append}
use Rattle.std.proofs.lemmas.List.Elements.{All-contains, All-nil, All-weaker, Contains-append_cases, Contains-append_left, Contains-append_right}
use Rattle.dt_items.specs.declared.item.Item.{Item}
use Rattle.dt_items.specs.Unread.{marked}
use Rattle.dt_units.specs.declared.endpoints.Flow.{Flow}
use Rattle.dt_world_model.proofs.Tables.{look_write_other, nat_is, nat_self}
use Rattle.dt_world_model.specs.Tables.{look, same_flow, write}
use Rattle.dt_calls_laws.specs.Wholes.{items_of_all}
use Rattle.dt_world_model.specs.Station.{Tick}
use Rattle.dt_world_model.specs.WorldStep.{first_refusal}
use Rattle.dt_calls_model.specs.Messages.{message_of, reversed}
use Rattle.dt_endpoint.specs.Calls.{arrive_event, arrive_refusal, send_answer}
use Rattle.dt_service_model.specs.Names.{to_u64, token_with}
use Rattle.dt_endpoint.specs.Endpoints.{EndpointValue, moment_of}
use Rattle.dt_network.specs.Duties.{KeepsDuties}
use Rattle.dt_network.specs.Network.{Network, Setup}
use Rattle.dt_network.specs.Octets.{AreTaken, all_read}
use Rattle.dt_network.specs.Steps.{AreSteps, Calls, DoesFrom, OpenAgain, Pass, PullFrame, Step, network_by, AddRoute, Follow}
use Rattle.dt_network.specs.Duties.{KeepsFrom as CallKeeps}
use Rattle.dt_service_model.specs.declared.happenings.Happening.{Happening}
use Rattle.dt_service_model.specs.declared.names.CallNumber.{CallNumber}
use Rattle.dt_service_model.specs.declared.names.Token.{Token}
use Rattle.dt_service_model.specs.declared.ports.PortKind.{PortKind}
use Rattle.dt_service_model.specs.declared.calls.OpenCall.{OpenCall}
use Rattle.dt_service_model.specs.Asked.{call_refusals, forget_refusals, forgotten, is_closed, is_life_in_use, message_event, next_number, raised, reply, reply_refusals, with_kind, with_port}
use Rattle.dt_service_model.specs.Ends.{close, next, next_call, next_in}
use Rattle.dt_service_model.specs.CallBook.{CallBook, kind_in}
use Rattle.dt_service_model.specs.Turns.{Node, happens}
use Rattle.dt_service_laws.specs.Histories.{Message, answer_in, answers_at, at_node, at_the, call_by, calls_on, count_of, in_turn, in_turns, replied_as, replies_on, reply_by, request_in, requests_on, told_by, spelled}
use Rattle.dt_service_laws.specs.Orders.{AreSomeOf, none}
use Rattle.dt_service_laws.specs.Services.{Arrives, Closes, CountsFlow, Deed, Does, FindsNoMemory, Forgets, GetsRoute, GivesKind, GivesReply, MakesCall, OpensAgain, Passes, PullsFrame, Raises, Services, TakesHappening, Ticks, Turn, node_after, node_does, node_with, services_after, with_node, counted_if}
use Rattle.dt_service_laws.specs.Tie.{AreSentOf, finds_memory, has_memory}
use Rattle.dt_service_laws.specs.Wholes.{begun_after, messages_from}
use Rattle.dt_service_laws.proofs.Answering.{IsOther, count_append, same_reversed}
use Rattle.dt_service_laws.proofs.Asked.{alike, arrive_comes, called, call_comes, forget_comes, mid_of, replied_mid, reply_comes, tick_comes}
use Rattle.dt_service_laws.proofs.Broken.{Came, broken_came, posted_nothing}
use Rattle.dt_service_laws.proofs.Deeds.{IsOn, comes_by_step, comes_quietly}
use Rattle.dt_service_laws.proofs.Elsewhere.{IsLawful}
use Rattle.dt_service_laws.proofs.Moves.{AreKeptFrom, IsKeptFrom, Tracks, open_count}
use Rattle.dt_service_laws.proofs.Orders.{both}
use Rattle.dt_service_laws.proofs.Owed.{KeepsDeed, KeepsFrom, KeepsTurn, KeepsTurns}
use Rattle.dt_service_laws.proofs.Pieces.{messages_append}
use Rattle.dt_service_laws.proofs.Posting.{IsPosted, posted_none, sent_posted}
use Rattle.dt_service_laws.proofs.Quiet.{close_quiet, forgotten_quiet, kept_itself}
use Rattle.dt_service_laws.proofs.Middle.{AreOf, FewerOpen, call_fewer, call_of, cond_fewer, cond_kept, heard_fewer, heard_kept, kept_of, kind_fewer, kind_kept, mid_fewer, mid_kept, none_gone, raise_fewer, raise_kept, reply_gone, reply_of, same_open, taken_fewer, taken_kept}
use Rattle.dt_service_laws.proofs.Sent.{sent_on}
use Rattle.dt_service_laws.proofs.Sound.{call_is, reply_is}
use Rattle.dt_service_laws.proofs.Runs.{IsAt, duties_append, steps_append, written_there}
use Rattle.dt_service_laws.proofs.Sending.{taken_parts, takes_more, takes_nothing}
use Rattle.dt_service_laws.proofs.Telling.{read_append, said}
use Rattle.dt_service_laws.proofs.Routing.{route_keeps}

-- what is beside an endpoint
kind_between : (port : ℕ) (o : Option PortKind) (kind : PortKind) (h : CallBook) → ((with_port port o kind h).begun ≡ h.begun) × ((with_port port o kind h).happenings ≡ h.happenings)
kind_between port None kind h = (refl, refl)
kind_between port (Some k) kind h = (refl, refl)

life_between : (b : Bool) (life : ℕ) (h : CallBook) → ((cond b h (record h { life = life; count = 0 })).begun ≡ h.begun) × ((cond b h (record h { life = life; count = 0 })).happenings ≡ h.happenings)
life_between true life h = (refl, refl)
life_between false life h = (refl, refl)

record Takes1 (h k : CallBook) : Type 0 where
  begun : k.begun ≡ h.begun
  none : drop (length h.happenings) k.happenings ≡ []

taken_call : (calls : List OpenCall) (h : CallBook) → h.happenings ≡ [] → Takes1 h (next_call calls h).1
taken_call [] h is = record { begun = refl; none = drop-length h.happenings }
taken_call (call ∷ calls) h is = record { begun = refl; none = drop-length h.happenings }

taken_closed : (b : Bool) (h : CallBook) → h.happenings ≡ [] → Takes1 h (cond {A = Option Happening × CallBook} b (next_call h.calls h) (None, h)).1
taken_closed true h is = taken_call h.calls h is
taken_closed false h is = record { begun = refl; none = drop-length h.happenings }

rest_dropped : (x : Happening) (xs : List Happening) → drop (length (x ∷ xs)) xs ≡ []
rest_dropped x xs = let le : length xs ≤ length (x ∷ xs) = omega arith in drop_of_length-le xs le

taken_first : (told : List Happening) (h : CallBook) → h.happenings ≡ told → Takes1 h (next_in told h).1
taken_first [] h is = taken_closed h.closed h is
taken_first (x ∷ xs) h is = record { begun = refl; none = ap (λ (ts : List Happening). drop (length ts) xs) is ∙ rest_dropped x xs }

-- a node that is closed stays so
on_still : (x : Node) (h : CallBook) → IsOn x → (x.book.closed ≡ true → h.closed ≡ true) → IsOn (record x { book = h })
on_still x h (inl unspent) closes = inl unspent
on_still x h (inr closed) closes = inr (closes closed)

kind_closes : (port : ℕ) (o : Option PortKind) (kind : PortKind) (h : CallBook) → h.closed ≡ true → (with_port port o kind h).closed ≡ true
kind_closes port None kind h closed = closed
kind_closes port (Some k) kind h closed = closed

raise_closes : (b : Bool) (life : ℕ) (h : CallBook) → h.closed ≡ true → (cond b h (record h { life = life; count = 0 })).closed ≡ true
raise_closes true life h closed = closed
raise_closes false life h closed = closed

next_closes : (calls : List OpenCall) (h : CallBook) → h.closed ≡ true → (next_call calls h).1.closed ≡ true
next_closes [] h closed = closed
next_closes (call ∷ calls) h closed = closed

closed_closes : (b : Bool) (h : CallBook) → h.closed ≡ true → (cond {A = Option Happening × CallBook} b (next_call h.calls h) (None, h)).1.closed ≡ true
closed_closes true h closed = next_closes h.calls h closed
closed_closes false h closed = closed

taken_closes : (told : List Happening) (h : CallBook) → h.closed ≡ true → (next_in told h).1.closed ≡ true
taken_closes [] h closed = closed_closes h.closed h closed
taken_closes (x ∷ told) h closed = closed

-- what goes on is on, or closed
on_after : (x y : Node) → y.endpoint.spent ≡ x.endpoint.spent → y.book.closed ≡ x.book.closed → IsOn x → IsOn y
on_after x y spent closed (inl u) = inl (spent ∙ u)
on_after x y spent closed (inr c) = inr (closed ∙ c)

module _ (setup : Setup) (Good : Network → Type 0) (law : IsLawful setup Good) where
  module _ (n : ℕ) (m : Network) (x : Node) (there : IsAt n m x.endpoint) (on : IsOn x) (good : Good m) where
    -- what is done beside the endpoint alone
    quietly : (deed : Deed) (h : CallBook) → ((g : Flow) → sent_on g deed x ≡ []) → h.begun ≡ x.book.begun → drop (length x.book.happenings) h.happenings ≡ [] → (x.book.closed ≡ true → h.closed ≡ true) → ((t : Token) → reply_by t.flow deed x ≡ []) → AreKeptFrom x.book.calls h.calls → FewerOpen x.book h
        → Came setup n deed x (record x { book = h }) m
    quietly deed h sent begun told closes replies kept fewer = record {
      mid = h;
      of = kept_of (λ g. call_by g deed x) x.book.calls h.calls kept;
      gone = λ t. (let l = fewer t in let no = ap (count_of t.number) (replies t) in omega (arith, l, no));
      reaches = posted_nothing setup n deed x h (record x { book = h }) m sent (comes_quietly setup n x h m there (on_still x h on closes) (λ g b tracks. subst (λ (es : List (Flow × List ℕ)). Tracks g b es) (sym begun) tracks) told);
    }

    -- a flow is counted, or there was no memory for it
    counts : (flow : Flow) (counted : Bool) → DoesFrom setup n (Follow flow counted) (counted_if counted flow x.endpoint) (Some x.endpoint) → (counted_if counted flow x.endpoint).spent ≡ x.endpoint.spent → Came setup n (CountsFlow flow counted) x (node_after setup n (CountsFlow flow counted) x) m
    counts flow counted does spent =
        let y = node_after setup n (CountsFlow flow counted) x in
        let step = Calls n (Follow flow counted) y.endpoint in
        record {
          mid = x.book;
          of = kept_of (λ g. []) x.book.calls _ (kept_itself x.book.calls);
          gone = none_gone x.book x.book (same_open x.book);
          reaches = comes_by_step setup n x m y step (subst (DoesFrom setup n (Follow flow counted) y.endpoint) (sym there) does, tt) (subst (CallKeeps setup m n (Follow flow counted)) (sym there) tt, tt) refl
              (on_after x y spent refl on) (λ g. refl) (λ g. takes_more g step [] [] [] (λ first t. t) (takes_nothing g)) (λ g b tracks. tracks) (drop-length x.book.happenings);
        }

    pub came : (deed : Deed) → KeepsDeed setup m n deed x → Came setup n deed x (node_after setup n deed x) m
    came (GivesKind port kind) keeps =
        let k = kind_between port (kind_in port x.book.ports) kind x.book in
        quietly (GivesKind port kind) (with_kind port kind x.book) (λ g. refl) k.0 (ap (drop (length x.book.happenings)) k.1 ∙ drop-length x.book.happenings) (kind_closes port (kind_in port x.book.ports) kind x.book) (λ t. refl) (kind_kept port (kind_in port x.book.ports) kind x.book) (kind_fewer port (kind_in port x.book.ports) kind x.book)
    came (MakesCall now f payload patience) keeps =
        let message = message_of (to_u64 (next_number x.book)) payload in
        let o = first_refusal (call_refusals x f payload patience) in
        record {
          mid = mid_of o x.book (called now f message patience x);
          of = call_of now f payload patience x o refl;
          gone = none_gone x.book (mid_of o x.book (called now f message patience x)) (mid_fewer o x.book (called now f message patience x) (call_fewer (send_answer now f message true true x.endpoint) f (length message) (moment_of now x.endpoint + patience) x.book (happens now (message_event f message) x).book (heard_fewer now x (message_event f message))));
          reaches = alike setup n m x there Good law good _ _ _ _ (λ g. ap (λ (ms : List Message). items_of_all (map spelled ms)) (sym (append-nil _))) (call_comes setup n m x there Good law good on now keeps.0.0 f keeps.0.1 payload patience keeps.1);
        }
    came (GivesReply now token payload) keeps =
        let message = message_of (to_u64 token.number) payload in
        let o = first_refusal (reply_refusals x token payload) in
        record {
          mid = mid_of o x.book (replied_mid now token message x);
          of = kept_of (λ g. []) x.book.calls _ (reply_of now token message x o);
          gone = reply_gone now token payload x o refl;
          reaches = alike setup n m x there Good law good _ _ _ _ (λ g. ap (λ (b : Bool). items_of_all (map spelled (cond b (replied_as (reply now token payload x).0 token payload) []))) (same_reversed token.flow (reversed g))) (reply_comes setup n m x there Good law good on now keeps.0.0 token keeps.0.1 payload keeps.1);
        }
    came (Forgets now token) keeps =
        let o = first_refusal (forget_refusals x token) in
        record {
          mid = mid_of o x.book (forgotten token x.book);
          of = kept_of (λ g. []) x.book.calls _ (mid_kept o x.book (forgotten token x.book) (kept_itself x.book.calls));
          gone = none_gone x.book (mid_of o x.book (forgotten token x.book)) (mid_fewer o x.book (forgotten token x.book) (forgotten_quiet token x.book).opens);
          reaches = forget_comes setup n m x there Good law good on now keeps.0 token keeps.1;
        }
    came (Ticks now) keeps = record {
      mid = cond (is_closed x) x.book (happens now Tick x).book;
      of = kept_of (λ g. []) x.book.calls _ (cond_kept (is_closed x) x.book (happens now Tick x).book (heard_kept now x Tick));
      gone = none_gone x.book (cond (is_closed x) x.book (happens now Tick x).book) (cond_fewer (is_closed x) x.book (happens now Tick x).book (heard_fewer now x Tick));
      reaches = tick_comes setup n m x there Good law good on now keeps.0 keeps.1;
    }
    came (Arrives now link datagram waited) keeps =
        let event = arrive_event link datagram waited in
        let o = arrive_refusal link datagram waited x.endpoint in
        let between = mid_of o x.book (happens now event x).book in
        record {
          mid = cond (is_closed x) x.book between;
          of = kept_of (λ g. []) x.book.calls _ (cond_kept (is_closed x) x.book between (mid_kept o x.book (happens now event x).book (heard_kept now x event)));
          gone = none_gone x.book (cond (is_closed x) x.book between) (cond_fewer (is_closed x) x.book between (mid_fewer o x.book (happens now event x).book (heard_fewer now x event)));
          reaches = arrive_comes setup n m x there Good law good on now link datagram waited keeps.0 keeps.1;
        }
    came (Raises life) keeps =
        let b = is_life_in_use life x.book in
        let k = life_between b life x.book in
        quietly (Raises life) (raised life x.book) (λ g. refl) k.0 (ap (drop (length x.book.happenings)) k.1 ∙ drop-length x.book.happenings) (raise_closes b life x.book) (λ t. refl) (raise_kept b life x.book) (raise_fewer b life x.book)
    came TakesHappening keeps =
        let k = taken_first x.book.happenings x.book refl in
        quietly TakesHappening (next x.book).1 (λ g. refl) k.begun k.none (taken_closes x.book.happenings x.book) (λ t. refl) (taken_kept x.book.happenings x.book) (taken_fewer x.book.happenings x.book)
    came PullsFrame keeps =
        let y = node_after setup n PullsFrame x in
        record {
          mid = x.book;
          of = kept_of (λ g. []) x.book.calls _ (kept_itself x.book.calls);
          gone = none_gone x.book x.book (same_open x.book);
          reaches = comes_by_step setup n x m y (Calls n PullFrame y.endpoint) (subst (DoesFrom setup n PullFrame y.endpoint) (sym there) refl, tt) (subst (CallKeeps setup m n PullFrame) (sym there) tt, tt) refl on (λ g. refl) (λ g. takes_more g (Calls n PullFrame y.endpoint) [] [] [] (λ first t. t) (takes_nothing g)) (λ g b tracks. tracks) (drop-length x.book.happenings);
        }
    came (GetsRoute route answer added) keeps =
        let y = node_after setup n (GetsRoute route answer added) x in
        let step = Calls n (AddRoute route answer) added in
        record {
          mid = x.book;
          of = kept_of (λ g. []) x.book.calls _ (kept_itself x.book.calls);
          gone = none_gone x.book x.book (same_open x.book);
          reaches = comes_by_step setup n x m y step (subst (DoesFrom setup n (AddRoute route answer) added) (sym there) keeps.0, tt) (subst (CallKeeps setup m n (AddRoute route answer)) (sym there) tt, tt) refl
              (on_after x y (route_keeps route answer x.endpoint added keeps.0).spent refl on) (λ g. refl) (λ g. takes_more g step [] [] [] (λ first t. t) (takes_nothing g)) (λ g b tracks. tracks) (drop-length x.book.happenings);
        }
    came (CountsFlow flow true) keeps = counts flow true refl refl
    came (CountsFlow flow false) keeps = counts flow false refl refl
    came Closes keeps = record {
      mid = close x.book;
      of = kept_of (λ g. []) x.book.calls _ (close_quiet x.book).waits;
      gone = none_gone x.book (close x.book) (close_quiet x.book).opens;
      reaches = comes_quietly setup n x (close x.book) m there (inr refl) (λ g b tracks. (close_quiet x.book).begun g b tracks) (drop-length x.book.happenings);
    }
    came (OpensAgain again options most life) keeps =
        let y = node_after setup n (OpensAgain again options most life) x in
        record {
          mid = y.book;
          of = All-nil (λ (c : OpenCall). c.waits ≡ true → IsKeptFrom x.book.calls c ⊎ (0 < count_of c.number []));
          gone = none_gone x.book y.book (λ t. omega arith);
          reaches = comes_by_step setup n x m y (Calls n (OpenAgain again options) y.endpoint) (subst (DoesFrom setup n (OpenAgain again options) y.endpoint) (sym there) refl, tt) (subst (CallKeeps setup m n (OpenAgain again options)) (sym there) keeps.0.0, tt) refl (inl refl) (λ g. refl)
              (λ g. takes_more g (Calls n (OpenAgain again options) y.endpoint) [] [] [] (λ first t. t) (takes_nothing g)) (λ g b tracks. inl refl) (drop-nil (length x.book.happenings));
        }
    came (FindsNoMemory deed after) keeps = broken_came setup Good law n m x there good deed after (keeps.0.0, keeps.1) keeps.0.1

  -- ONE TURN, for a flow
  abbrev pub AreOn : Services → Type 0
  AreOn s = (k : ℕ) (e : EndpointValue) → IsAt k s.network e → (e.spent ≡ false) ⊎ ((s.book k).closed ≡ true)

  -- calls that wait were made before, as often as is said
  abbrev pub Waits : (past : Flow → CallNumber → ℕ) → List OpenCall → Type 0
  Waits past calls = All (λ (call : OpenCall). call.waits ≡ true → 0 < past call.flow call.number) calls

  -- a call of another flow than the reverse of this one was made under the number of an answer
  pub record OtherCall (f : Flow) (past : Flow → CallNumber → ℕ) (a : Message) : Type 0 where
    pub flow : Flow
    pub other : same_flow flow (reversed f) ≡ false
    pub made : 0 < past flow a.number

  abbrev pub and_then : (past : Flow → CallNumber → ℕ) → (Flow → List Message) → Flow → CallNumber → ℕ
  and_then past calls g m = past g m + count_of m (calls g)

  pub record Turned (f : Flow) (b : Option (List ℕ)) (past : Flow → CallNumber → ℕ) (s v : Services) (memory : Bool) (sent requests replies answers : List Message) (all_calls made : Flow → List Message) : Type 0 where
    pub steps : List Step
    pub are : AreSteps setup steps s.network
    pub keep : KeepsDuties setup steps s.network
    pub ends : network_by steps s.network ≡ v.network
    pub takes : (taken : List Item) → AreTaken f steps taken → IsPosted memory sent taken
    pub some : AreSomeOf requests (map said (messages_from b (all_read f steps)))
    pub begun : Tracks f (begun_after b (all_read f steps)) (v.book f.to.0).begun
    pub on : AreOn v
    pub waits : Waits (and_then past made) (v.book f.to.0).calls
    pub opens : (m : CallNumber) → count_of m replies + open_count (token_with f m) (v.book f.to.0).tokens ≤ open_count (token_with f m) (s.book f.to.0).tokens + count_of m requests
    pub answered : (a : Message) → Contains answers a → Contains (map said (messages_from b (all_read f steps))) a ⊎ OtherCall f (and_then past made) a
    pub here : (k : Flow) → k.from.0 ≡ f.to.0 → all_calls k ≡ made k

  written_on : (n : ℕ) (s : Services) (y : Node) → AreOn s → IsOn y → AreOn (with_node n s y)
  written_on n s y all one k e there =
      elim (cases_Bool (n == k)) [
        | inl is ↦
            let first : look ◌==◌ k (write ◌==◌ n y.endpoint s.network.endpoints) ≡ Some y.endpoint = subst (λ (j : ℕ). look ◌==◌ j (write ◌==◌ n y.endpoint s.network.endpoints) ≡ Some y.endpoint) (nat_is n k is) (written_there n y.endpoint s.network.endpoints) in
            let two : Some y.endpoint ≡ Some e = sym first ∙ there in
            let same : y.endpoint ≡ e = cc in
            subst (λ (b : Bool). (e.spent ≡ false) ⊎ ((cond b y.book (s.book k)).closed ≡ true)) (sym is) (subst (λ (z : EndpointValue). (z.spent ≡ false) ⊎ (y.book.closed ≡ true)) same one)
        | inr other ↦ subst (λ (b : Bool). (e.spent ≡ false) ⊎ ((cond b y.book (s.book k)).closed ≡ true)) (sym other) (all k e (sym (look_write_other ℕ EndpointValue ◌==◌ nat_self nat_is k n y.endpoint s.network.endpoints other) ∙ there))
      ]

  past_more : (past : Flow → CallNumber → ℕ) (made : Flow → List Message) (calls : List OpenCall) → Waits past calls → Waits (and_then past made) calls
  past_more past made calls waits = All-weaker (λ (c : OpenCall). c.waits ≡ true → 0 < past c.flow c.number) (λ (c : OpenCall). c.waits ≡ true → 0 < and_then past made c.flow c.number) (λ c h w. (let l = h w in omega (arith, l))) calls waits

  -- calls that wait between what is done and the end of its turn
  mid_past : (past : Flow → CallNumber → ℕ) (made : Flow → List Message) (before calls : List OpenCall) → Waits past before → AreOf made before calls → Waits (and_then past made) calls
  mid_past past made before calls waits of =
      All-weaker (λ (c : OpenCall). c.waits ≡ true → IsKeptFrom before c ⊎ (0 < count_of c.number (made c.flow))) (λ (c : OpenCall). c.waits ≡ true → 0 < and_then past made c.flow c.number)
      (λ c h w.
      elim (h w) [
        | inl k ↦
            let l = All-contains (λ (c : OpenCall). c.waits ≡ true → 0 < past c.flow c.number) before k.was waits k.there k.waits in
            let here : 0 < past c.flow c.number = subst (λ (m : CallNumber). 0 < past c.flow m) k.number (subst (λ (g : Flow). 0 < past g k.was.number) k.flow l) in
            omega (arith, here)
        | inr new ↦ omega (arith, new)
      ])
      calls of

  kept_past : (past : Flow → CallNumber → ℕ) (before calls : List OpenCall) → Waits past before → AreKeptFrom before calls → Waits past calls
  kept_past past before calls waits kept =
      All-weaker (λ (c : OpenCall). c.waits ≡ true → IsKeptFrom before c) (λ (c : OpenCall). c.waits ≡ true → 0 < past c.flow c.number)
      (λ c h w.
      let k = h w in
      let l = All-contains (λ (c : OpenCall). c.waits ≡ true → 0 < past c.flow c.number) before k.was waits k.there k.waits in
      subst (λ (m : CallNumber). 0 < past c.flow m) k.number (subst (λ (g : Flow). 0 < past g k.was.number) k.flow l))
      calls kept

  other_past : (f : Flow) (past : Flow → CallNumber → ℕ) (calls : List OpenCall) (a : Message) → Waits past calls → IsOther f calls a → OtherCall f past a
  other_past f past calls a waits o =
      let l = All-contains (λ (c : OpenCall). c.waits ≡ true → 0 < past c.flow c.number) calls o.call waits o.there o.waits in
      record { flow = o.call.flow; other = o.other; made = subst (λ (m : CallNumber). 0 < past o.call.flow m) o.number l }

  abbrev pub made_in : Flow → Turn → Services → Flow → List Message
  made_in f t s g = in_turn (at_the f.to.0 (λ n. call_by g)) t s

  turned_at : (f : Flow) (b : Option (List ℕ)) (past : Flow → CallNumber → ℕ) (s : Services) → Good s.network → AreOn s → Tracks f b (s.book f.to.0).begun → Waits past (s.book f.to.0).calls → (n : ℕ) (deed : Deed) (o : Option EndpointValue) → look ◌==◌ n s.network.endpoints ≡ o → KeepsFrom setup s.network n deed (option_map (node_with n s) o)
      → Turned f b past s (node_does setup n deed s (option_map (node_with n s) o)) (finds_memory deed) (at_node (sent_on f deed) (option_map (node_with n s) o)) (at_node (told_by (request_in f) setup n deed) (option_map (node_with n s) o)) (at_node (reply_by f deed) (option_map (node_with n s) o))
      (at_node (at_the f.to.0 (told_by answer_in setup) n deed) (option_map (node_with n s) o)) (λ k. at_node (call_by k deed) (option_map (node_with n s) o)) (λ g. at_node (at_the f.to.0 (λ k. call_by g) n deed) (option_map (node_with n s) o))
  turned_at f b past s good on tracks waits n deed None found keeps =
      record { steps = []; are = tt; keep = tt; ends = refl; takes = λ taken t. posted_none (finds_memory deed) taken t; some = none; begun = tracks; on = on; waits = past_more past (λ g. []) _ waits; opens = λ m. omega arith; answered = λ a there. absurd (let lt = there.1 in omega (arith, lt)); here = λ k from. refl }
  turned_at f b past s good on tracks waits n deed (Some e) found keeps =
      let x = node_with n s e in
      let y = node_after setup n deed x in
      let c = came n s.network x found (on n e found) good deed keeps in
      by_test (n == f.to.0) refl c
    where
      by_test : (t : Bool) → (n == f.to.0) ≡ t → Came setup n deed (node_with n s e) (node_after setup n deed (node_with n s e)) s.network
          → let x = node_with n s e in
          let y = node_after setup n deed x in
          Turned f b past s (with_node n s y) (finds_memory deed) (sent_on f deed x) (told_by (request_in f) setup n deed x) (reply_by f deed x) (cond (n == f.to.0) (told_by answer_in setup n deed x) []) (λ k. call_by k deed x) (λ g. cond (n == f.to.0) (call_by g deed x) [])
      by_test true is came =
          let x = node_with n s e in
          let y = node_after setup n deed x in
          let c = came.reaches in
          let same : n ≡ f.to.0 = nat_is n f.to.0 is in
          let here : Tracks f b x.book.begun = subst (λ (k : ℕ). Tracks f b (s.book k).begun) (sym same) tracks in
          let wait : Waits past x.book.calls = subst (λ (k : ℕ). Waits past (s.book k).calls) (sym same) waits in
          let mid = mid_past past (λ g. call_by g deed x) x.book.calls came.mid.calls wait came.of in
          let left : Waits (and_then past (λ g. call_by g deed x)) y.book.calls = kept_past (and_then past (λ g. call_by g deed x)) came.mid.calls y.book.calls mid c.waits in
          let opens : (m : CallNumber) → count_of m (reply_by f deed x) + open_count (token_with f m) y.book.tokens ≤ open_count (token_with f m) (s.book f.to.0).tokens + count_of m (told_by (request_in f) setup n deed x) =
          λ (m : CallNumber).
          let p = came.gone (token_with f m) in
          let q = c.opens f b here (token_with f m) in
          let r : open_count (token_with f m) x.book.tokens ≡ open_count (token_with f m) (s.book f.to.0).tokens = ap (λ (k : ℕ). open_count (token_with f m) (s.book k).tokens) same in
          omega (arith, p, q, r) in
          record {
            steps = c.steps;
            are = c.are;
            keep = c.keep;
            ends = c.ends;
            takes = c.takes f;
            some = c.requests f b here;
            begun = subst (λ (t : Bool). Tracks f (begun_after b (all_read f c.steps)) (cond t y.book (s.book f.to.0)).begun) (sym is) (c.begun f b here);
            on = written_on n s y on c.on;
            waits = subst (λ (t : Bool). Waits (and_then past (λ g. cond t (call_by g deed x) [])) (cond t y.book (s.book f.to.0)).calls) (sym is) left;
            opens = subst (λ (t : Bool). (m : CallNumber) → count_of m (reply_by f deed x) + open_count (token_with f m) (cond t y.book (s.book f.to.0)).tokens ≤ open_count (token_with f m) (s.book f.to.0).tokens + count_of m (told_by (request_in f) setup n deed x)) (sym is) opens;
            answered = subst (λ (t : Bool). (a : Message) → Contains (cond t (told_by answer_in setup n deed x) []) a → Contains (map said (messages_from b (all_read f c.steps))) a ⊎ OtherCall f (and_then past (λ g. cond t (call_by g deed x) [])) a) (sym is)
                (λ a there. elim (c.answers f b here a there) [ inl m ↦ inl m | inr o ↦ inr (other_past f (and_then past (λ g. call_by g deed x)) came.mid.calls a mid o) ]);
            here = λ k from. ap (λ (t : Bool). cond t (call_by k deed x) []) (sym is);
          }
      by_test false is came =
          let x = node_with n s e in
          let y = node_after setup n deed x in
          let c = came.reaches in
          let no = c.elsewhere f is in
          let me = law.named s.network n e good found in
          let no_reply : reply_by f deed x ≡ [] = elim (reply_is f deed x) [
            | inl nothing ↦ nothing
            | inr from ↦ (let yes : (n == f.to.0) ≡ true = subst (λ (k : ℕ). (n == k) ≡ true) (sym (from.from ∙ me from.unspent)) (nat_self n) in absurd cc)
          ] in
          record {
            steps = c.steps;
            are = c.are;
            keep = c.keep;
            ends = c.ends;
            takes = c.takes f;
            some = subst (λ (ms : List Message). AreSomeOf ms (map said (messages_from b (all_read f c.steps)))) (sym no.1) none;
            begun = subst (λ (t : Bool). Tracks f (begun_after b (all_read f c.steps)) (cond t y.book (s.book f.to.0)).begun) (sym is) (subst (λ (is : List Item). Tracks f (begun_after b is) (s.book f.to.0).begun) (sym no.0) tracks);
            on = written_on n s y on c.on;
            waits = subst (λ (t : Bool). Waits (and_then past (λ g. cond t (call_by g deed x) [])) (cond t y.book (s.book f.to.0)).calls) (sym is) (past_more past (λ g. []) (s.book f.to.0).calls waits);
            opens = subst (λ (t : Bool). (m : CallNumber) → count_of m (reply_by f deed x) + open_count (token_with f m) (cond t y.book (s.book f.to.0)).tokens ≤ open_count (token_with f m) (s.book f.to.0).tokens + count_of m (told_by (request_in f) setup n deed x)) (sym is)
                (λ m. (let z = ap (count_of m) no_reply in omega (arith, z)));
            answered = subst (λ (t : Bool). (a : Message) → Contains (cond t (told_by answer_in setup n deed x) []) a → Contains (map said (messages_from b (all_read f c.steps))) a ⊎ OtherCall f (and_then past (λ g. cond t (call_by g deed x) [])) a) (sym is)
                (λ a there. absurd (let lt = there.1 in omega (arith, lt)));
            here = λ k from.
                elim (call_is k deed x) [
                  | inl nothing ↦ nothing ∙ ap (λ (t : Bool). cond t (call_by k deed x) []) (sym is)
                  | inr call ↦ (let yes : (n == f.to.0) ≡ true = subst (λ (j : ℕ). (n == j) ≡ true) (sym (me call.unspent) ∙ sym call.from ∙ from) (nat_self n) in absurd cc)
                ];
          }

  pub turned : (f : Flow) (b : Option (List ℕ)) (past : Flow → CallNumber → ℕ) (s : Services) → Good s.network → AreOn s → Tracks f b (s.book f.to.0).begun → Waits past (s.book f.to.0).calls → (t : Turn) → KeepsTurn setup t s
      → Turned f b past s (services_after setup t s) (has_memory t) (in_turn (λ n. sent_on f) t s) (in_turn (told_by (request_in f) setup) t s) (in_turn (λ n. reply_by f) t s) (in_turn (at_the f.to.0 (told_by answer_in setup)) t s) (λ k. in_turn (λ n. call_by k) t s) (made_in f t s)
  turned f b past s good on tracks waits (Passes by) keeps =
      record { steps = Pass by ∷ []; are = (tt, tt); keep = (tt, tt); ends = refl; takes = takes_more f (Pass by) [] [] [] (λ first t. t) (takes_nothing f); some = none; begun = tracks; on = on; waits = past_more past (λ g. []) _ waits; opens = λ m. omega arith; answered = λ a there. absurd (let lt = there.1 in omega (arith, lt)); here = λ k from. refl }
  turned f b past s good on tracks waits (Does n deed) keeps = turned_at f b past s good on tracks waits n deed (look ◌==◌ n s.network.endpoints) refl keeps

  -- ALL TURNS
  -- the calls of a flow that are made at the node to which another comes
  abbrev pub calls_made : Flow → List Turn → Services → Flow → List Message
  calls_made f turns s g = in_turns (at_the f.to.0 (λ n. call_by g)) setup turns s

  pub record Ran (f : Flow) (b : Option (List ℕ)) (past : Flow → CallNumber → ℕ) (turns : List Turn) (s : Services) : Type 0 where
    pub steps : List Step
    pub are : AreSteps setup steps s.network
    pub keep : KeepsDuties setup steps s.network
    pub takes : (taken : List Item) → AreTaken f steps taken → (sent : List Message) × AreSentOf (λ n. sent_on f) setup turns s sent × (taken ≡ items_of_all (map spelled sent))
    pub some : AreSomeOf (requests_on f setup turns s) (map said (messages_from b (all_read f steps)))
    pub opens : (m : CallNumber) → count_of m (replies_on f setup turns s) ≤ open_count (token_with f m) (s.book f.to.0).tokens + count_of m (requests_on f setup turns s)
    pub answered : (a : Message) → Contains (answers_at f.to.0 setup turns s) a → Contains (map said (messages_from b (all_read f steps))) a ⊎ OtherCall f (and_then past (calls_made f turns s)) a
    pub here : (k : Flow) → k.from.0 ≡ f.to.0 → calls_on k setup turns s ≡ calls_made f turns s k

  items_both : (xs ys : List (List ℕ)) → items_of_all (xs ++ ys) ≡ items_of_all xs ++ items_of_all ys
  items_both [] ys = refl
  items_both (x ∷ xs) ys = ap (λ (is : List Item). marked x true true false ++ is) (items_both xs ys) ∙ sym (append_assoc (marked x true true false) (items_of_all xs) (items_of_all ys))

  pub ran : (f : Flow) (turns : List Turn) (b : Option (List ℕ)) (past : Flow → CallNumber → ℕ) (s : Services) → Good s.network → AreOn s → Tracks f b (s.book f.to.0).begun → Waits past (s.book f.to.0).calls → KeepsTurns setup turns s → Ran f b past turns s
  ran f [] b past s good on tracks waits keeps = record { steps = []; are = tt; keep = tt; takes = λ taken t. ([], refl, t); some = none; opens = λ m. omega arith; answered = λ a there. absurd (let lt = there.1 in omega (arith, lt)); here = λ k from. refl }
  ran f (t ∷ turns) b past s good on tracks waits keeps =
      let v = services_after setup t s in
      let first = turned f b past s good on tracks waits t keeps.0 in
      let next_good : Good v.network = subst Good first.ends (law.on s.network first.steps good first.are first.keep) in
      let rest = ran f turns (begun_after b (all_read f first.steps)) (and_then past (made_in f t s)) v next_good first.on first.begun first.waits keeps.1 in
      let all : map said (messages_from b (all_read f (first.steps ++ rest.steps))) ≡ map said (messages_from b (all_read f first.steps)) ++ map said (messages_from (begun_after b (all_read f first.steps)) (all_read f rest.steps)) =
      ap (λ (is : List Item). map said (messages_from b is)) (read_append f first.steps rest.steps) ∙ ap (map said) (messages_append b (all_read f first.steps) (all_read f rest.steps)) ∙ map-append said (messages_from b (all_read f first.steps)) (messages_from (begun_after b (all_read f first.steps)) (all_read f rest.steps)) in
      record {
        steps = first.steps ++ rest.steps;
        are = steps_append setup first.steps rest.steps s.network first.are (subst (AreSteps setup rest.steps) (sym first.ends) rest.are);
        keep = duties_append setup first.steps rest.steps s.network first.keep (subst (KeepsDuties setup rest.steps) (sym first.ends) rest.keep);
        takes = λ taken h.
            let p = taken_parts f first.steps rest.steps taken h in
            let one = sent_posted (has_memory t) (in_turn (λ n. sent_on f) t s) p.0 (first.takes p.0 p.2) in
            let more = rest.takes p.1 p.3 in
            (one.0 ++ more.0, (one.0, more.0, one.1, more.1, refl), p.4 ∙ ap (λ (is : List Item). is ++ p.1) one.2 ∙ ap (λ (is : List Item). items_of_all (map spelled one.0) ++ is) more.2 ∙ sym (ap items_of_all (map-append spelled one.0 more.0) ∙ items_both (map spelled one.0) (map spelled more.0)));
        some = subst (λ (ms : List Message). AreSomeOf (requests_on f setup (t ∷ turns) s) ms) (sym all) (both first.some rest.some);
        opens = λ m. (
            let p = first.opens m in
            let q = rest.opens m in
            let r = count_append m (in_turn (λ n. reply_by f) t s) (replies_on f setup turns v) in
            let u = count_append m (in_turn (told_by (request_in f) setup) t s) (requests_on f setup turns v) in
            omega (arith, p, q, r, u)
            );
        answered = λ a there.
            elim (Contains-append_cases (in_turn (at_the f.to.0 (told_by answer_in setup)) t s) (answers_at f.to.0 setup turns v) a there) [
              | inl now ↦ elim (first.answered a now) [
                | inl m ↦ inl (subst (λ (ms : List Message). Contains ms a) (sym all) (Contains-append_left (map said (messages_from b (all_read f first.steps))) (map said (messages_from (begun_after b (all_read f first.steps)) (all_read f rest.steps))) a m))
                | inr o ↦ inr (record { flow = o.flow; other = o.other; made = (let l = o.made in let e = count_append a.number (made_in f t s o.flow) (calls_made f turns v o.flow) in omega (arith, l, e)) })
              ]
              | inr later ↦ elim (rest.answered a later) [
                | inl m ↦ inl (subst (λ (ms : List Message). Contains ms a) (sym all) (Contains-append_right (map said (messages_from b (all_read f first.steps))) (map said (messages_from (begun_after b (all_read f first.steps)) (all_read f rest.steps))) a m))
                | inr o ↦ inr (record { flow = o.flow; other = o.other; made = (let l = o.made in let e = count_append a.number (made_in f t s o.flow) (calls_made f turns v o.flow) in omega (arith, l, e)) })
              ]
            ];
        here = λ k from. ap (λ (ms : List Message). ms ++ calls_on k setup turns v) (first.here k from) ∙ ap (λ (ms : List Message). made_in f t s k ++ ms) (rest.here k from);
      }
