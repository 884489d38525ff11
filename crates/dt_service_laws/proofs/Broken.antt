-- What is asked of a node and finds no memory, as steps of the network.
use Rattle.std.proofs.Common.{ℕ, ◌+◌, ◌≡◌, ◌⊎◌, Bool, true, false, List, [], ◌∷◌, length, map, take, Option, Some, None, refl, ap, sym, subst, ◌∙◌, inl, inr, append-nil, arith}
use Rattle.std.specs.Prelude.{All, cond, not}
use Rattle.dt_items.specs.declared.item.Item.{Item}
use Rattle.dt_items.specs.Unread.{marked}
use Rattle.dt_reports.specs.declared.faults.Refusal.{Refusal}
use Rattle.dt_units.specs.declared.endpoints.Flow.{Flow}
use Rattle.dt_units.specs.Flows.{IsFlow}
use Rattle.dt_world_model.specs.Station.{Event, Tick}
use Rattle.dt_world_model.specs.Tables.{same_flow}
use Rattle.dt_world_model.specs.WorldStep.{first_refusal}
use Rattle.dt_calls_laws.specs.Wholes.{items_of_all}
use Rattle.dt_calls_model.specs.Messages.{message_of, reversed}
use Rattle.dt_endpoint.specs.declared.answers.Received.{Received}
use Rattle.dt_endpoint.specs.declared.answers.Received.TheVariants as arrived
use Rattle.dt_endpoint.specs.declared.answers.Sent.{Sent}
use Rattle.dt_endpoint.specs.declared.answers.Sent.TheVariants as sent
use Rattle.dt_endpoint.specs.declared.answers.Ticked.{Ticked}
use Rattle.dt_endpoint.specs.declared.answers.Ticked.TheVariants as ticked
use Rattle.dt_endpoint.specs.Acts.{acts_of, frames_in}
use Rattle.dt_endpoint.specs.Calls.{ArriveDoes, SendDoes, TickDoes, Unless, arrive_event, send_answer, sent_of}
use Rattle.dt_endpoint.specs.Endpoints.{Breaks, EndpointValue, after_event, moment_of, script_of, with_refused}
use Rattle.dt_network.specs.Duties.{KeepsCall, KeepsTime}
use Rattle.dt_network.specs.Network.{Network, Setup}
use Rattle.dt_network.specs.Octets.{Takes, TakesIf, read_by}
use Rattle.dt_network.specs.Steps.{Call, CallArrive, CallSend, CallTick}
use Rattle.dt_service_model.specs.declared.answers.Made.{Made}
use Rattle.dt_service_model.specs.declared.answers.Replied.{Replied}
use Rattle.dt_service_model.specs.declared.calls.OpenCall.{OpenCall as Kept}
use Rattle.dt_service_model.specs.declared.names.CallNumber.{CallNumber}
use Rattle.dt_service_model.specs.declared.names.Token.{Token}
use Rattle.dt_service_model.specs.Asked.{call_refusals, forget_refusals, forgotten, forgotten_unless, goes_out, is_closed, is_one_too_many, message_event, next_number, reply_refusals, with_call_unless}
use Rattle.dt_service_model.specs.Ends.{close}
use Rattle.dt_service_model.specs.CallBook.{CallBook}
use Rattle.dt_service_model.specs.Hearing.{hear_all}
use Rattle.dt_service_model.specs.Names.{to_u64}
use Rattle.dt_service_model.specs.Stopping.{ArriveStops, CallStops, Closed, EventStops, ForgetStops, ReplyStops, TickStops, TurnStops, behind_event, breaks_off, call_kept, hears_part, in_end, in_event, not_done, token_dropped}
use Rattle.dt_service_model.specs.Turns.{Node, happens, with_book}
use Rattle.dt_service_model.specs.Whole.{is_open}
use Rattle.dt_service_laws.specs.Histories.{Message, asked_as, call_by, count_of, reply_by, spelled}
use Rattle.dt_service_laws.specs.Premises.{BreaksBy}
use Rattle.dt_service_laws.specs.Services.{Arrives, Closes, CountsFlow, Deed, FindsNoMemory, Forgets, GetsRoute, GivesKind, GivesReply, MakesCall, OpensAgain, PullsFrame, Raises, TakesHappening, Ticks}
use Rattle.dt_service_laws.specs.Tie.{finds_memory}
use Rattle.dt_service_laws.proofs.Answering.{same_reversed}
use Rattle.dt_service_laws.proofs.Asked.{all_clear, flows_kept, forgot_between, forgot_flows, goes_on, in_time_later, kept_between, may_send, not_false, posted, send_takes, send_unrefused, tick_does}
use Rattle.dt_service_laws.proofs.Deeds.{Comes, IsBetween, Reaches, nothing_between, reaches_by_end, reaches_by_event, reposted}
use Rattle.dt_service_laws.proofs.Elsewhere.{IsLawful}
use Rattle.dt_service_laws.proofs.Ending.{time_later}
use Rattle.dt_service_laws.proofs.Keeping.{happens_keeps}
use Rattle.dt_service_laws.proofs.Middle.{AreOf, GoneBy, asked_gone, asked_of_call, forgot_kept, kept_of}
use Rattle.dt_service_laws.proofs.Moves.{AreKeptFrom, MayCall, open_count}
use Rattle.dt_service_laws.proofs.Owed.{KeepsDeed}
use Rattle.dt_service_laws.proofs.Posting.{IsPosted, posted_none}
use Rattle.dt_service_laws.proofs.Quiet.{forgotten_quiet, kept_itself, quiet_itself}
use Rattle.dt_service_laws.proofs.Runs.{IsAt}
use Rattle.dt_service_laws.proofs.Sent.{sent_on}
use Rattle.dt_service_laws.proofs.Stops.{LastCall, Stop, broke_stop, can_of, end_stopped, heard_stop, lost_stop, stop_here}
use Rattle.dt_service_laws.proofs.Ways.{AreNone}

-- OF A MESSAGE, all or nothing
abbrev AllOrNone : Flow → List ℕ → Flow → List Item → Type 0
AllOrNone f message g taken = (taken ≡ cond (same_flow f g) (marked message true true false) []) ⊎ (taken ≡ [])

done_posts : (o : Option Refusal) (b : Bool) (message : List ℕ) (taken : List Item) → taken ≡ cond b (posted o message) [] → (taken ≡ cond b (marked message true true false) []) ⊎ (taken ≡ [])
done_posts None b message taken is = inl is
done_posts (Some r) true message taken is = inr is
done_posts (Some r) false message taken is = inr is

broken_takes : (b : Bool) (message : List ℕ) (taken : List Item) → TakesIf b sent.NoMemory (marked message true true false) taken → (taken ≡ cond b (marked message true true false) []) ⊎ (taken ≡ [])
broken_takes true message taken h = h
broken_takes false message taken h = inr h

asked_posts : {A : Type 0} (o : Option A) (number : CallNumber) (payload : List ℕ) (b : Bool) → o ≡ None → cond b (marked (message_of (to_u64 number) payload) true true false) [] ≡ items_of_all (map spelled (cond b (asked_as o number payload) []))
asked_posts (Some r) number payload b is = absurd cc
asked_posts None number payload true is = sym (append-nil (marked (message_of (to_u64 number) payload) true true false))
asked_posts None number payload false is = refl

posted_as : (ms : List Message) (items taken : List Item) → items ≡ items_of_all (map spelled ms) → (taken ≡ items) ⊎ (taken ≡ []) → IsPosted false ms taken
posted_as ms items taken same (inl is) = inl (is ∙ same)
posted_as ms items taken same (inr nothing) = inr nothing

module _ (setup : Setup) (n : ℕ) where
  -- what is done comes to steps, and what stands between it and the end of its turn
  pub record Came (deed : Deed) (x y : Node) (m : Network) : Type 0 where
    pub mid : CallBook
    pub of : AreOf (λ g. call_by g deed x) x.book.calls mid.calls
    pub gone : GoneBy (λ t. reply_by t.flow deed x) x.book mid
    pub reaches : Reaches setup n x mid y m (λ g taken. IsPosted (finds_memory deed) (sent_on g deed x) taken)

  pub posted_nothing : (deed : Deed) (x : Node) (h : CallBook) (y : Node) (m : Network) → ((g : Flow) → sent_on g deed x ≡ []) → Comes setup n x h y m (λ g. []) → Reaches setup n x h y m (λ g taken. IsPosted (finds_memory deed) (sent_on g deed x) taken)
  posted_nothing deed x h y m nothing c = reposted setup n AreNone (λ g taken. IsPosted (finds_memory deed) (sent_on g deed x) taken) x h y m (λ g taken is. subst (λ (ms : List Message). IsPosted (finds_memory deed) ms taken) (sym (nothing g)) (posted_none (finds_memory deed) taken is)) c

  -- where the node closed no token is open
  without_tokens : (P : Flow → List Item → Type 0) (x : Node) (h : CallBook) (y : Node) (m : Network) → y.book.tokens ≡ [] → Reaches setup n x h y m P → Reaches setup n x (record h { tokens = [] }) y m P
  without_tokens P x h y m none c = record {
    steps = c.steps;
    are = c.are;
    keep = c.keep;
    ends = c.ends;
    on = c.on;
    takes = c.takes;
    begun = c.begun;
    requests = c.requests;
    waits = c.waits;
    opens = λ g b tracks t. (let no = ap (open_count t) none in omega (arith, no));
    answers = c.answers;
    elsewhere = c.elsewhere;
  }

  -- a turn that stopped leaves its node closed
  broke_to : (P : Flow → List Item → Type 0) (deed : Deed) (x st y : Node) (h : CallBook) (m : Network) → y ≡ with_book close st → AreOf (λ g. call_by g (FindsNoMemory deed y) x) x.book.calls h.calls → GoneBy (λ t. reply_by t.flow (FindsNoMemory deed y) x) x.book (record h { tokens = [] })
      → ((g : Flow) (taken : List Item) → P g taken → IsPosted false (sent_on g (FindsNoMemory deed y) x) taken) → Reaches setup n x h (with_book close st) m P → Came (FindsNoMemory deed y) x y m
  broke_to P deed x st y h m is of gone posts c = record {
    mid = record h { tokens = [] };
    of = of;
    gone = gone;
    reaches = reposted setup n P (λ g taken. IsPosted false (sent_on g (FindsNoMemory deed y) x) taken) x (record h { tokens = [] }) y m posts
        (subst (λ (z : Node). Reaches setup n x (record h { tokens = [] }) z m P) (sym is) (without_tokens P x h (with_book close st) m refl c));
  }

module _ (setup : Setup) (Good : Network → Type 0) (law : IsLawful setup Good) (n : ℕ) (m : Network) (x : Node) (there : IsAt n m x.endpoint) (good : Good m) where
  -- THE CALL of an event, done and broken off
  record EventCalls (P : Flow → List Item → Type 0) (now : ℕ) (event : Event (Unit {0})) : Type 0 where
    done : Call
    may : MayCall setup n m done x.endpoint (after_event now event x.endpoint)
    reads : (g : Flow) → read_by g done ≡ []
    takes : (g : Flow) (taken : List Item) → Takes g done taken → P g taken
    broken : Call
    cut : (e : EndpointValue) → Breaks now event x.endpoint e → LastCall setup Good law n m P broken x e
    nothing : (g : Flow) → P g []

  last_done : (P : Flow → List Item → Type 0) (now : ℕ) (event : Event (Unit {0})) (c : EventCalls P now event) → LastCall setup Good law n m P c.done x (after_event now event x.endpoint)
  last_done P now event c = record { can = can_of setup Good law n m c.done x.endpoint (after_event now event x.endpoint) c.may; takes = c.takes; reads = λ g other k at fine. c.reads g }

  abbrev Ended : (P : Flow → List Item → Type 0) → (h : CallBook) → (st : Node) → Type 0
  Ended P h st = Reaches setup n x h (with_book close st) m P

  module _ (now : ℕ) (time : KeepsTime setup m n now) where
    by_stop : (P : Flow → List Item → Type 0) (st : Node) → Stop setup Good law n m P x (with_book close st) → Ended P x.book st
    by_stop P st s = reaches_by_end setup n x m there now time Good law good P x.book (with_book close st) s.steps (quiet_itself x.book) s.way (inr refl)

    stop_posts : (P : Flow → List Item → Type 0) (y : Node) → ((g : Flow) → P g []) → Stop setup Good law n m AreNone x y → Stop setup Good law n m P x y
    stop_posts P y nothing s =
        let w = s.way in
        record {
          steps = s.steps;
          way = record { runs = w.runs; takes = λ g taken t. subst (P g) (sym (w.takes g taken t)) (nothing g); tells = w.tells; answers = w.answers; waits = w.waits; elsewhere = w.elsewhere };
        }

    event_came : (P : Flow → List Item → Type 0) (event : Event (Unit {0})) (st : Node) → EventCalls P now event → EventStops now event x st → Stop setup Good law n m P x (with_book close st)
    event_came P event st c (breaks_off e b is) = subst (λ (k : Node). Stop setup Good law n m P x (with_book close k)) (sym is) (broke_stop setup Good law n m P c.broken x e (c.cut e b))
    event_came P event st c (hears_part count is) = subst (λ (k : Node). Stop setup Good law n m P x (with_book close k)) (sym is) (heard_stop setup Good law n m P c.done x (after_event now event x.endpoint) count (last_done P now event c))

    turn_came : (P : Flow → List Item → Type 0) (event : Event (Unit {0})) (change : CallBook → CallBook) (st : Node) → EventCalls P now event → x.endpoint.spent ≡ false → IsBetween setup n (happens now event x).book (change (happens now event x).book) → All IsFlow (change (happens now event x).book).unread
        → TurnStops now event change x st → Ended P x.book st ⊎ Ended P (change (happens now event x).book) st
    turn_came P event change st c unspent between flows (not_done is) =
        inl (by_stop P st (stop_posts P (with_book close st) c.nothing (subst (λ (k : Node). Stop setup Good law n m AreNone x (with_book close k)) (sym is) (stop_here setup Good law n m x unspent))))
    turn_came P event change st c unspent between flows (in_event stops) = inl (by_stop P st (event_came P event st c stops))
    turn_came P event change st c unspent between flows (behind_event is) =
        let after = after_event now event x.endpoint in
        let heard = hear_all after.reports x.book in
        inl (by_stop P st (subst (λ (k : Node). Stop setup Good law n m P x (with_book close k)) (sym is) (lost_stop setup Good law n m P c.done x after heard.begun heard.counts (last_done P now event c))))
    turn_came P event change st c unspent between flows (in_end stops) =
        let h = change (happens now event x).book in
        let s = end_stopped setup Good law n m now time (with_book change (happens now event x)) st flows refl stops in
        inr (reaches_by_event setup n x m there now time Good law good P c.done (after_event now event x.endpoint) h (with_book close st) s.steps c.may c.reads c.takes between s.way (inr refl))

    -- SENDS
    send_calls : (f : Flow) → IsFlow f → (number : ℕ) (carried : List ℕ) → x.endpoint.spent ≡ false → goes_out x f ≡ true → is_one_too_many x carried ≡ false → let message = message_of number carried in EventCalls (AllOrNone f message) now (message_event f message)
    send_calls f flow number carried unspent out few =
        let message = message_of number carried in
        let o = send_answer now f message true true x.endpoint in
        record {
          done = CallSend now f message true true (sent_of o);
          may = may_send setup n m x there Good law good now time f flow number carried unspent out few;
          reads = λ g. refl;
          takes = λ g taken t. done_posts o (same_flow f g) message taken (send_takes (same_flow f g) o message taken t);
          broken = CallSend now f message true true sent.NoMemory;
          cut = λ e b. record {
            can = record {
              does = (flow, subst (λ (r : Option Sent). Unless r sent.NoMemory x.endpoint e (SendDoes sent.NoMemory now o (message_event f message) x.endpoint e)) (sym (send_unrefused setup n m x there Good law good f number carried unspent out few)) b);
              keeps = time_later setup n m now time;
              frames = frames_in (take b.count (acts_of (script_of now (message_event f message) x.endpoint)));
              appended = b.frames;
            };
            takes = λ g taken t. broken_takes (same_flow f g) message taken t;
            reads = λ g other k at fine. refl;
          };
          nothing = λ g. inr refl;
        }

    -- A CALL
    call_came : (f : Flow) → IsFlow f → (payload : List ℕ) (patience : ℕ) (y : Node) → let message = message_of (to_u64 (next_number x.book)) payload in All IsFlow (happens now (message_event f message) x).book.unread → Closed (CallStops now f payload patience x) y → Came setup n (FindsNoMemory (MakesCall now f payload patience) y) x y m
    call_came f flow payload patience y flows closed =
        let message = message_of (to_u64 (next_number x.book)) payload in
        let deed = MakesCall now f payload patience in
        let event = message_event f message in
        let st = closed.stopped in
        let o = send_answer now f message true true x.endpoint in
        let deadline = moment_of now x.endpoint + patience in
        let heard = (happens now event x).book in
        let clear = closed.stops.clear in
        let c = all_clear (call_refusals x f payload patience) clear in
        let unspent = goes_on x.endpoint.spent x.book.closed c.0 in
        let P = AllOrNone f message in
        let asked : (calls : List Kept) → AreOf (λ g. cond (same_flow f g) (asked_as {A = Made} None (next_number x.book) payload) []) x.book.calls calls → AreOf (λ g. call_by g (FindsNoMemory deed y) x) x.book.calls calls =
        λ calls of. subst (λ (r : Option Made). AreOf (λ g. cond (same_flow f g) (asked_as r (next_number x.book) payload) []) x.book.calls calls) (sym clear) of in
        let posts : (g : Flow) (taken : List Item) → P g taken → IsPosted false (sent_on g (FindsNoMemory deed y) x) taken =
        λ g taken p. posted_as (sent_on g (FindsNoMemory deed y) x) (cond (same_flow f g) (marked message true true false) []) taken
        (asked_posts (first_refusal (call_refusals x f payload patience)) (next_number x.book) payload (same_flow f g) clear ∙ ap (λ (ms : List Message). items_of_all (map spelled ms)) (sym (append-nil (call_by g (FindsNoMemory deed y) x)))) p in
        let keeps = happens_keeps now event x in
        let same : next_number heard ≡ next_number x.book = ap (λ (k : ℕ). let r : CallNumber = record { life = k; count = heard.count } in r) keeps.life ∙ ap (λ (k : ℕ). let r : CallNumber = record { life = x.book.life; count = k } in r) keeps.count in
        elim (turn_came P event (call_kept now f message patience x) st (send_calls f flow (to_u64 (next_number x.book)) payload unspent (not_false _ c.1.0) c.1.1.1.1.1.0) unspent (kept_between setup n o f (length message) deadline heard) (flows_kept o f (length message) deadline heard flows) closed.stops.turn) [
          | inl r ↦ broke_to setup n P deed x st y x.book m closed.closed (asked x.book.calls (kept_of (λ g. cond (same_flow f g) (asked_as {A = Made} None (next_number x.book) payload) []) x.book.calls x.book.calls (kept_itself x.book.calls))) (λ t. omega arith) posts r
          | inr r ↦ broke_to setup n P deed x st y (with_call_unless o f (length message) deadline heard) m closed.closed (asked (with_call_unless o f (length message) deadline heard).calls (asked_of_call o f (length message) deadline payload x.book heard same keeps.waits)) (λ t. omega arith) posts r
        ]

    -- A REPLY
    reply_came : (token : Token) → IsFlow token.flow → (payload : List ℕ) (y : Node) → let message = message_of (to_u64 token.number) payload in All IsFlow (happens now (message_event (reversed token.flow) message) x).book.unread → Closed (ReplyStops now token payload x) y → Came setup n (FindsNoMemory (GivesReply now token payload) y) x y m
    reply_came token flow payload y flows closed =
        let message = message_of (to_u64 token.number) payload in
        let deed = GivesReply now token payload in
        let f = reversed token.flow in
        let event = message_event f message in
        let st = closed.stopped in
        let o = send_answer now f message true true x.endpoint in
        let heard = (happens now event x).book in
        let clear = closed.stops.clear in
        let c = all_clear (reply_refusals x token payload) clear in
        let unspent = goes_on x.endpoint.spent x.book.closed c.0 in
        let P = AllOrNone f message in
        let gone : (h : CallBook) → h.tokens ≡ [] → GoneBy (λ t. reply_by t.flow (FindsNoMemory deed y) x) x.book h =
        λ h none. subst (λ (r : Option Replied). GoneBy (λ t. cond (same_flow token.flow t.flow) (asked_as r token.number payload) []) x.book h) (sym clear) (asked_gone token payload x.book h (not_false _ c.1.1.0) none) in
        let posts : (g : Flow) (taken : List Item) → P g taken → IsPosted false (sent_on g (FindsNoMemory deed y) x) taken =
        λ g taken p. posted_as (sent_on g (FindsNoMemory deed y) x) (cond (same_flow f g) (marked message true true false) []) taken (asked_posts (first_refusal (reply_refusals x token payload)) token.number payload (same_flow f g) clear ∙ ap (λ (b : Bool). items_of_all (map spelled (cond b (asked_as (first_refusal (reply_refusals x token payload)) token.number payload) []))) (same_reversed token.flow (reversed g))) p in
        let back : IsFlow f = record { from = flow.to; from_port = flow.to_port; to = flow.from; to_port = flow.from_port } in
        let keeps = happens_keeps now event x in
        elim (turn_came P event (token_dropped now token message x) st (send_calls f back (to_u64 token.number) payload unspent (not_false _ c.1.1.1.0) c.1.1.1.1.0) unspent (forgot_between setup n o token heard) (forgot_flows o token heard flows) closed.stops.turn) [
          | inl r ↦ broke_to setup n P deed x st y x.book m closed.closed (kept_of (λ g. []) x.book.calls x.book.calls (kept_itself x.book.calls)) (gone (record (x.book) { tokens = [] }) refl) posts r
          | inr r ↦ broke_to setup n P deed x st y (forgotten_unless o token heard) m closed.closed (kept_of (λ g. []) x.book.calls (forgotten_unless o token heard).calls (forgot_kept o token x.book.calls heard keeps.waits)) (gone (record (forgotten_unless o token heard) { tokens = [] }) refl) posts r
        ]

    -- A TICK, and a datagram
    plain_came : (deed : Deed) (event : Event (Unit {0})) (st y : Node) → ((g : Flow) → call_by g (FindsNoMemory deed y) x ≡ []) → ((t : Token) → reply_by t.flow (FindsNoMemory deed y) x ≡ []) → EventCalls AreNone now event → x.endpoint.spent ≡ false → All IsFlow (happens now event x).book.unread → TurnStops now event (λ h. h) x st → y ≡ with_book close st
        → Came setup n (FindsNoMemory deed y) x y m
    plain_came deed event st y no_call no_reply calls unspent flows turn is =
        let heard = (happens now event x).book in
        let gone : (h : CallBook) → GoneBy (λ t. reply_by t.flow (FindsNoMemory deed y) x) x.book (record h { tokens = [] }) = λ h t. (let no = ap (count_of t.number) (no_reply t) in omega (arith, no)) in
        let of : (h : CallBook) → AreKeptFrom x.book.calls h.calls → AreOf (λ g. call_by g (FindsNoMemory deed y) x) x.book.calls h.calls = λ h kept. kept_of (λ g. call_by g (FindsNoMemory deed y) x) x.book.calls h.calls kept in
        elim (turn_came AreNone event (λ h. h) st calls unspent (nothing_between setup n heard) flows turn) [
          | inl r ↦ broke_to setup n AreNone deed x st y x.book m is (of x.book (kept_itself x.book.calls)) (gone x.book) (λ g taken none. inr none) r
          | inr r ↦ broke_to setup n AreNone deed x st y heard m is (of heard (happens_keeps now event x).waits) (gone heard) (λ g taken none. inr none) r
        ]

    tick_came : (y : Node) → All IsFlow (happens now Tick x).book.unread → Closed (TickStops now x) y → Came setup n (FindsNoMemory (Ticks now) y) x y m
    tick_came y flows closed =
        let unspent = goes_on x.endpoint.spent x.book.closed closed.stops.clear in
        let calls : EventCalls AreNone now Tick = record {
          done = CallTick now ticked.Done;
          may = record { does = tick_does setup n m x there Good law good now x.endpoint.spent unspent; keeps = time_later setup n m now time; frames = frames_in (acts_of (script_of now Tick x.endpoint)); appended = refl; unspent = refl };
          reads = λ g. refl;
          takes = λ g taken t. t;
          broken = CallTick now ticked.NoMemory;
          cut = λ e b. record {
            can = record { does = tick_breaks x.endpoint.spent e b unspent; keeps = time_later setup n m now time; frames = frames_in (take b.count (acts_of (script_of now Tick x.endpoint))); appended = b.frames };
            takes = λ g taken t. t;
            reads = λ g other k at fine. refl;
          };
          nothing = λ g. refl;
        } in
        plain_came (Ticks now) Tick closed.stopped y (λ g. refl) (λ t. refl) calls unspent flows closed.stops.turn closed.closed
      where
        tick_breaks : (s : Bool) (e : EndpointValue) → Breaks now Tick x.endpoint e → s ≡ false → Unless (first_refusal {F = Ticked} ((s, ticked.Spent) ∷ [])) ticked.NoMemory x.endpoint e (TickDoes ticked.NoMemory now x.endpoint e)
        tick_breaks true e b h = absurd cc
        tick_breaks false e b h = b

    arrive_came : (link : ℕ) (datagram : List ℕ) (waited : ℕ) (y : Node) → KeepsCall setup m n (CallArrive now link datagram waited arrived.Done) x.endpoint → All IsFlow (happens now (arrive_event link datagram waited) x).book.unread → Closed (ArriveStops now link datagram waited x) y → Came setup n (FindsNoMemory (Arrives now link datagram waited) y) x y m
    arrive_came link datagram waited y keeps flows closed =
        let event = arrive_event link datagram waited in
        let after = after_event now event x.endpoint in
        let unspent = goes_on x.endpoint.spent x.book.closed closed.stops.clear in
        let none = closed.stops.unrefused in
        let calls : EventCalls AreNone now event = record {
          done = CallArrive now link datagram waited arrived.Done;
          may = record {
            does = subst (λ (o : Option Received). Unless o arrived.Done (with_refused x.endpoint) after (ArriveDoes arrived.Done now event x.endpoint after)) (sym none) (refl, refl);
            keeps = λ k later. (time_later setup n m now time k later, λ clear. in_time_later setup n m x there Good law good link datagram waited k later (keeps.1 clear));
            frames = frames_in (acts_of (script_of now event x.endpoint));
            appended = refl;
            unspent = refl;
          };
          reads = λ g. refl;
          takes = λ g taken t. t;
          broken = CallArrive now link datagram waited arrived.NoMemory;
          cut = λ e b. record {
            can = record {
              does = subst (λ (o : Option Received). Unless o arrived.NoMemory (with_refused x.endpoint) e (ArriveDoes arrived.NoMemory now event x.endpoint e)) (sym none) b;
              keeps = λ k later. (time_later setup n m now time k later, λ clear. in_time_later setup n m x there Good law good link datagram waited k later (keeps.1 clear));
              frames = frames_in (take b.count (acts_of (script_of now event x.endpoint)));
              appended = b.frames;
            };
            takes = λ g taken t. t;
            reads = λ g other k at fine. refl;
          };
          nothing = λ g. refl;
        } in
        plain_came (Arrives now link datagram waited) event closed.stopped y (λ g. refl) (λ t. refl) calls unspent flows closed.stops.turn closed.closed

    -- A TOKEN IS FORGOTTEN
    forget_came : (token : Token) (y : Node) → All IsFlow x.book.unread → Closed (ForgetStops now token x) y → Came setup n (FindsNoMemory (Forgets now token) y) x y m
    forget_came token y flows closed =
        let st = closed.stopped in
        let c = all_clear (forget_refusals x token) closed.stops.clear in
        let unspent = goes_on x.endpoint.spent x.book.closed (goes_on (is_closed x) (not (is_open token x.book)) c.0) in
        let z = with_book (forgotten token) x in
        let s = end_stopped setup Good law n m now time z st flows unspent closed.stops.turn in
        broke_to setup n AreNone (Forgets now token) x st y (forgotten token x.book) m closed.closed (kept_of (λ g. []) x.book.calls x.book.calls (kept_itself x.book.calls)) (λ t. omega arith) (λ g taken none. inr none)
        (reaches_by_end setup n x m there now time Good law good AreNone (forgotten token x.book) (with_book close st) s.steps (forgotten_quiet token x.book) s.way (inr refl))

  -- WHATEVER FINDS NO MEMORY
  pub broken_came : (deed : Deed) (y : Node) → KeepsDeed setup m n deed x → BreaksBy deed x y → Came setup n (FindsNoMemory deed y) x y m
  broken_came (MakesCall now f payload patience) y keeps closed = call_came now keeps.0.0 f keeps.0.1 payload patience y keeps.1 closed
  broken_came (GivesReply now token payload) y keeps closed = reply_came now keeps.0.0 token keeps.0.1 payload y keeps.1 closed
  broken_came (Forgets now token) y keeps closed = forget_came now keeps.0 token y keeps.1 closed
  broken_came (Ticks now) y keeps closed = tick_came now keeps.0 y keeps.1 closed
  broken_came (Arrives now link datagram waited) y keeps closed = arrive_came now keeps.0.0 link datagram waited y keeps.0 (keeps.1 closed.stops.unrefused) closed
  broken_came (GivesKind port kind) y keeps closed = absurd closed
  broken_came (Raises life) y keeps closed = absurd closed
  broken_came TakesHappening y keeps closed = absurd closed
  broken_came PullsFrame y keeps closed = absurd closed
  broken_came (GetsRoute route answer added) y keeps closed = absurd closed
  broken_came (CountsFlow flow counted) y keeps closed = absurd closed
  broken_came Closes y keeps closed = absurd closed
  broken_came (OpensAgain again options most life) y keeps closed = absurd closed
  broken_came (FindsNoMemory deed before) y keeps closed = absurd closed
