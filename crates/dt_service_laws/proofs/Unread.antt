-- Over all turns of services, what nodes are to read are flows.
use Rattle.std.proofs.Common.{ℕ, ◌+◌, ◌<◌, ◌≡◌, ◌==◌, Bool, true, false, List, [], ◌∷◌, ◌++◌, length, Option, Some, None, refl, sym, subst, inl}
use Rattle.std.specs.Prelude.{All, cond, drop, nat_le, not, option_map, take}
use Rattle.std.specs.List.{position}
use Rattle.std.proofs.lemmas.List.Elements.{All-append, All-drop, All-nil, All-take}
use Rattle.dt_units.specs.declared.endpoints.Flow.{Flow}
use Rattle.dt_units.specs.Flows.{IsFlow}
use Rattle.dt_reports.specs.declared.faults.Refusal.{Refusal}
use Rattle.dt_layout.specs.declared.faults.LayoutFault.{LayoutFault}
use Rattle.dt_layout.specs.Carried.{life_of}
use Rattle.dt_layout.specs.Reading.{gram_fault}
use Rattle.dt_reports.specs.Told.{Told}
use Rattle.dt_world_laws.specs.Tellings.{AllTold}
use Rattle.dt_world_model.specs.Station.{Event, Read, Tick}
use Rattle.dt_world_model.specs.Tables.{look, same_flow}
use Rattle.dt_world_model.specs.WorldStep.{first_refusal}
use Rattle.dt_calls_model.specs.Messages.{Piece, carried_in, has_number, message_of, number_in, reversed}
use Rattle.dt_messages.specs.Joining.{whole_within}
use Rattle.dt_endpoint.specs.declared.answers.Received.{Received}
use Rattle.dt_endpoint.specs.declared.answers.Received.TheVariants as arrived
use Rattle.dt_endpoint.specs.declared.answers.Ticked.{Ticked}
use Rattle.dt_endpoint.specs.declared.answers.Ticked.TheVariants as ticked
use Rattle.dt_endpoint.specs.Acts.{acts_of, reports_in}
use Rattle.dt_endpoint.specs.Calls.{arrive_event, arrive_fault, arrive_refusal, has_link, send_answer}
use Rattle.dt_endpoint.specs.Endpoints.{EndpointValue, after_event, moment_of, script_of}
use Rattle.dt_network.specs.Duties.{IsInTime}
use Rattle.dt_network.specs.Network.{Network, Setup, new_network}
use Rattle.dt_service_model.specs.declared.answers.Forgot.{Forgot}
use Rattle.dt_service_model.specs.declared.answers.Forgot.TheVariants as forgot
use Rattle.dt_service_model.specs.declared.answers.Made.{Made}
use Rattle.dt_service_model.specs.declared.answers.Replied.{Replied}
use Rattle.dt_service_model.specs.declared.calls.OpenCall.{OpenCall}
use Rattle.dt_service_model.specs.declared.happenings.Happening.{Happening}
use Rattle.dt_service_model.specs.declared.happenings.Happening.TheVariants.{Request}
use Rattle.dt_service_model.specs.declared.names.CallNumber.{CallNumber}
use Rattle.dt_service_model.specs.declared.names.Token.{Token}
use Rattle.dt_service_model.specs.declared.ports.PortKind.{PortKind}
use Rattle.dt_service_model.specs.declared.ports.PortKind.TheVariants.{Caller, Service}
use Rattle.dt_service_model.specs.declared.ports.Most.{Most}
use Rattle.dt_service_model.specs.Asked.{call_refusals, forget_refusals, forgotten, forgotten_unless, is_closed, is_life_in_use, made_by, message_event, next_number, or_counted, replied_by, reply_refusals, unless, with_call_unless, with_port}
use Rattle.dt_service_model.specs.Ends.{next_call, next_in}
use Rattle.dt_service_model.specs.CallBook.{CallBook, counted_up, kind_in, longest_message}
use Rattle.dt_service_model.specs.Names.{from_u64, to_u64, token_with}
use Rattle.dt_service_model.specs.Stopping.{EventStops, breaks_off, hears_part}
use Rattle.dt_service_model.specs.Turns.{Node, happens, most_read, turn, turn_end, with_book}
use Rattle.dt_service_model.specs.Whole.{begun_of, grown, is_open, is_waiting_call, take_as, take_piece, take_reply_at, take_whole, without_token}
use Rattle.dt_service_laws.specs.Causes.{IsEventOf, moment_told}
use Rattle.dt_service_laws.specs.Premises as premise
use Rattle.dt_service_laws.specs.Services.{Arrives, Closes, CountsFlow, Deed, Does, FindsNoMemory, Forgets, GetsRoute, GivesKind, GivesReply, MakesCall, OpensAgain, Passes, PullsFrame, Raises, Services, TakesHappening, Ticks, Turn, new_services, node_after, node_does, node_with, services_after}
use Rattle.dt_service_laws.proofs.Asked.{flows_kept, forgot_flows}
use Rattle.dt_service_laws.proofs.Elsewhere.{IsLawful}
use Rattle.dt_service_laws.proofs.Everywhere.{IsOfEach, written_each}
use Rattle.dt_service_laws.proofs.Flows.{IsParcel, IsReading, TellsFlow, all_heard_flows, arrive_tells, happens_flows, lt_by, read_tells, script_flows, send_tells, some_flows, tick_tells}
use Rattle.dt_service_laws.proofs.Halting.{Halts, IsKeptByDeeds, halts}
use Rattle.dt_service_laws.proofs.Moves.{Tracks}
use Rattle.dt_service_laws.proofs.Owed.{KeepsFrom, KeepsTurn, KeepsTurns, ReadsIn}
use Rattle.dt_service_laws.proofs.Quiet.{all_filtered}
use Rattle.dt_service_laws.proofs.Turned.{AreOn, Waits, and_then, made_in, turned}
use Rattle.dt_service_model.proofs.Walking.{IsKept, end_kept}
use Rattle.dt_service_laws.proofs.Routing.{route_keeps}

-- A MESSAGE that came whole changes nothing of it
reply_unread : (o : Option ℕ) (n : CallNumber) (answer : List ℕ) (h : CallBook) → (take_reply_at o n answer h).unread ≡ h.unread
reply_unread None n answer h = refl
reply_unread (Some place) n answer h = refl

request_unread : (b : Bool) (token : Token) (payload : List ℕ) (h : CallBook)
    → (cond b (record h { tokens = without_token token h.tokens; counts = record (h.counts) { reused = counted_up h.counts.reused } }) (record h { tokens = h.tokens ++ token ∷ []; happenings = h.happenings ++ Request token payload ∷ [] })).unread ≡ h.unread
request_unread true token payload h = refl
request_unread false token payload h = refl

as_unread : (kind : Option PortKind) (f : Flow) (n : CallNumber) (carried : List ℕ) (h : CallBook) → (take_as kind f n carried h).unread ≡ h.unread
as_unread None f n carried h = refl
as_unread (Some Caller) f n carried h = reply_unread (position (is_waiting_call (reversed f) n) h.calls) n carried h
as_unread (Some Service) f n carried h = request_unread (is_open (token_with f n) h) (token_with f n) carried h

message_unread : (b : Bool) (f : Flow) (n : CallNumber) (carried : List ℕ) (h : CallBook) → (cond b (take_as (kind_in f.to_port h.ports) f n carried h) (record h { counts = record (h.counts) { short = counted_up h.counts.short } })).unread ≡ h.unread
message_unread true f n carried h = as_unread (kind_in f.to_port h.ports) f n carried h
message_unread false f n carried h = refl

whole_unread : (f : Flow) (o : Option (List ℕ)) (h : CallBook) → (take_whole f o h).unread ≡ h.unread
whole_unread f None h = refl
whole_unread f (Some m) h = message_unread (has_number m) f (from_u64 (number_in m)) (carried_in m) h

piece_unread : (f : Flow) (p : Piece) (h : CallBook) → (take_piece f p h).unread ≡ h.unread
piece_unread f p h = whole_unread f (whole_within (Some longest_message) (begun_of f h) p) (grown f (begun_of f h) p h)

-- THE END OF A TURN
abbrev Reads : Node → Node → Type 0
Reads x y = IsReading x → IsReading y

reading_kept : (now : ℕ) → IsKept now Reads
reading_kept now = record {
  itself = λ x h. h;
  through = λ x y z one two h. two (one h);
  hears = λ f x h. happens_flows now (Read f most_read) x (read_tells x.endpoint.rules (moment_of now x.endpoint) f most_read x.endpoint.state) h;
  done = λ f x h. record { unread = all_filtered IsFlow (λ (g : Flow). not (same_flow g f)) x.book.unread h.unread; waiting = h.waiting };
  takes = λ f p x h. record { unread = subst (λ (fs : List Flow). All IsFlow fs) (sym (piece_unread f p x.book)) h.unread; waiting = h.waiting };
  swept = λ x h. record { unread = h.unread; waiting = h.waiting };
}

end_reads : (now : ℕ) (x : Node) → IsReading x → IsReading (turn_end now x)
end_reads now x = end_kept now Reads (reading_kept now) (λ moment y h. record { unread = h.unread; waiting = h.waiting }) x

-- WHERE A TURN STOPS for want of memory
event_reads : (now : ℕ) (event : Event (Unit {0})) (x st : Node) → AllTold TellsFlow (script_of now event x.endpoint) → EventStops now event x st → Reads x st
event_reads now event x st tells (breaks_off e b is) h =
    let more = All-append TellsFlow x.endpoint.reports (reports_in (take b.count (acts_of (script_of now event x.endpoint)))) h.waiting (some_flows b.count (script_of now event x.endpoint) tells) in
    subst IsReading (sym is) (record { unread = h.unread; waiting = subst (All TellsFlow) (sym b.reports) more })
event_reads now event x st tells (hears_part count is) h =
    let reports = (after_event now event x.endpoint).reports in
    let all = All-append TellsFlow x.endpoint.reports (reports_in (acts_of (script_of now event x.endpoint))) h.waiting (script_flows (script_of now event x.endpoint) tells) in
    subst IsReading (sym is)
    (record { unread = all_heard_flows (take count reports) x.book (All-take TellsFlow count reports all) h.unread; waiting = All-drop TellsFlow 1 (drop count reports) (All-drop TellsFlow count reports all) })

abbrev Tellings : (now : ℕ) → Event (Unit {0}) → Node → Type 0
Tellings now event x = AllTold TellsFlow (script_of now event x.endpoint)

call_unread : (o : Option Refusal) (f : Flow) (count deadline : ℕ) (x : Node) → Reads x (with_book (with_call_unless o f count deadline) x)
call_unread o f count deadline x h = record { unread = flows_kept o f count deadline x.book h.unread; waiting = h.waiting }

token_unread : (o : Option Refusal) (token : Token) (x : Node) → Reads x (with_book (forgotten_unless o token) x)
token_unread o token x h = record { unread = forgot_flows o token x.book h.unread; waiting = h.waiting }

reading_stopped : IsKeptByDeeds Reads Tellings
reading_stopped = record {
  turns = record {
    kept = reading_kept;
    reads = λ now f x. read_tells x.endpoint.rules (moment_of now x.endpoint) f most_read x.endpoint.state;
    hears = λ now event x tells h. happens_flows now event x tells h;
    stops = λ now event x st tells stops h. event_reads now event x st tells stops h;
    lost = λ begun counts x h. record { unread = h.unread; waiting = h.waiting };
  };
  calls = λ o f count deadline x. call_unread o f count deadline x;
  forgets = λ o token x. token_unread o token x;
}

-- WHATEVER IS DONE
call_reads : (o : Option Made) (now : ℕ) (f : Flow) (message : List ℕ) (patience : ℕ) (x : Node) → IsReading x → IsReading (happens now (message_event f message) x) → IsReading (unless o x (made_by now f message patience x)).1
call_reads (Some a) now f message patience x h r = h
call_reads None now f message patience x h r =
    let y = happens now (message_event f message) x in
    let refused = send_answer now f message true true x.endpoint in
    let deadline = moment_of now x.endpoint + patience in
    end_reads now (with_book (with_call_unless refused f (length message) deadline) y) (call_unread refused f (length message) deadline y r)

reply_reads : (o : Option Replied) (now : ℕ) (token : Token) (message : List ℕ) (x : Node) → IsReading x → IsReading (happens now (message_event (reversed token.flow) message) x) → IsReading (unless o x (replied_by now token message x)).1
reply_reads (Some a) now token message x h r = h
reply_reads None now token message x h r =
    let y = happens now (message_event (reversed token.flow) message) x in
    let refused = send_answer now (reversed token.flow) message true true x.endpoint in
    end_reads now (with_book (forgotten_unless refused token) y) (token_unread refused token y r)

forget_reads : (o : Option Forgot) (now : ℕ) (token : Token) (x : Node) → IsReading x → IsReading (unless o x (forgot.Done, turn_end now (with_book (forgotten token) x))).1
forget_reads (Some a) now token x h = h
forget_reads None now token x h = end_reads now (with_book (forgotten token) x) (record { unread = h.unread; waiting = h.waiting })

tick_reads : (b : Bool) (now : ℕ) (x : Node) → IsReading x → IsReading (happens now Tick x) → IsReading (cond {A = Ticked × Node} b (ticked.Spent, x) (ticked.Done, turn now Tick x)).1
tick_reads true now x h r = h
tick_reads false now x h r = end_reads now (happens now Tick x) r

arrive_reads : (c : Bool) (o : Option Received) (now link : ℕ) (datagram : List ℕ) (waited : ℕ) (x : Node) → IsReading x → (o ≡ None → IsReading (happens now (arrive_event link datagram waited) x)) → IsReading (cond {A = Received × Node} c (arrived.Spent, x) (or_counted o x (arrived.Done, turn now (arrive_event link datagram waited) x))).1
arrive_reads true o now link datagram waited x h r = h
arrive_reads false (Some a) now link datagram waited x h r = record { unread = h.unread; waiting = h.waiting }
arrive_reads false None now link datagram waited x h r = end_reads now (happens now (arrive_event link datagram waited) x) (r refl)

kind_reads : (port : ℕ) (o : Option PortKind) (kind : PortKind) (x : Node) → IsReading x → IsReading (with_book (with_port port o kind) x)
kind_reads port None kind x h = record { unread = h.unread; waiting = h.waiting }
kind_reads port (Some has) kind x h = h

raise_reads : (b : Bool) (life : ℕ) (x : Node) → IsReading x → IsReading (record x { book = cond b x.book (record (x.book) { life = life; count = 0 }) })
raise_reads true life x h = h
raise_reads false life x h = record { unread = h.unread; waiting = h.waiting }

next_unread : (calls : List OpenCall) (h : CallBook) → (next_call calls h).1.unread ≡ h.unread
next_unread [] h = refl
next_unread (call ∷ calls) h = refl

closed_unread : (b : Bool) (h : CallBook) → (cond {A = Option Happening × CallBook} b (next_call h.calls h) (None, h)).1.unread ≡ h.unread
closed_unread true h = next_unread h.calls h
closed_unread false h = refl

taken_unread : (told : List Happening) (h : CallBook) → (next_in told h).1.unread ≡ h.unread
taken_unread [] h = closed_unread h.closed h
taken_unread (x ∷ told) h = refl

-- a datagram that isn't refused has life left
clear_life : (s l : Bool) (fault : Option LayoutFault) (datagram : List ℕ) (waited : ℕ) → cond s (Some arrived.Spent) (cond l (arrive_fault waited datagram fault) (Some arrived.NoLink)) ≡ None → waited < life_of datagram
clear_life true l fault datagram waited h = absurd cc
clear_life false false fault datagram waited h = absurd cc
clear_life false true (Some fault) datagram waited h = absurd cc
clear_life false true None datagram waited h = by_test (nat_le (life_of datagram) waited) refl h
  where
    by_test : (b : Bool) → nat_le (life_of datagram) waited ≡ b → cond b (Some arrived.Stale) None ≡ None → waited < life_of datagram
    by_test true is h = absurd cc
    by_test false is h = lt_by _ _ is

module _ (setup : Setup) (Good : Network → Type 0) (law : IsLawful setup Good) where
  -- a datagram that isn't refused
  clear_tells : (m : Network) (x : Node) → Good m → (now link : ℕ) (datagram : List ℕ) (waited : ℕ) → (arrive_refusal link datagram waited x.endpoint ≡ None → IsInTime m x.endpoint link datagram waited) → arrive_refusal link datagram waited x.endpoint ≡ None → Tellings now (arrive_event link datagram waited) x
  clear_tells m x good now link datagram waited keeps clear =
      let i = keeps clear in
      let below = clear_life x.endpoint.spent (has_link link x.endpoint.state.relay.ins) (gram_fault datagram) datagram waited clear in
      arrive_tells x.endpoint.rules (moment_of now x.endpoint) link waited datagram x.endpoint.state below (subst IsParcel i.octets (law.packets m i.flight good i.left))

  -- what breaks off
  halted_tells : (n : ℕ) (m : Network) (x y : Node) → Good m → (deed : Deed) → premise.KeepsDeed setup m n deed x → premise.BreaksBy deed x y → (event : Event (Unit {0})) → IsEventOf deed event → Tellings (moment_told deed) event x
  halted_tells n m x y good (MakesCall now f payload patience) keeps b event own =
      subst (λ (v : Event (Unit {0})). Tellings now v x) (sym own.1) (send_tells x.endpoint.rules (moment_of now x.endpoint) f (message_of (to_u64 own.0) payload) true true x.endpoint.state)
  halted_tells n m x y good (GivesReply now token payload) keeps b event own =
      subst (λ (v : Event (Unit {0})). Tellings now v x) (sym own) (send_tells x.endpoint.rules (moment_of now x.endpoint) (reversed token.flow) (message_of (to_u64 token.number) payload) true true x.endpoint.state)
  halted_tells n m x y good (Ticks now) keeps b event own = subst (λ (v : Event (Unit {0})). Tellings now v x) (sym own) (tick_tells x.endpoint.rules (moment_of now x.endpoint) x.endpoint.state)
  halted_tells n m x y good (Arrives now link datagram waited) keeps b event own = subst (λ (v : Event (Unit {0})). Tellings now v x) (sym own) (clear_tells m x good now link datagram waited keeps.1 b.stops.unrefused)
  halted_tells n m x y good (Forgets now token) keeps b event own = absurd own
  halted_tells n m x y good (GivesKind port kind) keeps b event own = absurd own
  halted_tells n m x y good (Raises life) keeps b event own = absurd own
  halted_tells n m x y good TakesHappening keeps b event own = absurd own
  halted_tells n m x y good PullsFrame keeps b event own = absurd own
  halted_tells n m x y good (GetsRoute route answer added) keeps b event own = absurd own
  halted_tells n m x y good (CountsFlow flow counted) keeps b event own = absurd own
  halted_tells n m x y good Closes keeps b event own = absurd own
  halted_tells n m x y good (OpensAgain again options most life) keeps b event own = absurd own
  halted_tells n m x y good (FindsNoMemory deed after) keeps b event own = absurd own

  halted_reads : (x y : Node) → IsReading x → Halts Reads Tellings reading_stopped x y → IsReading y
  halted_reads x y h halted = subst IsReading (sym halted.closed) (record { unread = All-nil IsFlow; waiting = (halted.part h).waiting })

  deed_reads : (n : ℕ) (m : Network) (x : Node) → Good m → (deed : Deed) → premise.KeepsDeed setup m n deed x → IsReading x → ReadsIn deed x × IsReading (node_after setup n deed x)
  deed_reads n m x good (GivesKind port kind) keeps h = (tt, kind_reads port (kind_in port x.book.ports) kind x h)
  deed_reads n m x good (MakesCall now f payload patience) keeps h =
      let message = message_of (to_u64 (next_number x.book)) payload in
      let r = happens_flows now (message_event f message) x (send_tells x.endpoint.rules (moment_of now x.endpoint) f message true true x.endpoint.state) h in
      (r.unread, call_reads (first_refusal (call_refusals x f payload patience)) now f message patience x h r)
  deed_reads n m x good (GivesReply now token payload) keeps h =
      let message = message_of (to_u64 token.number) payload in
      let r = happens_flows now (message_event (reversed token.flow) message) x (send_tells x.endpoint.rules (moment_of now x.endpoint) (reversed token.flow) message true true x.endpoint.state) h in
      (r.unread, reply_reads (first_refusal (reply_refusals x token payload)) now token message x h r)
  deed_reads n m x good (Forgets now token) keeps h = (h.unread, forget_reads (first_refusal (forget_refusals x token)) now token x h)
  deed_reads n m x good (Ticks now) keeps h =
      let r = happens_flows now Tick x (tick_tells x.endpoint.rules (moment_of now x.endpoint) x.endpoint.state) h in
      (r.unread, tick_reads (is_closed x) now x h r)
  deed_reads n m x good (Arrives now link datagram waited) keeps h =
      let event = arrive_event link datagram waited in
      let r : arrive_refusal link datagram waited x.endpoint ≡ None → IsReading (happens now event x) =
      λ (clear : arrive_refusal link datagram waited x.endpoint ≡ None). happens_flows now event x (clear_tells m x good now link datagram waited keeps.1 clear) h in
      (λ clear. (r clear).unread, arrive_reads (is_closed x) (arrive_refusal link datagram waited x.endpoint) now link datagram waited x h r)
  deed_reads n m x good (Raises life) keeps h = (tt, raise_reads (is_life_in_use life x.book) life x h)
  deed_reads n m x good TakesHappening keeps h = (tt, record { unread = subst (λ (fs : List Flow). All IsFlow fs) (sym (taken_unread x.book.happenings x.book)) h.unread; waiting = h.waiting })
  deed_reads n m x good PullsFrame keeps h = (tt, record { unread = h.unread; waiting = h.waiting })
  deed_reads n m x good (GetsRoute route answer added) keeps h = (tt, record { unread = h.unread; waiting = subst (λ (rs : List Told). All TellsFlow rs) (sym (route_keeps route answer x.endpoint added keeps).reports) h.waiting })
  deed_reads n m x good (CountsFlow flow true) keeps h = (tt, record { unread = h.unread; waiting = h.waiting })
  deed_reads n m x good (CountsFlow flow false) keeps h = (tt, record { unread = h.unread; waiting = h.waiting })
  deed_reads n m x good Closes keeps h = (tt, record { unread = All-nil IsFlow; waiting = h.waiting })
  deed_reads n m x good (OpensAgain again options most life) keeps h = (tt, record { unread = All-nil IsFlow; waiting = All-nil TellsFlow })
  deed_reads n m x good (FindsNoMemory deed after) keeps h = ((deed_reads n m x good deed keeps.0 h).0, halted_reads x after h (halts Reads Tellings reading_stopped deed x after (halted_tells n m x after good deed keeps.0 keeps.1) keeps.1))

  -- ONE TURN
  at_reads : (s : Services) → Good s.network → IsOfEach IsReading s → (n : ℕ) (deed : Deed) (o : Option EndpointValue) → look ◌==◌ n s.network.endpoints ≡ o → premise.KeepsFrom setup s.network n deed (option_map (node_with n s) o)
      → KeepsFrom setup s.network n deed (option_map (node_with n s) o) × IsOfEach IsReading (node_does setup n deed s (option_map (node_with n s) o))
  at_reads s good reading n deed None found keeps = ((tt, tt), reading)
  at_reads s good reading n deed (Some e) found keeps =
      let x = node_with n s e in
      let r = deed_reads n s.network x good deed keeps (reading n e found) in
      ((keeps, r.0), written_each IsReading n s (node_after setup n deed x) reading r.1)

  turn_reads : (s : Services) → Good s.network → IsOfEach IsReading s → (t : Turn) → premise.KeepsTurn setup t s → KeepsTurn setup t s × IsOfEach IsReading (services_after setup t s)
  turn_reads s good reading (Passes by) keeps = ((tt, tt), λ k e there. reading k e there)
  turn_reads s good reading (Does n deed) keeps = at_reads s good reading n deed (look ◌==◌ n s.network.endpoints) refl keeps

  -- ALL TURNS
  turns_read : (f : Flow) (turns : List Turn) (b : Option (List ℕ)) (past : Flow → CallNumber → ℕ) (s : Services) → Good s.network → AreOn setup Good law s → IsOfEach IsReading s → Tracks f b (s.book f.to.0).begun → Waits setup Good law past (s.book f.to.0).calls → premise.KeepsTurns setup turns s → KeepsTurns setup turns s
  turns_read f [] b past s good on reading tracks waits keeps = tt
  turns_read f (t ∷ turns) b past s good on reading tracks waits keeps =
      let one = turn_reads s good reading t keeps.0 in
      let first = turned setup Good law f b past s good on tracks waits t one.0 in
      let next : Good (services_after setup t s).network = subst Good first.ends (law.on s.network first.steps good first.are first.keep) in
      (one.0, turns_read f turns _ (and_then setup Good law past (made_in setup Good law f t s)) (services_after setup t s) next first.on one.1 first.begun first.waits keeps.1)

  pub all_read : (most : ℕ → Most) (life : ℕ → ℕ) → Good (new_network setup) → AreOn setup Good law (new_services setup most life) → IsOfEach IsReading (new_services setup most life) → (f : Flow) (turns : List Turn) → premise.KeepsTurns setup turns (new_services setup most life) → KeepsTurns setup turns (new_services setup most life)
  all_read most life new on reading f turns keeps = turns_read f turns None (λ g m. 0) (new_services setup most life) new on reading (inl refl) (All-nil (λ (c : OpenCall). c.waits ≡ true → 0 < 0)) keeps
