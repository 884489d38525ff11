-- Turns tell the causes of the ends that they tell, and leave no call that waits with one.
use Rattle.std.proofs.Common.{ℕ, ◌+◌, ◌<◌, ◌≤◌, ◌≡◌, ◌==◌, Bool, true, false, List, [], ◌∷◌, ◌++◌, inl, inr, drop, length, map, filter, Option, Some, None, refl, ap, sym, subst, ◌∙◌, arith}
use Rattle.std.specs.Prelude.{◌&&◌, All, Contains, cond, filter_map, nat_le, option_map}
use Rattle.std.specs.List.{cons_option}
use Rattle.std.proofs.Math.Seq.{drop-append_seam, drop-length, drop-nil}
use Rattle.std.proofs.lemmas.Bool.{and_parts}
use Rattle.std.proofs.lemmas.Bool.Decides.{nat_tests}
use Rattle.std.proofs.lemmas.List.Elements.{All-append, All-cons, All-contains_itself, All-head, All-nil, All-tail, All-weaker, Contains-append_cases, Contains-append_left, Contains-append_right}
use Rattle.dt_units.specs.declared.endpoints.Flow.{Flow}
use Rattle.dt_reports.specs.declared.faults.Refusal.{Refusal}
use Rattle.dt_world_model.specs.Station.{Tick}
use Rattle.dt_world_model.specs.Tables.{look}
use Rattle.dt_world_model.specs.WorldStep.{first_refusal}
use Rattle.dt_calls_model.specs.Messages.{message_of, reversed}
use Rattle.dt_endpoint.specs.declared.answers.Received.{Received}
use Rattle.dt_endpoint.specs.declared.answers.Received.TheVariants as arrived
use Rattle.dt_endpoint.specs.declared.answers.Ticked.{Ticked}
use Rattle.dt_endpoint.specs.declared.answers.Ticked.TheVariants as ticked
use Rattle.dt_endpoint.specs.Calls.{arrive_event, arrive_refusal, send_answer}
use Rattle.dt_endpoint.specs.Endpoints.{EndpointValue, moment_of}
use Rattle.dt_network.specs.Network.{Network, Setup}
use Rattle.dt_service_model.specs.declared.answers.Forgot.{Forgot}
use Rattle.dt_service_model.specs.declared.answers.Forgot.TheVariants as forgot
use Rattle.dt_service_model.specs.declared.answers.Made.{Made}
use Rattle.dt_service_model.specs.declared.answers.Replied.{Replied}
use Rattle.dt_service_model.specs.declared.calls.OpenCall.{OpenCall}
use Rattle.dt_service_model.specs.declared.calls.Cause.{Cause}
use Rattle.dt_service_model.specs.declared.calls.Cause.TheVariants as cause
use Rattle.dt_service_model.specs.declared.happenings.Happening.{Happening}
use Rattle.dt_service_model.specs.declared.happenings.Happening.TheVariants.{Answered, ReplyUncertain, Request, Unsure}
use Rattle.dt_service_model.specs.declared.names.CallNumber.{CallNumber}
use Rattle.dt_service_model.specs.declared.names.Token.{Token}
use Rattle.dt_service_model.specs.declared.ports.PortKind.{PortKind}
use Rattle.dt_service_model.specs.Asked.{call_refusals, forget_refusals, forgotten, forgotten_unless, is_closed, is_life_in_use, made_by, message_event, next_number, or_counted, replied_by, reply_refusals, unless, with_call_unless, with_port}
use Rattle.dt_service_model.specs.Ends.{cause_of, close, closing_of, is_kept, judge, judged_as, judged_call, next_call, next_in, told_by, unsure_by, unsure_of}
use Rattle.dt_service_model.specs.CallBook.{CallBook, kind_in}
use Rattle.dt_service_model.specs.Names.{to_u64}
use Rattle.dt_service_model.specs.Turns.{Node, happens, turn, turn_end, with_book}
use Rattle.dt_service_laws.specs.Causes.{EndsAt, EndsInTurn, HasCause, IsEventOf, IsPatient, TellCauses, TellsAt, WasGivenUp, moment_told, of_deed}
use Rattle.dt_service_laws.specs.Fates.{told_at, told_in}
use Rattle.dt_service_laws.specs.Histories.{Message, answer_in, answers_at, at_node, at_the, each_of, in_turn}
use Rattle.dt_service_laws.specs.Histories.{told_by as told_by_turn}
use Rattle.dt_service_laws.specs.Premises.{KeepsDeed, KeepsFrom, KeepsTurn, KeepsTurns}
use Rattle.dt_service_laws.specs.Services.{Arrives, Closes, CountsFlow, Deed, Does, FindsNoMemory, Forgets, GetsRoute, GivesKind, GivesReply, MakesCall, OpensAgain, Passes, PullsFrame, Raises, Services, TakesHappening, Ticks, Turn, node_after, node_does, node_with, services_after, services_by, told_between}
use Rattle.dt_service_laws.proofs.Accounts.{broken_open, closed_again, closed_now, either_false, either_first, taken_told, told_beside, told_closing, told_more, told_of}
use Rattle.dt_service_laws.proofs.Answering.{contains_first, contains_more, contains_parts, not_in_none}
use Rattle.dt_service_laws.proofs.Asked.{all_clear}
use Rattle.dt_service_laws.proofs.Causes.{Reasons, HasReason, reasons_begin, reasons_call, reasons_hear, reasons_read, reasons_stay, given_stays, within_tells}
use Rattle.dt_service_laws.proofs.Everywhere.{IsOfEach, written_each}
use Rattle.dt_service_model.proofs.Growing.{NotUnsure, Tells, grows_through, judge_grows, tells_same, tells_stopped}
use Rattle.dt_service_model.proofs.Halting.{Any}
use Rattle.dt_service_laws.proofs.Halting.{Halts, IsKeptByDeeds, halts}
use Rattle.dt_service_laws.proofs.Quiet.{all_filtered}
use Rattle.dt_service_model.proofs.Walking.{read_through}
use Rattle.dt_service_laws.proofs.Routing.{route_keeps}

-- A CALL after a turn: it has given up nothing, and its deadline is to come
pub record IsCalm (latest : ℕ) (call : OpenCall) : Type 0 where
  pub sure : call.has_given_up ≡ false
  pub patient : IsPatient latest call

-- A NODE whose calls have no cause. At one that is closed each has its end
abbrev pub AreSure : Node → Type 0
AreSure x = x.book.closed ≡ false → All (IsCalm x.endpoint.latest) x.book.calls

none_given_up : (x : Node) → x.book.closed ≡ false → AreSure x → All (λ (c : OpenCall). c.has_given_up ≡ false) x.book.calls
none_given_up x open_x sure = All-weaker (IsCalm x.endpoint.latest) (λ (c : OpenCall). c.has_given_up ≡ false) (λ c s. s.sure) x.book.calls (sure open_x)

-- CALLS ARE JUDGED
not_unsure : (deed : Deed) (x y : Node) (happening : Happening) → NotUnsure happening → HasCause deed x y happening
not_unsure deed x y (Request token payload) h = tt
not_unsure deed x y (Answered number answer) h = tt
not_unsure deed x y (ReplyUncertain flow) h = tt
not_unsure deed x y (Unsure number why) h = absurd h

lt_by : (m n : ℕ) → nat_le m n ≡ false → n < m
lt_by m n h = grind (arith, nat_tests)

le_by : (m n : ℕ) → nat_le m n ≡ true → m ≤ n
le_by m n h = grind (arith, nat_tests)

module _ (deed : Deed) (x y : Node) (end : EndsAt deed x y) where
  abbrev moment : ℕ
  moment = moment_of (moment_told deed) end.judges.endpoint

  judged_cause : (call : OpenCall) (rest : List Happening) → Contains end.judges.book.calls call → HasReason (WasGivenUp deed x end.judges) call → All (HasCause deed x y) rest → (a b : Bool) → (call.waits && call.has_given_up) ≡ a → (call.waits && nat_le call.deadline moment) ≡ b
      → All (HasCause deed x y) (cons_option (unsure_by call (cond a (Some cause.GivenUp) (cond b (Some cause.Patience) None))) rest)
  judged_cause call rest there reason more true b is over = All-cons (HasCause deed x y) (Unsure call.number cause.GivenUp) rest (end, reason (and_parts call.waits call.has_given_up is).1) more
  judged_cause call rest there reason more false true is over =
      let p = and_parts call.waits (nat_le call.deadline moment) over in
      All-cons (HasCause deed x y) (Unsure call.number cause.Patience) rest (end, record { call = call; there = there; waits = p.0; number_is = refl; deadline = le_by _ _ p.1 }) more
  judged_cause call rest there reason more false false is over = more

  judged_causes : (cs : List OpenCall) → All (Contains end.judges.book.calls) cs → All (HasReason (WasGivenUp deed x end.judges)) cs → All (HasCause deed x y) (filter_map (unsure_of moment) cs)
  judged_causes [] there reasons = All-nil (HasCause deed x y)
  judged_causes (call ∷ cs) there reasons =
      judged_cause call (filter_map (unsure_of moment) cs) (All-head (Contains end.judges.book.calls) call cs there) (All-head (HasReason (WasGivenUp deed x end.judges)) call cs reasons)
      (judged_causes cs (All-tail (Contains end.judges.book.calls) call cs there) (All-tail (HasReason (WasGivenUp deed x end.judges)) call cs reasons))
      (call.waits && call.has_given_up) (call.waits && nat_le call.deadline moment) refl refl

-- and none is left with a cause
judged_sure : (latest now : ℕ) → latest ≤ now → (call : OpenCall) (a b : Bool) → (call.waits && nat_le call.deadline now) ≡ b → IsCalm latest (judged_as call (cond a (Some cause.GivenUp) (cond b (Some cause.Patience) None)))
judged_sure latest now le call true b is = record { sure = refl; patient = λ waits. absurd cc }
judged_sure latest now le call false true is = record { sure = refl; patient = λ waits. absurd cc }
judged_sure latest now le call false false is = record {
  sure = refl;
  patient = λ waits.
      let no : nat_le call.deadline now ≡ false = sym (ap (λ (w : Bool). w && nat_le call.deadline now) waits) ∙ is in
      let later = lt_by call.deadline now no in
      omega (arith, le, later);
}

all_judged : (latest now : ℕ) → latest ≤ now → (cs : List OpenCall) → All (IsCalm latest) (map (judged_call now) cs)
all_judged latest now le [] = All-nil (IsCalm latest)
all_judged latest now le (call ∷ cs) = All-cons (IsCalm latest) (judged_call now call) (map (judged_call now) cs) (judged_sure latest now le call (call.waits && call.has_given_up) (call.waits && nat_le call.deadline now) refl) (all_judged latest now le cs)

-- WHERE AN OCTET WAS GIVEN UP the call ends
told_there : (now : ℕ) (call : OpenCall) (cs : List OpenCall) → Contains cs call → call.waits ≡ true → call.has_given_up ≡ true → Contains (filter_map (unsure_of now) cs) (Unsure call.number cause.GivenUp)
told_there now call [] there waits has_given_up = absurd (let lt = there.1 in omega (arith, lt))
told_there now call (c ∷ cs) there waits has_given_up =
    elim (contains_parts c call cs there) [
      | inl same ↦
          let why : cause_of now c ≡ Some cause.GivenUp = subst (λ (k : OpenCall). cause_of now k ≡ Some cause.GivenUp) (sym same) (ap (λ (b : Bool). cond b (Some cause.GivenUp) (cond (call.waits && nat_le call.deadline now) (Some cause.Patience) None)) (ap (λ (b : Bool). b && call.has_given_up) waits ∙ has_given_up)) in
          let first : cons_option (unsure_by c (cause_of now c)) (filter_map (unsure_of now) cs) ≡ Unsure c.number cause.GivenUp ∷ filter_map (unsure_of now) cs = ap (λ (o : Option Cause). cons_option (unsure_by c o) (filter_map (unsure_of now) cs)) why in
          subst (λ (ts : List Happening). Contains ts (Unsure call.number cause.GivenUp)) (sym first) (contains_first (Unsure c.number cause.GivenUp) (Unsure call.number cause.GivenUp) (filter_map (unsure_of now) cs) (ap (λ (k : OpenCall). Unsure k.number cause.GivenUp) same))
      | inr more ↦ later (unsure_by c (cause_of now c)) (told_there now call cs more waits has_given_up)
    ]
  where
    later : (o : Option Happening) → Contains (filter_map (unsure_of now) cs) (Unsure call.number cause.GivenUp) → Contains (cons_option o (filter_map (unsure_of now) cs)) (Unsure call.number cause.GivenUp)
    later None h = h
    later (Some t) h = contains_more t (Unsure call.number cause.GivenUp) (filter_map (unsure_of now) cs) h

given_up_ends : (deed : Deed) (x y : Node) → x.book.closed ≡ false → (end : EndsAt deed x y) (n : CallNumber) → WasGivenUp deed x end.judges n → EndsInTurn end.judges n (told_of x.book y.book)
unfolding grows_through judge_grows
given_up_ends deed x y open_x end n given =
    let z = end.judges in
    let d = given_stays deed x z n given in
    let moment = moment_of (moment_told deed) z.endpoint in
    let t = within_tells end.within in
    let g = grows_through x.book z.book (judge moment z.book) t.grows (judge_grows moment z.book) in
    let told : told_of x.book y.book ≡ t.grows.told ++ filter_map (unsure_of moment) z.book.calls = ap (λ (v : Node). told_of x.book v.book) end.is ∙ told_more x.book (judge moment z.book) open_x g in
    record {
      call = d.call;
      there = d.there;
      number_is = d.number;
      tells = λ waits.
          let one = told_there moment d.call z.book.calls d.there waits d.has_given_up in
          subst (λ (m : CallNumber). Contains (told_of x.book y.book) (Unsure m cause.GivenUp)) d.number
          (subst (λ (ts : List Happening). Contains ts (Unsure d.call.number cause.GivenUp)) (sym told) (Contains-append_right t.grows.told (filter_map (unsure_of moment) z.book.calls) (Unsure d.call.number cause.GivenUp) one));
    }

-- WHAT A DEED TELLS has its cause
pub record Judged (deed : Deed) (x y : Node) : Type 0 where
  pub causes : All (HasCause deed x y) (told_of x.book y.book)
  pub answers : (m : CallNumber) (answer : List ℕ) → Contains (told_of x.book y.book) (Answered m answer) → Contains (told_between x y) (Answered m answer)
  pub sure : AreSure y

nothing_told : (deed : Deed) (x y : Node) → told_of x.book y.book ≡ [] → AreSure y → Judged deed x y
nothing_told deed x y none sure = record { causes = subst (λ (ts : List Happening). All (HasCause deed x y) ts) (sym none) (All-nil (HasCause deed x y)); answers = λ m answer there. absurd (not_in_none (told_of x.book y.book) (Answered m answer) none there); sure = sure }

stays : (deed : Deed) (x y : Node) → y.book ≡ x.book → AreSure y → Judged deed x y
stays deed x y same sure = nothing_told deed x y (ap (told_of x.book) same ∙ drop-length (told_by x.book)) sure

-- from a node within the turn on
ends : (deed : Deed) (x z : Node) → x.book.closed ≡ false → Reasons deed x z → Judged deed x (turn_end (moment_told deed) z)
unfolding grows_through judge_grows
ends deed x z open_x reasons =
    let now = moment_told deed in
    let r = read_through now z in
    let y = turn_end now z in
    let d = reasons_read deed x z reasons in
    let t = within_tells d.within in
    let moment = moment_of now r.endpoint in
    let g = grows_through x.book r.book y.book t.grows (judge_grows moment r.book) in
    let end : EndsAt deed x y = record { judges = r; within = d.within; is = refl } in
    let le : r.endpoint.latest ≤ moment = omega arith in
    let told : told_of x.book y.book ≡ told_between x y = told_more x.book y.book open_x g ∙ sym (ap (drop (length x.book.happenings)) g.happenings ∙ drop-append_seam x.book.happenings g.told) in
    record {
      causes = subst (λ (ts : List Happening). All (HasCause deed x y) ts) (sym (told_more x.book y.book open_x g))
          (All-append (HasCause deed x y) t.grows.told (filter_map (unsure_of moment) r.book.calls) (All-weaker NotUnsure (HasCause deed x y) (λ happening h. not_unsure deed x y happening h) t.grows.told t.sure)
          (judged_causes deed x y end r.book.calls (All-contains_itself r.book.calls) d.reasons));
      answers = λ m answer there. subst (λ (ts : List Happening). Contains ts (Answered m answer)) told there;
      sure = λ open_y. all_filtered (IsCalm r.endpoint.latest) is_kept (map (judged_call moment) r.book.calls) (all_judged r.endpoint.latest moment le r.book.calls);
    }

-- A CALL
call_reasons : (o : Option Refusal) (deed : Deed) {now patience : ℕ} {payload : List ℕ} (x z : Node) (f : Flow) (count deadline : ℕ) → deed ≡ MakesCall now f payload patience → Reasons deed x z → Reasons deed x (with_book (with_call_unless o f count deadline) z)
call_reasons None deed x z f count deadline asked d = reasons_call deed x z f count deadline asked d
call_reasons (Some r) deed x z f count deadline asked d = d

call_judged : (o : Option Made) (now : ℕ) (f : Flow) (payload message : List ℕ) (patience : ℕ) (x : Node) → IsEventOf (MakesCall now f payload patience) (message_event f message) → first_refusal (call_refusals x f payload patience) ≡ o → AreSure x → Judged (MakesCall now f payload patience) x (unless o x (made_by now f message patience x)).1
call_judged (Some a) now f payload message patience x own is sure = stays (MakesCall now f payload patience) x x refl sure
call_judged None now f payload message patience x own is sure =
    let deed = MakesCall now f payload patience in
    let refused = send_answer now f message true true x.endpoint in
    let deadline = moment_of now x.endpoint + patience in
    let z = happens now (message_event f message) x in
    let open_x = either_false x.endpoint.spent x.book.closed (all_clear (call_refusals x f payload patience) is).0 in
    ends deed x (with_book (with_call_unless refused f (length message) deadline) z) open_x
    (call_reasons refused deed x z f (length message) deadline refl (reasons_hear deed x x (message_event f message) (of_deed own) (reasons_begin deed x (none_given_up x open_x sure))))

-- A REPLY
forgot_reasons : (o : Option Refusal) (deed : Deed) (x z : Node) (token : Token) → Reasons deed x z → Reasons deed x (with_book (forgotten_unless o token) z)
forgot_reasons None deed x z token d = reasons_stay deed x z (forgotten token z.book) (record { calls = refl; happenings = refl; closed = refl }) d
forgot_reasons (Some r) deed x z token d = d

reply_judged : (o : Option Replied) (now : ℕ) (token : Token) (payload message : List ℕ) (x : Node) → IsEventOf (GivesReply now token payload) (message_event (reversed token.flow) message) → first_refusal (reply_refusals x token payload) ≡ o → AreSure x → Judged (GivesReply now token payload) x (unless o x (replied_by now token message x)).1
reply_judged (Some a) now token payload message x own is sure = stays (GivesReply now token payload) x x refl sure
reply_judged None now token payload message x own is sure =
    let deed = GivesReply now token payload in
    let refused = send_answer now (reversed token.flow) message true true x.endpoint in
    let z = happens now (message_event (reversed token.flow) message) x in
    let open_x = either_false x.endpoint.spent x.book.closed (all_clear (reply_refusals x token payload) is).0 in
    ends deed x (with_book (forgotten_unless refused token) z) open_x
    (forgot_reasons refused deed x z token (reasons_hear deed x x (message_event (reversed token.flow) message) (of_deed own) (reasons_begin deed x (none_given_up x open_x sure))))

forget_judged : (o : Option Forgot) (now : ℕ) (token : Token) (x : Node) → first_refusal (forget_refusals x token) ≡ o → AreSure x → Judged (Forgets now token) x (unless o x (forgot.Done, turn_end now (with_book (forgotten token) x))).1
forget_judged (Some a) now token x is sure = stays (Forgets now token) x x refl sure
forget_judged None now token x is sure =
    let open_x = either_false x.endpoint.spent x.book.closed (either_first (is_closed x) _ (all_clear (forget_refusals x token) is).0) in
    ends (Forgets now token) x (with_book (forgotten token) x) open_x
    (reasons_stay (Forgets now token) x x (forgotten token x.book) (record { calls = refl; happenings = refl; closed = refl }) (reasons_begin (Forgets now token) x (none_given_up x open_x sure)))

tick_judged : (b : Bool) (now : ℕ) (x : Node) → is_closed x ≡ b → AreSure x → Judged (Ticks now) x (cond {A = Ticked × Node} b (ticked.Spent, x) (ticked.Done, turn now Tick x)).1
tick_judged true now x is sure = stays (Ticks now) x x refl sure
tick_judged false now x is sure = let open_x = either_false x.endpoint.spent x.book.closed is in ends (Ticks now) x (happens now Tick x) open_x (reasons_hear (Ticks now) x x Tick (of_deed refl) (reasons_begin (Ticks now) x (none_given_up x open_x sure)))

arrive_judged : (c : Bool) (o : Option Received) (now link : ℕ) (datagram : List ℕ) (waited : ℕ) (x : Node) → is_closed x ≡ c → AreSure x
    → Judged (Arrives now link datagram waited) x (cond {A = Received × Node} c (arrived.Spent, x) (or_counted o x (arrived.Done, turn now (arrive_event link datagram waited) x))).1
arrive_judged true o now link datagram waited x is sure = stays (Arrives now link datagram waited) x x refl sure
arrive_judged false (Some a) now link datagram waited x is sure = stays (Arrives now link datagram waited) x _ refl sure
arrive_judged false None now link datagram waited x is sure =
    let event = arrive_event link datagram waited in
    let open_x = either_false x.endpoint.spent x.book.closed is in
    let deed = Arrives now link datagram waited in
    ends deed x (happens now event x) open_x (reasons_hear deed x x event (of_deed refl) (reasons_begin deed x (none_given_up x open_x sure)))

-- WHAT IS NO TURN
kind_judged : (port : ℕ) (o : Option PortKind) (kind : PortKind) (x : Node) → AreSure x → Judged (GivesKind port kind) x (with_book (with_port port o kind) x)
kind_judged port (Some has) kind x sure = stays (GivesKind port kind) x x refl sure
kind_judged port None kind x sure = nothing_told (GivesKind port kind) x _ (told_beside x.book (with_port port None kind x.book) refl refl refl) sure

raise_judged : (b : Bool) (life : ℕ) (x : Node) → AreSure x → Judged (Raises life) x (record x { book = cond b x.book (record (x.book) { life = life; count = 0 }) })
raise_judged true life x sure = stays (Raises life) x x refl sure
raise_judged false life x sure = nothing_told (Raises life) x _ (told_beside x.book (record (x.book) { life = life; count = 0 }) refl refl refl) sure

next_sure : (P : OpenCall → Type 0) (cs : List OpenCall) (h : CallBook) → All P cs → All P h.calls → All P (next_call cs h).1.calls
next_sure P [] h all whole = whole
next_sure P (call ∷ cs) h all whole = All-tail P call cs all

closed_sure : (P : OpenCall → Type 0) (b : Bool) (h : CallBook) → All P h.calls → All P (cond {A = Option Happening × CallBook} b (next_call h.calls h) (None, h)).1.calls
closed_sure P true h all = next_sure P h.calls h all all
closed_sure P false h all = all

taken_sure : (P : OpenCall → Type 0) (told : List Happening) (h : CallBook) → All P h.calls → All P (next_in told h).1.calls
taken_sure P [] h all = closed_sure P h.closed h all
taken_sure P (x ∷ told) h all = all

next_closed : (cs : List OpenCall) (h : CallBook) → (next_call cs h).1.closed ≡ h.closed
next_closed [] h = refl
next_closed (call ∷ cs) h = refl

closed_closed : (b : Bool) (h : CallBook) → (cond {A = Option Happening × CallBook} b (next_call h.calls h) (None, h)).1.closed ≡ h.closed
closed_closed true h = next_closed h.calls h
closed_closed false h = refl

taken_closed : (told : List Happening) (h : CallBook) → (next_in told h).1.closed ≡ h.closed
taken_closed [] h = closed_closed h.closed h
taken_closed (x ∷ told) h = refl

closing_causes : (deed : Deed) (x y : Node) → x.book.closed ≡ false → y.book.closed ≡ true → (cs : List OpenCall) → All (HasCause deed x y) (map closing_of cs)
closing_causes deed x y open_x closed_y [] = All-nil (HasCause deed x y)
closing_causes deed x y open_x closed_y (call ∷ cs) = All-cons (HasCause deed x y) (closing_of call) (map closing_of cs) (open_x, closed_y) (closing_causes deed x y open_x closed_y cs)

none_answered : (m : CallNumber) (answer : List ℕ) (cs : List OpenCall) → Contains (map closing_of cs) (Answered m answer) → ⊥
none_answered m answer [] there = (let lt = there.1 in omega (arith, lt))
none_answered m answer (call ∷ cs) there = elim (contains_parts (closing_of call) (Answered m answer) (map closing_of cs) there) [ inl same ↦ absurd cc | inr more ↦ none_answered m answer cs more ]

close_judged : (b : Bool) (x : Node) → x.book.closed ≡ b → AreSure x → Judged Closes x (with_book close x)
close_judged true x is sure = nothing_told Closes x (with_book close x) (closed_again x.book is) (λ open_y. absurd cc)
close_judged false x is sure = record {
  causes = subst (λ (ts : List Happening). All (HasCause Closes x (with_book close x)) ts) (sym (closed_now x.book is)) (closing_causes Closes x (with_book close x) is refl (filter (λ (call : OpenCall). call.waits) x.book.calls));
  answers = λ m answer there. absurd (none_answered m answer (filter (λ (call : OpenCall). call.waits) x.book.calls) (subst (λ (ts : List Happening). Contains ts (Answered m answer)) (closed_now x.book is) there));
  sure = λ open_y. absurd cc;
}

-- A TURN THAT FOUND NO MEMORY tells what it had told, and then that its node closed
call_tells : (o : Option Refusal) (f : Flow) (count deadline : ℕ) (h : CallBook) → Tells h (with_call_unless o f count deadline h)
call_tells None f count deadline h = tells_same h _ refl refl
call_tells (Some r) f count deadline h = tells_same h h refl refl

forgot_tells : (o : Option Refusal) (token : Token) (h : CallBook) → Tells h (forgotten_unless o token h)
forgot_tells None token h = tells_same h _ refl refl
forgot_tells (Some r) token h = tells_same h h refl refl

telling : IsKeptByDeeds (λ (x y : Node). Tells x.book y.book) Any
telling = record { turns = tells_stopped; calls = λ o f count deadline x. call_tells o f count deadline x.book; forgets = λ o token x. forgot_tells o token x.book }

halted_judged : (deed : Deed) (x y : Node) → x.book.closed ≡ false → Halts (λ (u v : Node). Tells u.book v.book) Any telling x y → Judged deed x y
halted_judged deed x y open_x h =
    let st = h.stopped.book in
    let g = h.part.grows in
    let left = filter (λ (call : OpenCall). call.waits) st.calls in
    let closed_y : y.book.closed ≡ true = ap (λ (z : Node). z.book.closed) h.closed in
    let told : told_of x.book y.book ≡ g.told ++ map closing_of left = told_closing x.book st y.book g.told open_x g.happenings (ap (λ (z : Node). z.book) h.closed) in
    let between : g.told ≡ told_between x y = sym (ap (λ (z : Node). drop (length x.book.happenings) z.book.happenings) h.closed ∙ ap (drop (length x.book.happenings)) g.happenings ∙ drop-append_seam x.book.happenings g.told) in
    record {
      causes = subst (λ (ts : List Happening). All (HasCause deed x y) ts) (sym told)
          (All-append (HasCause deed x y) g.told (map closing_of left) (All-weaker NotUnsure (HasCause deed x y) (λ happening sure. not_unsure deed x y happening sure) g.told h.part.sure) (closing_causes deed x y open_x closed_y left));
      answers = λ m answer there.
          elim (Contains-append_cases g.told (map closing_of left) (Answered m answer) (subst (λ (ts : List Happening). Contains ts (Answered m answer)) told there)) [
            | inl before ↦ subst (λ (ts : List Happening). Contains ts (Answered m answer)) between before
            | inr end ↦ absurd (none_answered m answer left end)
          ];
      sure = λ open_y. (let no : true ≡ false = sym closed_y ∙ open_y in absurd cc);
    }

-- WHATEVER IS DONE
pub deed_judged : (setup : Setup) (net : Network) (n : ℕ) (deed : Deed) (x : Node) → KeepsDeed setup net n deed x → AreSure x → Judged deed x (node_after setup n deed x)
deed_judged setup net n (MakesCall now f payload patience) x keeps sure = call_judged (first_refusal (call_refusals x f payload patience)) now f payload (message_of (to_u64 (next_number x.book)) payload) patience x (next_number x.book, refl) refl sure
deed_judged setup net n (GivesKind port kind) x keeps sure = kind_judged port (kind_in port x.book.ports) kind x sure
deed_judged setup net n (GivesReply now token payload) x keeps sure = reply_judged (first_refusal (reply_refusals x token payload)) now token payload (message_of (to_u64 token.number) payload) x refl refl sure
deed_judged setup net n (Forgets now token) x keeps sure = forget_judged (first_refusal (forget_refusals x token)) now token x refl sure
deed_judged setup net n (Ticks now) x keeps sure = tick_judged (is_closed x) now x refl sure
deed_judged setup net n (Arrives now link datagram waited) x keeps sure = arrive_judged (is_closed x) (arrive_refusal link datagram waited x.endpoint) now link datagram waited x refl sure
deed_judged setup net n (Raises life) x keeps sure = raise_judged (is_life_in_use life x.book) life x sure
deed_judged setup net n TakesHappening x keeps sure = nothing_told TakesHappening x (node_after setup n TakesHappening x) (taken_told x.book.happenings x.book refl) (λ open_y. taken_sure (IsCalm x.endpoint.latest) x.book.happenings x.book (sure (sym (taken_closed x.book.happenings x.book) ∙ open_y)))
deed_judged setup net n PullsFrame x keeps sure = stays PullsFrame x (node_after setup n PullsFrame x) refl sure
deed_judged setup net n (GetsRoute route answer added) x keeps sure =
    let y = node_after setup n (GetsRoute route answer added) x in
    stays (GetsRoute route answer added) x y refl (λ open_y. subst (λ (latest : ℕ). All (IsCalm latest) x.book.calls) (sym (route_keeps route answer x.endpoint added keeps).latest) (sure open_y))
deed_judged setup net n (CountsFlow flow true) x keeps sure = stays (CountsFlow flow true) x (node_after setup n (CountsFlow flow true) x) refl sure
deed_judged setup net n (CountsFlow flow false) x keeps sure = stays (CountsFlow flow false) x (node_after setup n (CountsFlow flow false) x) refl sure
deed_judged setup net n Closes x keeps sure = close_judged x.book.closed x refl sure
deed_judged setup net n (OpensAgain again options most life) x keeps sure = nothing_told (OpensAgain again options most life) x (node_after setup n (OpensAgain again options most life) x) (drop-nil (length (told_by x.book))) (λ open_y. All-nil (IsCalm (node_after setup n (OpensAgain again options most life) x).endpoint.latest))
deed_judged setup net n (FindsNoMemory deed after) x keeps sure =
    halted_judged (FindsNoMemory deed after) x after (broken_open deed x after keeps.1) (halts (λ (u v : Node). Tells u.book v.book) Any telling deed x after (λ event own. tt) keeps.1)

-- AN ANSWER that is told is one of the answers
answer_there : (m : CallNumber) (answer : List ℕ) (told : List Happening) → Contains told (Answered m answer) → Contains (each_of answer_in told) (record { number = m; carried = answer })
answer_there m answer [] there = absurd (let lt = there.1 in omega (arith, lt))
answer_there m answer (t ∷ told) there =
    elim (contains_parts t (Answered m answer) told there) [
      | inl same ↦ subst (λ (u : Happening). Contains (answer_in u ++ each_of answer_in told) (record { number = m; carried = answer })) (sym same) (contains_first _ _ (each_of answer_in told) refl)
      | inr more ↦ Contains-append_right (answer_in t) (each_of answer_in told) (record { number = m; carried = answer }) (answer_there m answer told more)
    ]

-- ALL TURNS
module _ (setup : Setup) where
  at_judged : (s : Services) → IsOfEach AreSure s → (n : ℕ) (deed : Deed) (o : Option EndpointValue) → look ◌==◌ n s.network.endpoints ≡ o → KeepsFrom setup s.network n deed (option_map (node_with n s) o) → TellsAt setup n deed (option_map (node_with n s) o) × IsOfEach AreSure (node_does setup n deed s (option_map (node_with n s) o))
  at_judged s sure n deed None found keeps = (tt, sure)
  at_judged s sure n deed (Some e) found keeps =
      let x = node_with n s e in
      let j = deed_judged setup s.network n deed x keeps (sure n e found) in
      (record { causes = j.causes; given_up = given_up_ends deed x (node_after setup n deed x) }, written_each AreSure n s (node_after setup n deed x) sure j.sure)

  pub turns_judged : (turns : List Turn) (s : Services) → KeepsTurns setup turns s → IsOfEach AreSure s → TellCauses setup turns s × IsOfEach AreSure (services_by setup turns s)
  turns_judged [] s keeps sure = (tt, sure)
  turns_judged (Passes by ∷ turns) s keeps sure = turns_judged turns (services_after setup (Passes by) s) keeps.1 (λ k e there. sure k e there)
  turns_judged (Does n deed ∷ turns) s keeps sure =
      let one = at_judged s sure n deed (look ◌==◌ n s.network.endpoints) refl keeps.0 in
      let rest = turns_judged turns (services_after setup (Does n deed) s) keeps.1 one.1 in
      ((one.0, rest.0), rest.1)

  module _ (c : ℕ) (m : CallNumber) (answer : List ℕ) where
    abbrev one : Message
    one = record { number = m; carried = answer }

    at_answers : (s : Services) → IsOfEach AreSure s → (n : ℕ) (deed : Deed) (o : Option EndpointValue) → look ◌==◌ n s.network.endpoints ≡ o → KeepsFrom setup s.network n deed (option_map (node_with n s) o)
        → Contains (at_node (at_the c (told_in setup) n deed) (option_map (node_with n s) o)) (Answered m answer) → Contains (at_node (at_the c (told_by_turn answer_in setup) n deed) (option_map (node_with n s) o)) one
    at_answers s sure n deed None found keeps there = absurd (let lt = there.1 in omega (arith, lt))
    at_answers s sure n deed (Some e) found keeps there =
        let x = node_with n s e in
        let j = deed_judged setup s.network n deed x keeps (sure n e found) in
        by_test (n == c) (λ told. answer_there m answer (told_between x (node_after setup n deed x)) (j.answers m answer told)) there
      where
        by_test : (b : Bool) → (let x = node_with n s e in Contains (told_in setup n deed x) (Answered m answer) → Contains (told_by_turn answer_in setup n deed x) one)
            → let x = node_with n s e in Contains (cond b (told_in setup n deed x) []) (Answered m answer) → Contains (cond b (told_by_turn answer_in setup n deed x) []) one
        by_test true here told = here told
        by_test false here told = absurd (let lt = told.1 in omega (arith, lt))

    turn_answers : (t : Turn) (s : Services) → IsOfEach AreSure s → KeepsTurn setup t s → Contains (in_turn (at_the c (told_in setup)) t s) (Answered m answer) → Contains (in_turn (at_the c (told_by_turn answer_in setup)) t s) one
    turn_answers (Passes by) s sure keeps there = absurd (let lt = there.1 in omega (arith, lt))
    turn_answers (Does n deed) s sure keeps there = at_answers s sure n deed (look ◌==◌ n s.network.endpoints) refl keeps there

    pub turns_answer : (turns : List Turn) (s : Services) → KeepsTurns setup turns s → IsOfEach AreSure s → Contains (told_at c setup turns s) (Answered m answer) → Contains (answers_at c setup turns s) one
    turns_answer [] s keeps sure there = absurd (let lt = there.1 in omega (arith, lt))
    turns_answer (t ∷ turns) s keeps sure there =
        let v = services_after setup t s in
        let next = (turns_judged (t ∷ []) s (keeps.0, tt) sure).1 in
        elim (Contains-append_cases (in_turn (at_the c (told_in setup)) t s) (told_at c setup turns v) (Answered m answer) there) [
          | inl now ↦ Contains-append_left (in_turn (at_the c (told_by_turn answer_in setup)) t s) (answers_at c setup turns v) one (turn_answers t s sure keeps.0 now)
          | inr later ↦ Contains-append_right (in_turn (at_the c (told_by_turn answer_in setup)) t s) (answers_at c setup turns v) one (turns_answer turns v keeps.1 next later)
        ]
