-- A turn that stopped was a first part: what had left and was told stays, and each number has its account.
use Rattle.std.proofs.Common.{ℕ, ◌+◌, ◌≡◌, Bool, true, false, List, [], ◌∷◌, ◌++◌, length, Option, Some, None, refl, ap, sym, subst, ◌∙◌, arith, append_assoc}
use Rattle.std.specs.Prelude.{◌&&◌, cond, filter, fold, take}
use Rattle.dt_units.specs.declared.endpoints.Flow.{Flow}
use Rattle.dt_reports.specs.declared.faults.Refusal.{Refusal}
use Rattle.dt_reports.specs.Told.{Told}
use Rattle.dt_world_model.specs.Host.{one_if}
use Rattle.dt_world_model.specs.Station.{Event, Read, Tick}
use Rattle.dt_calls_model.specs.Messages.{message_of, reversed}
use Rattle.dt_endpoint.specs.Acts.{OutFrameValue, acts_of, frames_in}
use Rattle.dt_endpoint.specs.Calls.{arrive_event, send_answer}
use Rattle.dt_endpoint.specs.Endpoints.{Breaks, EndpointValue, after_event, moment_of, script_of}
use Rattle.dt_service_model.specs.declared.calls.OpenCall.{OpenCall}
use Rattle.dt_service_model.specs.declared.happenings.Happening.{Happening}
use Rattle.dt_service_model.specs.declared.names.CallNumber.{CallNumber}
use Rattle.dt_service_model.specs.declared.names.Token.{Token}
use Rattle.dt_service_model.specs.Accounts.{account, waits_in, waits_with}
use Rattle.dt_service_model.specs.Ends.{close}
use Rattle.dt_service_model.specs.CallBook.{CallBook}
use Rattle.dt_service_model.specs.Hearing.{hear}
use Rattle.dt_service_model.specs.Names.{to_u64, same_number}
use Rattle.dt_service_model.specs.Asked.{forgotten, forgotten_unless, message_event, next_number, with_call_unless}
use Rattle.dt_service_model.specs.Stopping.{ArriveStops, CallStops, EndStops, EndpointGoesOn, EventStops, ForgetStops, GoesOn, BookGoesOn, ReplyStops, TickStops, TurnStops, behind_event, breaks_off, call_kept, hears_part, in_end, in_event, message_of_call, not_done, token_dropped}
use Rattle.dt_service_model.specs.Turns.{Node, done_with, happens, most_read, sweep, with_book}
use Rattle.dt_service_model.specs.Whole.{take_piece}
use Rattle.dt_service_model.proofs.Making.{added, numbers_heard}
use Rattle.dt_service_model.proofs.Growing.{Tells, all_hear_tells, piece_tells, tells_same}
use Rattle.dt_service_model.proofs.Halting.{Any, IsKeptToStop, end_stopped, turn_stopped}
use Rattle.dt_service_model.proofs.Turning.{all_heard, piece_keeps}

append_none : {A : Type 0} (xs : List A) → xs ++ [] ≡ xs
append_none [] = refl
append_none {A} (x ∷ xs) = ap (λ (ys : List A). x ∷ ys) (append_none xs)

-- THE ENDPOINT
endpoint_same : (e : EndpointValue) → EndpointGoesOn e e
endpoint_same e = record { rules = refl; more = []; frames = sym (append_none e.frames) }

endpoint_then : {e f g : EndpointValue} → EndpointGoesOn e f → EndpointGoesOn f g → EndpointGoesOn e g
endpoint_then {e} a b = record { rules = b.rules ∙ a.rules; more = a.more ++ b.more; frames = b.frames ∙ ap (λ (xs : List OutFrameValue). xs ++ b.more) a.frames ∙ append_assoc e.frames a.more b.more }

event_goes : (now : ℕ) (event : Event (Unit {0})) (e f : EndpointValue) → f ≡ after_event now event e → EndpointGoesOn e f
event_goes now event e f is = subst (λ (g : EndpointValue). EndpointGoesOn e g) (sym is) (record { rules = refl; more = frames_in (acts_of (script_of now event e)); frames = refl })

break_goes : (now : ℕ) (event : Event (Unit {0})) (e f : EndpointValue) → Breaks now event e f → EndpointGoesOn e f
break_goes now event e f b = record { rules = b.rules; more = frames_in (take b.count (acts_of (script_of now event e))); frames = b.frames }

-- THE BOOK
book_same : (h : CallBook) → BookGoesOn false h h
book_same h = record { more = []; told = sym (append_none h.happenings); accounts = λ x. omega arith }

book_then : (made : Bool) (h k l : CallBook) → BookGoesOn made h k → BookGoesOn false k l → BookGoesOn made h l
book_then made h k l a b = record {
  more = a.more ++ b.more;
  told = b.told ∙ ap (λ (xs : List Happening). xs ++ b.more) a.told ∙ append_assoc h.happenings a.more b.more;
  accounts = λ x. let one = a.accounts x in let other = b.accounts x in omega (arith, one, other);
}

-- what tells so and keeps accounts
book_tells : (h k : CallBook) → Tells h k → ((x : CallNumber) → account x k ≡ account x h) → BookGoesOn false h k
book_tells h k tells keeps = record { more = tells.grows.told; told = tells.grows.happenings; accounts = λ x. let kept = keeps x in omega (arith, kept) }

-- THE NODE
goes_same : (n : Node) → GoesOn false n n
goes_same n = record { endpoint = endpoint_same n.endpoint; book = book_same n.book }

goes_then : (made : Bool) (n m k : Node) → GoesOn made n m → GoesOn false m k → GoesOn made n k
goes_then made n m k a b = record { endpoint = endpoint_then a.endpoint b.endpoint; book = book_then made n.book m.book k.book a.book b.book }

goes_to : (made : Bool) (n m k : Node) → k ≡ m → GoesOn made n m → GoesOn made n k
goes_to made n m k is part = subst (λ (x : Node). GoesOn made n x) (sym is) part

book_goes : (n : Node) (h : CallBook) → BookGoesOn false n.book h → GoesOn false n (record n { book = h })
book_goes n h more = record { endpoint = endpoint_same n.endpoint; book = more }

hears_go : (told : List Told) (h : CallBook) → BookGoesOn false h (fold hear h told)
hears_go told h = book_tells h (fold hear h told) (all_hear_tells told h) (λ x. all_heard x told h)

happens_go : (now : ℕ) (event : Event (Unit {0})) (n : Node) → GoesOn false n (happens now event n)
happens_go now event n = record { endpoint = record { rules = refl; more = frames_in (acts_of (script_of now event n.endpoint)); frames = refl }; book = hears_go (after_event now event n.endpoint).reports n.book }

-- WHERE IT STOPS
event_part : (now : ℕ) (event : Event (Unit {0})) (n m : Node) → EventStops now event n m → GoesOn false n m
event_part now event n m (breaks_off e b is) = goes_to false n (record n { endpoint = e }) m is (record { endpoint = break_goes now event n.endpoint e b; book = book_same n.book })
event_part now event n m (hears_part count is) =
    let told = take count (after_event now event n.endpoint).reports in
    goes_to false n _ m is (record { endpoint = record { rules = refl; more = frames_in (acts_of (script_of now event n.endpoint)); frames = refl }; book = hears_go told n.book })

beside_go : (n : Node) (h : CallBook) → h.closed ≡ n.book.closed → h.happenings ≡ n.book.happenings → ((x : CallNumber) → account x h ≡ account x n.book) → GoesOn false n (record n { book = h })
beside_go n h closed told keeps = book_goes n h (book_tells n.book h (tells_same n.book h closed told) keeps)

going : IsKeptToStop (GoesOn false) Any
going = record {
  kept = λ now. record {
    itself = goes_same;
    through = λ x y z first second. goes_then false x y z first second;
    hears = λ f x. happens_go now (Read f most_read) x;
    done = λ f x. beside_go x (done_with f x.book) refl refl (λ n. refl);
    takes = λ f p x. book_goes x (take_piece f p x.book) (book_tells x.book (take_piece f p x.book) (piece_tells f p x.book) (λ n. piece_keeps n f p x.book));
    swept = λ x. beside_go x (sweep x.endpoint.state.host x.book) refl refl (λ n. refl);
  };
  reads = λ now f x. tt;
  hears = λ now event x may. happens_go now event x;
  stops = λ now event x st may stops. event_part now event x st stops;
  lost = λ begun counts x. beside_go x (record (x.book) { begun = begun; counts = counts }) refl refl (λ n. refl);
}

end_part : (now : ℕ) (n m : Node) → EndStops now n m → GoesOn false n m
end_part now n m stops = end_stopped (GoesOn false) Any going now n m stops

-- A turn whose change beside the endpoint adds to an account or doesn't
turn_part : (now : ℕ) (event : Event (Unit {0})) (change : CallBook → CallBook) (n m : Node) → ((made : Bool) × GoesOn made n (with_book change (happens now event n))) → TurnStops now event change n m → (made : Bool) × GoesOn made n m
turn_part now event change n m changed (not_done is) = (false, goes_to false n n m is (goes_same n))
turn_part now event change n m changed (in_event stops) = (false, event_part now event n m stops)
turn_part now event change n m changed (behind_event is) = (false, goes_to false n (happens now event n) m is (happens_go now event n))
turn_part now event change n m changed (in_end stops) = (changed.0, goes_then changed.0 n (with_book change (happens now event n)) m changed.1 (end_part now (with_book change (happens now event n)) m stops))

quiet_turn : (now : ℕ) (event : Event (Unit {0})) (change : CallBook → CallBook) (n m : Node) → ((h : CallBook) → BookGoesOn false h (change h)) → TurnStops now event change n m → GoesOn false n m
quiet_turn now event change n m changed stops = turn_stopped (GoesOn false) Any going now event change n m tt (λ x. book_goes x (change x.book) (changed x.book)) stops

-- A CALL is made, unless its request wasn't taken
made_part : (o : Option Refusal) (f : Flow) (count deadline : ℕ) (n m : Node) → GoesOn false n m → next_number m.book ≡ next_number n.book → (made : Bool) × GoesOn made n (with_book (with_call_unless o f count deadline) m)
made_part None f count deadline n m part number =
    let a = part.book in (
      true,
      record {
        endpoint = part.endpoint;
        book = record {
          more = a.more;
          told = a.told;
          accounts = λ x. let one = a.accounts x in let more = added x None f count deadline m.book n.book number in omega (arith, one, more);
        };
      },
    )
made_part (Some refusal) f count deadline n m part number = (false, part)

dropped_part : (o : Option Refusal) (t : Token) (h : CallBook) → BookGoesOn false h (forgotten_unless o t h)
dropped_part None t h = book_tells h (forgotten t h) (tells_same h (forgotten t h) refl refl) (λ x. refl)
dropped_part (Some refusal) t h = book_same h

pub call_part : (now : ℕ) (f : Flow) (payload : List ℕ) (patience : ℕ) (n m : Node) → CallStops now f payload patience n m → (made : Bool) × GoesOn made n m
call_part now f payload patience n m stops =
    let message = message_of_call payload n.book in
    let event = message_event f message in
    turn_part now event (call_kept now f message patience n) n m
    (made_part (send_answer now f message true true n.endpoint) f (length message) (moment_of now n.endpoint + patience) n (happens now event n) (happens_go now event n) (numbers_heard (after_event now event n.endpoint).reports n.book))
    stops.turn

pub reply_part : (now : ℕ) (token : Token) (payload : List ℕ) (n m : Node) → ReplyStops now token payload n m → GoesOn false n m
reply_part now token payload n m stops =
    let message = message_of (to_u64 token.number) payload in
    let f = reversed token.flow in
    quiet_turn now (message_event f message) (token_dropped now token message n) n m (λ h. dropped_part (send_answer now f message true true n.endpoint) token h) stops.turn

pub forget_part : (now : ℕ) (token : Token) (n m : Node) → ForgetStops now token n m → GoesOn false n m
forget_part now token n m stops =
    let k = with_book (forgotten token) n in
    goes_then false n k m (book_goes n (forgotten token n.book) (dropped_part None token n.book)) (end_part now k m stops.turn)

pub tick_part : (now : ℕ) (n m : Node) → TickStops now n m → GoesOn false n m
tick_part now n m stops = quiet_turn now Tick (λ h. h) n m book_same stops.turn

pub arrive_part : (now link : ℕ) (octets : List ℕ) (waited : ℕ) (n m : Node) → ArriveStops now link octets waited n m → GoesOn false n m
arrive_part now link octets waited n m stops = quiet_turn now (arrive_event link octets waited) (λ h. h) n m book_same stops.turn

-- THE CLOSE keeps the account of each number
waits_kept : (x : CallNumber) (calls : List OpenCall) → waits_in x (filter (λ (call : OpenCall). call.waits) calls) ≡ waits_in x calls
waits_kept x [] = refl
waits_kept x (call ∷ calls) = by_waits call.waits refl (waits_kept x calls)
  where
    by_waits : (b : Bool) → call.waits ≡ b → waits_in x (filter (λ (c : OpenCall). c.waits) calls) ≡ waits_in x calls → waits_in x (cond b (call ∷ filter (λ (c : OpenCall). c.waits) calls) (filter (λ (c : OpenCall). c.waits) calls)) ≡ waits_in x (call ∷ calls)
    by_waits true is rest = omega (arith, rest)
    by_waits false is rest = let none : one_if (waits_with x call) ≡ 0 = ap (λ (b : Bool). one_if (b && same_number call.number x)) is in omega (arith, rest, none)

pub close_keeps : (x : CallNumber) (h : CallBook) → account x (close h) ≡ account x h
close_keeps x h = let kept = waits_kept x h.calls in omega (arith, kept)
