-- What the end of a turn keeps of its node: its kinds, its life, its numbers and its calls; and a token that is open then was, or came at a service.
use Rattle.std.proofs.Common.{ℕ, zero, suc, ◌≡◌, ◌⊎◌, Bool, true, false, List, [], ◌∷◌, ◌++◌, Option, Some, None, refl, sym, subst, ◌∙◌, inl, inr}
use Rattle.std.specs.Prelude.{All, Contains, cond}
use Rattle.std.specs.List.{position}
use Rattle.std.proofs.lemmas.List.Elements.{All-cons, All-contains_itself, All-head, All-nil, All-tail, Contains-push_cases}
use Rattle.dt_units.specs.declared.endpoints.Flow.{Flow}
use Rattle.dt_world_model.specs.Station.{Event, Read}
use Rattle.dt_calls_model.specs.Messages.{Piece, carried_in, has_number, number_in, reversed}
use Rattle.dt_messages.specs.Joining.{whole_within}
use Rattle.dt_endpoint.specs.Endpoints.{after_event}
use Rattle.dt_service_model.specs.declared.calls.OpenCall.{OpenCall}
use Rattle.dt_service_model.specs.declared.happenings.Happening.TheVariants.{Request}
use Rattle.dt_service_model.specs.declared.names.CallNumber.{CallNumber}
use Rattle.dt_service_model.specs.declared.names.Token.{Token}
use Rattle.dt_service_model.specs.declared.ports.PortKind.{PortKind}
use Rattle.dt_service_model.specs.declared.ports.PortKind.TheVariants.{Caller, Service}
use Rattle.dt_service_model.specs.declared.ports.Port.{Port}
use Rattle.dt_service_model.specs.Ends.{judge}
use Rattle.dt_service_model.specs.CallBook.{CallBook, counted_up, kind_in, longest_message}
use Rattle.dt_service_model.specs.Names.{from_u64, token_with}
use Rattle.dt_service_model.specs.Turns.{Node, done_with, happens, most_read, sweep, turn, turn_end}
use Rattle.dt_service_model.specs.Whole.{answered_at, begun_of, grown, is_open, is_waiting_call, take_as, take_piece, take_reply_at, take_whole, without_token}
use Rattle.dt_service_laws.proofs.Moves.{AreKeptFrom, IsKeptFrom, IsQuiet}
use Rattle.dt_service_model.proofs.Walking.{IsKept, end_kept}
use Rattle.dt_service_laws.proofs.Quiet.{all_heard_quiet, done_quiet, filtered_there, judge_quiet, kept_itself, kept_through, sweep_quiet}

-- a token whose flow comes to a service
abbrev pub IsOfService : List Port → Token → Type 0
IsOfService ports t = kind_in t.flow.to_port ports ≡ Some Service

pub record Keeps (h k : CallBook) : Type 0 where
  pub ports : k.ports ≡ h.ports
  pub closes : h.closed ≡ true → k.closed ≡ true
  pub life : k.life ≡ h.life
  pub count : k.count ≡ h.count
  pub tokens : (t : Token) → Contains k.tokens t → Contains h.tokens t ⊎ IsOfService h.ports t
  pub waits : AreKeptFrom h.calls k.calls

pub keeps_quietly : (h k : CallBook) → IsQuiet h k → Keeps h k
keeps_quietly h k q = record { ports = q.ports; closes = q.closes; life = q.life; count = q.count; tokens = λ t there. inl (q.tokens t there); waits = q.waits }

pub keeps_then : (h k l : CallBook) → Keeps h k → Keeps k l → Keeps h l
keeps_then h k l p q = record {
  ports = q.ports ∙ p.ports;
  closes = λ c. q.closes (p.closes c);
  life = q.life ∙ p.life;
  count = q.count ∙ p.count;
  tokens = λ t there. elim (q.tokens t there) [ inl was ↦ p.tokens t was | inr of ↦ inr (subst (λ (ports : List Port). IsOfService ports t) p.ports of) ];
  waits = kept_through h.calls k.calls l.calls p.waits q.waits;
}

pub keeps_same : (h k : CallBook) → k.ports ≡ h.ports → k.closed ≡ h.closed → k.life ≡ h.life → k.count ≡ h.count → k.tokens ≡ h.tokens → k.calls ≡ h.calls → Keeps h k
keeps_same h k ports closed life count tokens calls = record {
  ports = ports;
  closes = λ c. closed ∙ c;
  life = life;
  count = count;
  tokens = λ t there. inl (subst (λ (ts : List Token). Contains ts t) tokens there);
  waits = subst (λ (cs : List OpenCall). AreKeptFrom h.calls cs) (sym calls) (kept_itself h.calls);
}

-- A WHOLE MESSAGE
all_answered : (base : List OpenCall) (place : ℕ) (calls : List OpenCall) → All (Contains base) calls → AreKeptFrom base (answered_at place calls)
all_answered base place [] all = All-nil (λ (c : OpenCall). c.waits ≡ true → IsKeptFrom base c)
all_answered base zero (call ∷ calls) all =
    All-cons (λ (c : OpenCall). c.waits ≡ true → IsKeptFrom base c) _ calls (λ waits. absurd cc) (kept_rest base calls (All-tail (Contains base) call calls all))
  where
    kept_rest : (base rest : List OpenCall) → All (Contains base) rest → AreKeptFrom base rest
    kept_rest base [] there = All-nil (λ (c : OpenCall). c.waits ≡ true → IsKeptFrom base c)
    kept_rest base (c ∷ rest) there = All-cons (λ (c : OpenCall). c.waits ≡ true → IsKeptFrom base c) c rest (λ waits. record { was = c; there = All-head (Contains base) c rest there; waits = waits; number = refl; flow = refl }) (kept_rest base rest (All-tail (Contains base) c rest there))
all_answered base (suc place) (call ∷ calls) all =
    All-cons (λ (c : OpenCall). c.waits ≡ true → IsKeptFrom base c) call (answered_at place calls) (λ waits. record { was = call; there = All-head (Contains base) call calls all; waits = waits; number = refl; flow = refl }) (all_answered base place calls (All-tail (Contains base) call calls all))

reply_keeps : (o : Option ℕ) (n : CallNumber) (answer : List ℕ) (h : CallBook) → Keeps h (take_reply_at o n answer h)
reply_keeps None n answer h = keeps_same h _ refl refl refl refl refl refl
reply_keeps (Some place) n answer h = record { ports = refl; closes = λ c. c; life = refl; count = refl; tokens = λ t there. inl there; waits = all_answered h.calls place h.calls (All-contains_itself h.calls) }

request_keeps : (f : Flow) (n : CallNumber) (payload : List ℕ) (h : CallBook) → kind_in f.to_port h.ports ≡ Some Service → (b : Bool) → let token = token_with f n in
    Keeps h (cond b (record h { tokens = without_token token h.tokens; counts = record (h.counts) { reused = counted_up h.counts.reused } }) (record h { tokens = h.tokens ++ token ∷ []; happenings = h.happenings ++ Request token payload ∷ [] }))
request_keeps f n payload h service true = record { ports = refl; closes = λ c. c; life = refl; count = refl; tokens = λ t there. inl (filtered_there _ h.tokens t there); waits = kept_itself h.calls }
request_keeps f n payload h service false = record {
  ports = refl;
  closes = λ c. c;
  life = refl;
  count = refl;
  tokens = λ t there. elim (Contains-push_cases h.tokens (token_with f n) t there) [ inl was ↦ inl was | inr new ↦ inr (subst (IsOfService h.ports) new service) ];
  waits = kept_itself h.calls;
}

as_keeps : (f : Flow) (n : CallNumber) (carried : List ℕ) (h : CallBook) (kind : Option PortKind) → kind_in f.to_port h.ports ≡ kind → Keeps h (take_as kind f n carried h)
as_keeps f n carried h None is = keeps_same h h refl refl refl refl refl refl
as_keeps f n carried h (Some Caller) is = reply_keeps (position (is_waiting_call (reversed f) n) h.calls) n carried h
as_keeps f n carried h (Some Service) is = request_keeps f n carried h is (is_open (token_with f n) h)

message_keeps : (b : Bool) (f : Flow) (n : CallNumber) (carried : List ℕ) (h : CallBook) → Keeps h (cond b (take_as (kind_in f.to_port h.ports) f n carried h) (record h { counts = record (h.counts) { short = counted_up h.counts.short } }))
message_keeps true f n carried h = as_keeps f n carried h (kind_in f.to_port h.ports) refl
message_keeps false f n carried h = keeps_same h _ refl refl refl refl refl refl

whole_keeps : (f : Flow) (o : Option (List ℕ)) (h : CallBook) → Keeps h (take_whole f o h)
whole_keeps f None h = keeps_same h h refl refl refl refl refl refl
whole_keeps f (Some m) h = message_keeps (has_number m) f (from_u64 (number_in m)) (carried_in m) h

pub piece_keeps : (f : Flow) (p : Piece) (h : CallBook) → Keeps h (take_piece f p h)
piece_keeps f p h =
    let g = grown f (begun_of f h) p h in
    keeps_then h g (take_piece f p h) (keeps_same h g refl refl refl refl refl refl) (whole_keeps f (whole_within (Some longest_message) (begun_of f h) p) g)

-- AN EVENT, and the end of a turn
pub happens_keeps : (now : ℕ) (event : Event (Unit {0})) (x : Node) → Keeps x.book (happens now event x).book
happens_keeps now event x = keeps_quietly x.book _ (all_heard_quiet (after_event now event x.endpoint).reports x.book)

pub keeping : (now : ℕ) → IsKept now (λ (x y : Node). Keeps x.book y.book)
keeping now = record {
  itself = λ x. keeps_same x.book x.book refl refl refl refl refl refl;
  through = λ x y z. keeps_then x.book y.book z.book;
  hears = λ f x. happens_keeps now (Read f most_read) x;
  done = λ f x. keeps_quietly x.book (done_with f x.book) (done_quiet f x.book);
  takes = λ f p x. piece_keeps f p x.book;
  swept = λ x. keeps_quietly x.book (sweep x.endpoint.state.host x.book) (sweep_quiet x.endpoint.state.host x.book);
}

pub end_keeps : (now : ℕ) (x : Node) → Keeps x.book (turn_end now x).book
end_keeps now x = end_kept now (λ (u v : Node). Keeps u.book v.book) (keeping now) (λ moment u. keeps_quietly u.book (judge moment u.book) (judge_quiet moment u.book)) x

pub turn_keeps : (now : ℕ) (event : Event (Unit {0})) (x : Node) → Keeps x.book (turn now event x).book
turn_keeps now event x = keeps_then x.book (happens now event x).book _ (happens_keeps now event x) (end_keeps now (happens now event x))
