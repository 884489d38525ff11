-- What holds from a node to the one at which what was asked of it stopped for want of memory.
use Rattle.std.proofs.Common.{ℕ, ◌+◌, ◌≡◌, true, length, Option, None, refl}
use Rattle.dt_reports.specs.declared.faults.Refusal.{Refusal}
use Rattle.dt_units.specs.declared.endpoints.Flow.{Flow}
use Rattle.dt_world_model.specs.Station.{Event, Tick}
use Rattle.dt_calls_model.specs.Messages.{message_of, reversed}
use Rattle.dt_endpoint.specs.Calls.{arrive_event, send_answer}
use Rattle.dt_endpoint.specs.Endpoints.{moment_of}
use Rattle.dt_service_model.specs.declared.names.Token.{Token}
use Rattle.dt_service_model.specs.Asked.{forgotten, forgotten_unless, message_event, next_number, with_call_unless}
use Rattle.dt_service_model.specs.Ends.{close}
use Rattle.dt_service_model.specs.Names.{to_u64}
use Rattle.dt_service_model.specs.Stopping.{call_kept, message_of_call, token_dropped}
use Rattle.dt_service_model.specs.Turns.{Node, with_book}
use Rattle.dt_service_model.proofs.Halting.{IsKeptToStop, end_stopped, turn_stopped}
use Rattle.dt_service_laws.specs.Causes.{IsEventOf, moment_told}
use Rattle.dt_service_laws.specs.Premises.{BreaksBy}
use Rattle.dt_service_laws.specs.Services.{Arrives, Closes, CountsFlow, Deed, FindsNoMemory, Forgets, GetsRoute, GivesKind, GivesReply, MakesCall, OpensAgain, PullsFrame, Raises, TakesHappening, Ticks}

-- each move of what is asked keeps it
pub record IsKeptByDeeds (R : Node → Node → Type 0) (May : (now : ℕ) → Event (Unit {0}) → Node → Type 0) : Type 0 where
  pub turns : IsKeptToStop R May
  pub calls : (o : Option Refusal) (f : Flow) (count deadline : ℕ) (x : Node) → R x (with_book (with_call_unless o f count deadline) x)
  pub forgets : (o : Option Refusal) (token : Token) (x : Node) → R x (with_book (forgotten_unless o token) x)

module _ (R : Node → Node → Type 0) (May : (now : ℕ) → Event (Unit {0}) → Node → Type 0) (walk : IsKeptByDeeds R May) where
  -- WHERE A TURN STOPPED the node closed
  pub record Halts (x y : Node) : Type 0 where
    pub stopped : Node
    pub part : R x stopped
    pub closed : y ≡ with_book close stopped

  pub halts : (deed : Deed) (x y : Node) → ((event : Event (Unit {0})) → IsEventOf deed event → May (moment_told deed) event x) → BreaksBy deed x y → Halts x y
  halts (MakesCall now f payload patience) x y may b =
      let message = message_of_call payload x.book in
      record {
        stopped = b.stopped;
        part = turn_stopped R May walk.turns now (message_event f message) (call_kept now f message patience x) x b.stopped (may (message_event f message) (next_number x.book, refl))
            (λ z. walk.calls (send_answer now f message true true x.endpoint) f (length message) (moment_of now x.endpoint + patience) z) b.stops.turn;
        closed = b.closed;
      }
  halts (GivesReply now token payload) x y may b =
      let message = message_of (to_u64 token.number) payload in
      let event = message_event (reversed token.flow) message in
      record {
        stopped = b.stopped;
        part = turn_stopped R May walk.turns now event (token_dropped now token message x) x b.stopped (may event refl) (λ z. walk.forgets (send_answer now (reversed token.flow) message true true x.endpoint) token z) b.stops.turn;
        closed = b.closed;
      }
  halts (Forgets now token) x y may b =
      let z = with_book (forgotten token) x in
      record { stopped = b.stopped; part = (walk.turns.kept now).through x z b.stopped (walk.forgets None token x) (end_stopped R May walk.turns now z b.stopped b.stops.turn); closed = b.closed }
  halts (Ticks now) x y may b = record { stopped = b.stopped; part = turn_stopped R May walk.turns now Tick (λ h. h) x b.stopped (may Tick refl) (λ z. (walk.turns.kept now).itself z) b.stops.turn; closed = b.closed }
  halts (Arrives now link datagram waited) x y may b =
      let event = arrive_event link datagram waited in
      record { stopped = b.stopped; part = turn_stopped R May walk.turns now event (λ h. h) x b.stopped (may event refl) (λ z. (walk.turns.kept now).itself z) b.stops.turn; closed = b.closed }
  halts (GivesKind port kind) x y may b = absurd b
  halts (Raises life) x y may b = absurd b
  halts TakesHappening x y may b = absurd b
  halts PullsFrame x y may b = absurd b
  halts (GetsRoute route answer added) x y may b = absurd b
  halts (CountsFlow flow counted) x y may b = absurd b
  halts Closes x y may b = absurd b
  halts (OpensAgain again options most life) x y may b = absurd b
  halts (FindsNoMemory deed before) x y may b = absurd b
