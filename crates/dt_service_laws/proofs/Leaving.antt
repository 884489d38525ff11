-- What a turn that found no memory leaves beside the endpoint: its ports and its life, and it is closed.
use Rattle.std.proofs.Common.{ℕ, ◌≡◌, true, [], Option, Some, None, take, refl, ap, ◌∙◌}
use Rattle.dt_reports.specs.declared.faults.Refusal.{Refusal}
use Rattle.dt_units.specs.declared.endpoints.Flow.{Flow}
use Rattle.dt_world_model.specs.Station.{Event}
use Rattle.dt_endpoint.specs.Endpoints.{after_event}
use Rattle.dt_service_model.specs.declared.names.Token.{Token}
use Rattle.dt_service_model.specs.Asked.{forgotten_unless, with_call_unless}
use Rattle.dt_service_model.specs.CallBook.{CallBook}
use Rattle.dt_service_model.specs.Stopping.{EventStops, breaks_off, hears_part}
use Rattle.dt_service_model.specs.Turns.{Node}
use Rattle.dt_service_laws.specs.Premises.{BreaksBy}
use Rattle.dt_service_laws.specs.Services.{Deed}
use Rattle.dt_service_model.proofs.Halting.{Any}
use Rattle.dt_service_laws.proofs.Halting.{IsKeptByDeeds, halts}
use Rattle.dt_service_laws.proofs.Keeping.{Keeps, happens_keeps, keeping}
use Rattle.dt_service_laws.proofs.Quiet.{all_heard_quiet}

-- ports and life are as before
pub record Remains (h k : CallBook) : Type 0 where
  pub ports : k.ports ≡ h.ports
  pub life : k.life ≡ h.life

remains : (h : CallBook) → Remains h h
remains h = record { ports = refl; life = refl }

remains_then : (h k l : CallBook) → Remains h k → Remains k l → Remains h l
remains_then h k l p q = record { ports = q.ports ∙ p.ports; life = q.life ∙ p.life }

remains_kept : (h k : CallBook) → Keeps h k → Remains h k
remains_kept h k keeps = record { ports = keeps.ports; life = keeps.life }

call_remains : (o : Option Refusal) (f : Flow) (count deadline : ℕ) (h : CallBook) → Remains h (with_call_unless o f count deadline h)
call_remains None f count deadline h = record { ports = refl; life = refl }
call_remains (Some r) f count deadline h = remains h

reply_remains : (o : Option Refusal) (token : Token) (h : CallBook) → Remains h (forgotten_unless o token h)
reply_remains None token h = record { ports = refl; life = refl }
reply_remains (Some r) token h = remains h

event_remains : (now : ℕ) (event : Event (Unit {0})) (x st : Node) → EventStops now event x st → Remains x.book st.book
event_remains now event x st (breaks_off e b is) = record { ports = ap (λ (y : Node). y.book.ports) is; life = ap (λ (y : Node). y.book.life) is }
event_remains now event x st (hears_part count is) =
    let quiet = all_heard_quiet (take count (after_event now event x.endpoint).reports) x.book in
    record { ports = ap (λ (y : Node). y.book.ports) is ∙ quiet.ports; life = ap (λ (y : Node). y.book.life) is ∙ quiet.life }

remaining : IsKeptByDeeds (λ (x y : Node). Remains x.book y.book) Any
remaining = record {
  turns = record {
    kept = λ now. record {
      itself = λ x. remains x.book;
      through = λ x y z. remains_then x.book y.book z.book;
      hears = λ f x. remains_kept x.book _ ((keeping now).hears f x);
      done = λ f x. remains_kept x.book _ ((keeping now).done f x);
      takes = λ f p x. remains_kept x.book _ ((keeping now).takes f p x);
      swept = λ x. remains_kept x.book _ ((keeping now).swept x);
    };
    reads = λ now f x. tt;
    hears = λ now event x may. remains_kept x.book _ (happens_keeps now event x);
    stops = λ now event x st may stops. event_remains now event x st stops;
    lost = λ begun counts x. record { ports = refl; life = refl };
  };
  calls = λ o f count deadline x. call_remains o f count deadline x.book;
  forgets = λ o token x. reply_remains o token x.book;
}

-- WHAT IS LEFT
pub record Leaves (h k : CallBook) : Type 0 where
  pub ports : k.ports ≡ h.ports
  pub life : k.life ≡ h.life
  pub tokens : k.tokens ≡ []
  pub closed : k.closed ≡ true

pub broken_leaves : (deed : Deed) (x y : Node) → BreaksBy deed x y → Leaves x.book y.book
broken_leaves deed x y b =
    let h = halts (λ (u v : Node). Remains u.book v.book) Any remaining deed x y (λ event own. tt) b in
    record {
      ports = ap (λ (z : Node). z.book.ports) h.closed ∙ h.part.ports;
      life = ap (λ (z : Node). z.book.life) h.closed ∙ h.part.life;
      tokens = ap (λ (z : Node). z.book.tokens) h.closed;
      closed = ap (λ (z : Node). z.book.closed) h.closed;
    }
