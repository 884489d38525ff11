-- What a listener hands on is what the visitor after it sees.
use Rattle.std.proofs.Common.{◌≡◌, ◌∙◌, ℕ, List, Result, Ok, Err, ap, inl, inr, sym}
use Rattle.std.specs.Prelude.{OnOk}
use Rattle.dt_reports.specs.Told.{Told}
use Rattle.dt_world_model.specs.Host.{Host}
use Rattle.dt_world_model.specs.Relay.{Parcel}
use Rattle.dt_world_model.specs.Script.{Ask, Concludes, Done, Hand, Plays, Script, Stops, Tell}
use Rattle.dt_turn.specs.declared.packet_answers.Listener.{Listener}
use Rattle.dt_turn.specs.Hearing.{heard_in, listens_fails, listens_hands, listens_tags, listens_tells}

module _ {V : Type 0} (tells : V → Told → V → Type 0) (tags : V → Host → List ℕ → Unit {0} → V → Type 0) (hands : V → ℕ → Parcel (Unit {0}) → V → Type 0) (fails : V → V → Type 0) where
  played : {A : Type 0} (script : Script (Unit {0}) A) (s t : Listener V) (b : A) → Plays (listens_tells tells) (listens_tags tags) (listens_hands hands) script s t b → Plays tells tags hands script s.visitor.now t.visitor.now b
  played (Done a) s t b p = (ap (λ (l : Listener V). l.visitor.now) p.0, p.1)
  played (Tell r k) s t b p = (p.0.visitor.now, p.1.0, played k p.0 t b p.2)
  played (Ask host octets k) s t b p = (p.0.visitor.now, p.1, p.2.0, played (k p.1) p.0 t b p.3)
  played (Hand link parcel k) s t b p = (p.0.visitor.now, p.1.0, played k p.0 t b p.2)

  -- and what it has heard in the end is what is heard in the script
  heard_then : {A : Type 0} (script : Script (Unit {0}) A) (s t : Listener V) (b : A) → Plays (listens_tells tells) (listens_tags tags) (listens_hands hands) script s t b → t.heard ≡ heard_in script s.heard
  heard_then (Done a) s t b p = sym (ap (λ (l : Listener V). l.heard) p.0)
  heard_then (Tell r k) s t b p = heard_then k p.0 t b p.2 ∙ ap (heard_in k) p.1.1
  heard_then (Ask host octets k) s t b p = heard_then (k tt) p.0 t b p.3 ∙ ap (heard_in (k tt)) p.2.1
  heard_then (Hand link parcel k) s t b p = heard_then k p.0 t b p.2 ∙ ap (heard_in k) p.1.1

  stopped : {A : Type 0} (script : Script (Unit {0}) A) (s t : Listener V) → Stops (listens_tells tells) (listens_tags tags) (listens_hands hands) (listens_fails fails) script s t → Stops tells tags hands fails script s.visitor.now t.visitor.now
  stopped (Done a) s t p = ap (λ (l : Listener V). l.visitor.now) p
  stopped (Tell r k) s t (inl p) = inl (ap (λ (l : Listener V). l.visitor.now) p)
  stopped (Tell r k) s t (inr p) = inr (p.0.visitor.now, p.1.0, stopped k p.0 t p.2)
  stopped (Ask host octets k) s t (inl p) = inl (ap (λ (l : Listener V). l.visitor.now) p)
  stopped (Ask host octets k) s t (inr p) = inr (p.0.visitor.now, p.1, p.2.0, stopped (k p.1) p.0 t p.3)
  stopped (Hand link parcel k) s t (inl p) = inl (ap (λ (l : Listener V). l.visitor.now) p)
  stopped (Hand link parcel k) s t (inr (inl p)) = inr (inl p.0)
  stopped (Hand link parcel k) s t (inr (inr p)) = inr (inr (p.0.visitor.now, p.1.0, stopped k p.0 t p.2))

  pub ended : {A U E : Type 0} (result : Result U E) (script : Script (Unit {0}) A) (s t : Listener V) (b : A) → Concludes (listens_tells tells) (listens_tags tags) (listens_hands hands) (listens_fails fails) result script s t b → Concludes tells tags hands fails result script s.visitor.now t.visitor.now b
  ended (Ok done) script s t b h = played script s t b h
  ended (Err e) script s t b h = stopped script s t h

  pub heard_if : {A U E : Type 0} (result : Result U E) (script : Script (Unit {0}) A) (s t : Listener V) (b : A) → Concludes (listens_tells tells) (listens_tags tags) (listens_hands hands) (listens_fails fails) result script s t b → OnOk result (t.heard ≡ heard_in script s.heard)
  heard_if (Ok done) script s t b h = heard_then script s t b h
  heard_if (Err e) script s t b h = tt

  -- it is the same visitor
  name_played : {A : Type 0} (script : Script (Unit {0}) A) (s t : Listener V) (b : A) → Plays (listens_tells tells) (listens_tags tags) (listens_hands hands) script s t b → t.visitor.ghost_name ≡ s.visitor.ghost_name
  name_played (Done a) s t b p = sym (ap (λ (l : Listener V). l.visitor.ghost_name) p.0)
  name_played (Tell r k) s t b p = name_played k p.0 t b p.2 ∙ p.1.2
  name_played (Ask host octets k) s t b p = name_played (k p.1) p.0 t b p.3 ∙ p.2.2
  name_played (Hand link parcel k) s t b p = name_played k p.0 t b p.2 ∙ p.1.2

  name_stopped : {A : Type 0} (script : Script (Unit {0}) A) (s t : Listener V) → Stops (listens_tells tells) (listens_tags tags) (listens_hands hands) (listens_fails fails) script s t → t.visitor.ghost_name ≡ s.visitor.ghost_name
  name_stopped (Done a) s t p = sym (ap (λ (l : Listener V). l.visitor.ghost_name) p)
  name_stopped (Tell r k) s t (inl p) = sym (ap (λ (l : Listener V). l.visitor.ghost_name) p)
  name_stopped (Tell r k) s t (inr p) = name_stopped k p.0 t p.2 ∙ p.1.2
  name_stopped (Ask host octets k) s t (inl p) = sym (ap (λ (l : Listener V). l.visitor.ghost_name) p)
  name_stopped (Ask host octets k) s t (inr p) = name_stopped (k p.1) p.0 t p.3 ∙ p.2.2
  name_stopped (Hand link parcel k) s t (inl p) = sym (ap (λ (l : Listener V). l.visitor.ghost_name) p)
  name_stopped (Hand link parcel k) s t (inr (inl p)) = p.1
  name_stopped (Hand link parcel k) s t (inr (inr p)) = name_stopped k p.0 t p.2 ∙ p.1.2

  pub same_visitor : {A U E : Type 0} (result : Result U E) (script : Script (Unit {0}) A) (s t : Listener V) (b : A) → Concludes (listens_tells tells) (listens_tags tags) (listens_hands hands) (listens_fails fails) result script s t b → t.visitor.ghost_name ≡ s.visitor.ghost_name
  same_visitor (Ok done) script s t b h = name_played script s t b h
  same_visitor (Err e) script s t b h = name_stopped script s t h
