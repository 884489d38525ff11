use Rattle.std.proofs.Common.{◌≡◌, ℕ, false, Bool, IsTrue, List, refl, sym, ap, subst, ◌∙◌}
use Rattle.dt_reports.specs.Told.{Told}
use Rattle.dt_world_model.specs.Host.{Host}
use Rattle.dt_world_model.specs.Relay.{Parcel}
use Rattle.dt_world_model.specs.Script.{Handler}
use Rattle.dt_world_laws.proofs.Visiting.{Follows, Goes, along_at, plays_play, stops_at}
use Rattle.dt_world_laws.proofs.visits.visitor_ends_where_the_play_ends.Goals as goal

module _ {S T : Type 0} (handler : Handler S T) where
  abbrev tells : S → Told → S → Type 0
  tells x r y = y ≡ handler.tell r x

  abbrev tags : S → Host → List ℕ → T → S → Type 0
  tags x host octets t y = (y ≡ x) × (t ≡ handler.tag host octets x)

  abbrev hands : S → ℕ → Parcel T → S → Type 0
  hands x link parcel y = y ≡ handler.hand link parcel x

  abbrev fails : S → S → Type 0
  fails x y = y ≡ x

  abbrev fine : S → Bool
  fine x = false

  abbrev sees : S → S → Type 0
  sees x s = x ≡ s

  goes : (x y s after : S) → y ≡ after → Goes tells tags hands fails fine sees handler x y s after
  goes x y s after e = record { done = λ _. (refl, e); not = λ b. absurd (cc) }

  follows : Follows tells tags hands fails fine sees handler
  follows = record {
    tell = λ v w r s h e. goes v w s (handler.tell r s) (h ∙ ap (handler.tell r) e);
    tag = λ v w host octets t s h e. record { seen = h.0 ∙ e; told = λ _. (refl, h.1 ∙ ap (handler.tag host octets) e) };
    hand = λ v w link p s h e. goes v w s (handler.hand link p s) (h ∙ ap (handler.hand link p) e);
    fail = λ v w s h e. h ∙ e;
  }

-- src/visits.rt
pub returns-clause-ends : goal.returns-clause-ends
returns-clause-ends c s = λ handler script v w b h. let k = plays_play (tells handler) (tags handler) (hands handler) (fails handler) (fine handler) (sees handler) handler (follows handler) script v w b v h refl refl in (sym k.0, k.1)

-- src/visits.rt
pub returns-clause-stops : goal.returns-clause-stops
returns-clause-stops c s = λ handler script v w test along h.
    let k = stops_at (tells handler) (tags handler) (hands handler) (fails handler) (fine handler) (sees handler) handler (follows handler) script v w v h refl in
    subst (λ x. IsTrue (test x)) (sym k.1) (along_at handler (λ x. IsTrue (test x)) script v k.0 along k.2)
