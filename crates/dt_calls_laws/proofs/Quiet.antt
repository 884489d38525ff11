-- A read and a send of the world leave at rest what rests, and nothing becomes unread. The reader rests after its read.
use Rattle.std.proofs.Common.{ℕ, ◌+◌, ◌≡◌, ◌==◌, Bool, true, false, List, [], drop, Option, Some, None, refl, ap, sym, subst, ◌∙◌}
use Rattle.std.proofs.Math.Seq.{drop-nil}
use Rattle.dt_units.specs.declared.endpoints.Flow.{Flow}
use Rattle.dt_units.specs.Flows.{IsFlow}
use Rattle.dt_units.specs.Limits.{IsWithinLimits}
use Rattle.dt_world_model.specs.Script.{play}
use Rattle.dt_world_model.specs.Station.{Read, station_event}
use Rattle.dt_world_model.specs.Tables.{look, same_flow}
use Rattle.dt_world_model.specs.World.{Placed, World, view, world_handler}
use Rattle.dt_world_model.specs.WorldFacts.{WorldFacts}
use Rattle.dt_world_model.specs.WorldStep.{Reads, Sends, after_event, event_at, first_refusal, noted_at, occasion, refusals}
use Rattle.dt_world_model.proofs.Tables.{flow_is}
use Rattle.dt_calls_model.specs.Rests.{Rests, RestsIn}
use Rattle.dt_calls_laws.specs.Calm.{count_read}
use Rattle.dt_calls_laws.specs.Onward.{StaysQuiet}
use Rattle.dt_calls_laws.proofs.Calm.{other_unread, read_unread, send_unread}
use Rattle.dt_calls_laws.proofs.Ended.{rests_after}
use Rattle.dt_calls_laws.proofs.StayingAtRest.{is_written, stays_at_rest}

pub quiet_same : (w : World) → StaysQuiet w w
quiet_same w = record { rests = λ m h. h; read = λ g h. h }

pub quiet_then : (w mid after : World) → StaysQuiet w mid → StaysQuiet mid after → StaysQuiet w after
quiet_then w mid after h k = record { rests = λ m r. k.rests m (h.rests m r); read = λ g r. k.read g (h.read g r) }

module _ (w : World) (limits : IsWithinLimits w.params) (facts : WorldFacts w) where
  pub send_quiet : (f : Flow) (octets : List ℕ) (begin end : Bool) (at : Placed) → IsFlow f → look ◌==◌ f.from.0 w.stations ≡ Some at → first_refusal (refusals w (Sends f octets begin end)) ≡ None → StaysQuiet w (after_event w (Sends f octets begin end)).1
  send_quiet f octets begin end at flow there clear = record {
    rests = λ m h. stays_at_rest w limits facts m h (Sends f octets begin end) tt flow clear;
    read = λ g h. send_unread w limits facts f octets begin end at flow there g ∙ h;
  }

  module _ (f : Flow) (most : ℕ) (at : Placed) (flow : IsFlow f) (there : look ◌==◌ f.to.0 w.stations ≡ Some at) where
    still_read : (b : Bool) (g : Flow) → same_flow f g ≡ b → (view w g).unread ≡ [] → (view (after_event w (Reads f most)).1 g).unread ≡ []
    still_read true g e h =
        let same : f ≡ g = flow_is f g e in
        subst (λ (k : Flow). (view (after_event w (Reads f most)).1 k).unread ≡ []) same
        (read_unread w limits facts f most at flow there ∙ ap (drop (count_read w f most)) (subst (λ (k : Flow). (view w k).unread ≡ []) (sym same) h) ∙ drop-nil (count_read w f most))
    still_read false g e h = other_unread w limits facts f most at flow there g e ∙ h

    pub read_quiet : first_refusal (refusals w (Reads f most)) ≡ None → StaysQuiet w (after_event w (Reads f most)).1
    read_quiet clear = record {
      rests = λ m h. stays_at_rest w limits facts m h (Reads f most) tt flow clear;
      read = λ g h. still_read (same_flow f g) g refl h;
    }

    pub reader_rests : RestsIn (after_event w (Reads f most)).1 f.to.0
    reader_rests =
        let r = play (world_handler (occasion w f.to.0 (Read f most))) (station_event w.params (w.now + at.zero) (Read f most) at.station) (noted_at w) in
        let new : Placed = record { zero = at.zero; life = at.life; station = r.1 } in
        subst (λ (o : Option Placed). RestsIn (event_at w f.to.0 (Read f most) o).1 f.to.0) (sym there)
        (λ a found. subst (λ (b : Placed). Rests w.params (w.now + b.zero) b.station) (is_written f.to.0 new a w.stations found) (rests_after w f.to.0 at (Read f most) limits facts there (flow, refl)))
