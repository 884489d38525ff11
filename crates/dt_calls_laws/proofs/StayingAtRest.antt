-- Where no time passes, a station that rests goes on to rest.
use Rattle.std.proofs.Common.{ℕ, ◌+◌, ◌≡◌, ◌==◌, Bool, true, false, List, [], ◌∷◌, map, MatchBool, Option, Some, None, refl, ap, sym, subst, ◌∙◌, inl, inr}
use Rattle.std.specs.Prelude.{unwrap_or}
use Rattle.std.proofs.lemmas.Bool.{cases_Bool}
use Rattle.dt_units.specs.Limits.{IsWithinLimits}
use Rattle.dt_flow_model.specs.Frames.{Mark}
use Rattle.dt_world_model.specs.Relay.{Out, empty_out, leave}
use Rattle.dt_world_model.specs.Script.{play}
use Rattle.dt_world_model.specs.Station.{Arrive, Event, Read, Send, Tick, station_event}
use Rattle.dt_world_model.specs.Tables.{look, write}
use Rattle.dt_world_model.specs.World.{Placed, World, world_handler}
use Rattle.dt_world_model.specs.WorldFacts.{CanHappen, IsPossible, WorldFacts}
use Rattle.dt_world_model.specs.WorldStep.{Arrives, Loses, Passes, Reads, Restarts, Sends, Ticks, WorldEvent, after_event, copy_at, event_at, first_refusal, link_for, noted_at, occasion, refusals, restart_at, restarted}
use Rattle.dt_world_model.proofs.Tables.{look_write, look_write_other, nat_is, nat_self}
use Rattle.dt_world_laws.proofs.Worlds.{copy_can_come}
use Rattle.dt_calls_model.specs.Rests.{LinkRests, Rests, RestsIn}
use Rattle.dt_calls_laws.specs.NoPass.{IsNoPass}
use Rattle.dt_calls_laws.proofs.Ended.{rests_after}

-- THE STATIONS, where one is written: it rests, or it is another, that did.
abbrev RestsAt : World → List (ℕ × Placed) → ℕ → Type 0
RestsAt w stations m = (at : Placed) → look ◌==◌ m stations ≡ Some at → Rests w.params (w.now + at.zero) at.station

pub is_written : (m : ℕ) (new at : Placed) (es : List (ℕ × Placed)) → look ◌==◌ m (write ◌==◌ m new es) ≡ Some at → new ≡ at
is_written m new at es h = ap (λ (o : Option Placed). unwrap_or o new) (sym (look_write ℕ Placed ◌==◌ nat_self nat_is m new es) ∙ h)

written_rests : (w : World) (n m : ℕ) (new : Placed) → Rests w.params (w.now + new.zero) new.station → RestsIn w m → RestsAt w (write ◌==◌ n new w.stations) m
written_rests w n m new rests h at there =
    elim (cases_Bool (n == m)) [
      | inl y ↦ subst (λ (a : Placed). Rests w.params (w.now + a.zero) a.station) (is_written m new at w.stations (subst (λ (k : ℕ). look ◌==◌ m (write ◌==◌ k new w.stations) ≡ Some at) (nat_is n m y) there)) rests
      | inr o ↦ h at (sym (look_write_other ℕ Placed ◌==◌ nat_self nat_is m n new w.stations o) ∙ there)
    ]

-- A RESTART leaves no act, and no packet.
either_way : (b : Bool) (P Q : Type 0) → P → Q → MatchBool b P Q
either_way true P Q p q = p
either_way false P Q p q = q

emptied_rest : (now link : ℕ) (outs : List (Out Mark)) → LinkRests {T = Mark} now link (map (λ (o : Out Mark). empty_out {T = Mark} o.link o.pace) outs)
emptied_rest now link [] = tt
emptied_rest now link (out ∷ outs) = either_way (out.link == link) ((leave now (empty_out {T = Mark} out.link out.pace)).0 ≡ None) (LinkRests {T = Mark} now link (map (λ (o : Out Mark). empty_out {T = Mark} o.link o.pace) outs)) refl (emptied_rest now link outs)

restarted_rests : (w : World) (at : Placed) → Rests w.params (w.now + at.zero) (restarted w.params w.now at).station
restarted_rests w at = record { acts = refl; links = λ link. emptied_rest (w.now + at.zero) link at.station.relay.outs }

module _ (w : World) (limits : IsWithinLimits w.params) (facts : WorldFacts w) (m : ℕ) (h : RestsIn w m) where
  event_rests : (n : ℕ) (e : Event Mark) (o : Option Placed) → look ◌==◌ n w.stations ≡ o → ((at : Placed) → look ◌==◌ n w.stations ≡ Some at → IsPossible w n e) → RestsIn (event_at w n e o).1 m
  event_rests n e None is can = h
  event_rests n e (Some at) is can =
      let r = play (world_handler (occasion w n e)) (station_event w.params (w.now + at.zero) e at.station) (noted_at w) in
      written_rests w n m (record { zero = at.zero; life = at.life; station = r.1 }) (rests_after w n at e limits facts is (can at is)) h

  restart_rests : (n : ℕ) (o : Option Placed) → RestsIn (restart_at w n o).1 m
  restart_rests n None = h
  restart_rests n (Some at) = written_rests w n m (restarted w.params w.now at) (restarted_rests w at) h

  pub stays_at_rest : (e : WorldEvent) → IsNoPass e → CanHappen e → first_refusal (refusals w e) ≡ None → RestsIn (after_event w e).1 m
  stays_at_rest (Passes by) np can clear = absurd np
  stays_at_rest (Sends f octets begin end) np can clear = event_rests f.from.0 (Send f octets begin end) (look ◌==◌ f.from.0 w.stations) refl (λ at there. (can, refl))
  stays_at_rest (Reads f most) np can clear = event_rests f.to.0 (Read f most) (look ◌==◌ f.to.0 w.stations) refl (λ at there. (can, refl))
  stays_at_rest (Ticks n) np can clear = event_rests n Tick (look ◌==◌ n w.stations) refl (λ at there. tt)
  stays_at_rest (Arrives k) np can clear = event_rests (link_for w k).to (Arrive (copy_at w k).link (copy_at w k).parcel) (look ◌==◌ (link_for w k).to w.stations) refl (λ at there. copy_can_come w limits facts k at clear there)
  stays_at_rest (Loses k) np can clear = h
  stays_at_rest (Restarts n) np can clear = restart_rests n (look ◌==◌ n w.stations)
