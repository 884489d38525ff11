-- After its event a station rests.
use Rattle.std.proofs.Common.{ℕ, [], ◌+◌, ◌≡◌, ◌==◌, Option, Some, ap, subst}
use Rattle.std.specs.Prelude.{unwrap_or}
use Rattle.dt_units.specs.Limits.{IsWithinLimits}
use Rattle.dt_flow_model.specs.Frames.{Mark}
use Rattle.dt_world_model.specs.Host.{IsCurrentHost, first_host}
use Rattle.dt_world_model.specs.Relay.{new_relay}
use Rattle.dt_world_model.specs.Script.{play}
use Rattle.dt_world_model.specs.Station.{Event, Station, station_event, station_with}
use Rattle.dt_world_model.specs.Tables.{look}
use Rattle.dt_world_model.specs.World.{Placed, World, placed, world_handler}
use Rattle.dt_world_model.specs.WorldFacts.{IsPossible, WorldFacts}
use Rattle.dt_world_model.specs.WorldStep.{noted_at, occasion}
use Rattle.dt_world_laws.proofs.Alongside.{current_after}
use Rattle.dt_world_laws.proofs.Settles.{answers_play}
use Rattle.dt_calls_model.specs.Rests.{LinksRest, Rests}
use Rattle.dt_calls_laws.proofs.Flushed.{links_rest_after}

pub placed_is : (w : World) (n : ℕ) (at : Placed) → look ◌==◌ n w.stations ≡ Some at → placed w n ≡ at
placed_is w n at there = ap (λ (place : Option Placed). unwrap_or place (record { zero = 0; life = 0; station = station_with (first_host n) (new_relay [] [] []) })) there

pub rests_after : (w : World) (n : ℕ) (at : Placed) (e : Event Mark) → IsWithinLimits w.params → WorldFacts w → look ◌==◌ n w.stations ≡ Some at → IsPossible w n e
    → Rests w.params (w.now + at.zero) (play (world_handler (occasion w n e)) (station_event w.params (w.now + at.zero) e at.station) (noted_at w)).1
rests_after w n at e limits facts there can =
    record {
      acts = subst (λ (a : Placed). IsCurrentHost w.params (w.now + a.zero) (play (world_handler (occasion w n e)) (station_event w.params (w.now + a.zero) e a.station) (noted_at w)).1.host) (placed_is w n at there) (current_after w n at e limits facts there can);
      links = answers_play (world_handler (occasion w n e)) (λ (after : Station Mark). LinksRest (w.now + at.zero) after.relay.outs) (station_event w.params (w.now + at.zero) e at.station) (noted_at w) (links_rest_after (w.now + at.zero) w.params e at.station);
    }
