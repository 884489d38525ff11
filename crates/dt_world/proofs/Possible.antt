-- What an event of a world needs it has: octets may be sent, and a copy that comes is as it was put.
use Rattle.std.proofs.Common.{ℕ, ◌+◌, ◌<◌, ◌≤◌, ◌≡◌, ◌≢◌, ◌==◌, List, length, Option, Some, None, refl, sym, ap, subst, ◌∙◌, arith}
use Rattle.std.specs.Prelude.{option_map}
use Rattle.dt_units.specs.declared.endpoints.Flow.{Flow}
use Rattle.dt_reports.specs.Entries.{Entry}
use Rattle.dt_flow_model.specs.Acting.{record_for}
use Rattle.dt_flow_model.specs.Keeping.{octets_below, taken_by}
use Rattle.dt_flow_model.specs.SendRecord.{SendRecord}
use Rattle.dt_flow_laws.proofs.Records.{taken_is_counted}
use Rattle.dt_flow_laws.proofs.SafeOf.{safe_of}
use Rattle.dt_world_model.specs.Host.{sender_at}
use Rattle.dt_world_model.specs.Ledgers.{ledger_of}
use Rattle.dt_world_model.specs.Tables.{look}
use Rattle.dt_flow_model.specs.Frames.{Mark}
use Rattle.dt_world_model.specs.Station.{Event, station_event}
use Rattle.dt_world_model.specs.World.{Noted, Placed, World, placed, view}
use Rattle.dt_world_model.specs.WorldStep.{noted_at, occasion}
use Rattle.dt_world_model.specs.WorldFacts.{IsPlaced, SafeLedgers}
use Rattle.dt_world_model.proofs.Tables.{all_look, nat_is, nat_self}
use Rattle.dt_world_laws.proofs.Sending.{settle_bounded}
use Rattle.dt_world_laws.proofs.Worlds.{placed_is}
use Rattle.dt_station.specs.Events.{MaySend}
use Rattle.dt_world.specs.declared.world_parts.WorldParts.{WorldParts}
use Rattle.dt_world.specs.declared.placed_stations.PlacedStation.{PlacedStation}
use Rattle.dt_world.specs.Outcomes.{HasStopped}
use Rattle.dt_world.specs.Stopping.{CameTo, ComesAt}
use Rattle.dt_world.specs.Worlds.{IsWhole, placed_seen, stations_seen, world_seen}
use Rattle.dt_notes.proofs.SetupTables.{look_keyed}
use Rattle.dt_world.proofs.StationTables.{look_seen}
use Rattle.dt_world.proofs.Stopping.{all_kept, first_on_the_way}

-- a station by its number in the map and in the definition's table
pub station_there : (n : ℕ) (s : PlacedStation) (es : List (ℕ × PlacedStation)) → look ◌==◌ n es ≡ Some s → look ◌==◌ n (stations_seen es) ≡ Some (placed_seen s)
station_there n s es h = look_seen n es ∙ ap (λ (o : Option PlacedStation). option_map placed_seen o) (look_keyed PlacedStation n es ∙ h)

module _ (parts : WorldParts) (whole : IsWhole parts) where
  abbrev w : World
  w = world_seen parts

  module _ (n : ℕ) (s : PlacedStation) (found : look ◌==◌ n parts.stations.entries ≡ Some s) where
    pub there : look ◌==◌ n w.stations ≡ Some (placed_seen s)
    there = station_there n s parts.stations.entries found

    pub is_placed : IsPlaced w.params w.now (view w) n (placed_seen s)
    is_placed = all_look ℕ Placed ◌==◌ nat_self nat_is (IsPlaced w.params w.now (view w)) n (placed_seen s) w.stations there whole.facts.stations

  -- OCTETS MAY BE SENT where the flow takes fewer than can be counted
  taken_counted : (f : Flow) (at : Placed) (now : ℕ) (o : Option SendRecord) → placed w f.from.0 ≡ at → sender_at at.station.host f ≡ o → taken_by (record_for w.params now o) ≤ length (ledger_of w.ledgers f).taken
  taken_counted f at now None here is = omega arith
  taken_counted f at now (Some x) here is = taken_is_counted w.params (view w f) x (ap (λ (k : Placed). sender_at k.station.host f) here ∙ is) (whole.facts.flows f)

  pub may_send : (f : Flow) (count : ℕ) → f.from.0 ≢ f.to.0 → 1 ≤ count → length (ledger_of w.ledgers f).taken + count < octets_below
      → (s : PlacedStation) → look ◌==◌ f.from.0 parts.stations.entries ≡ Some s → MaySend parts.rules (parts.now + s.zero) s.station.state f count
  may_send f count apart some few s found =
      let at = is_placed f.from.0 s found in
      let here : placed w f.from.0 ≡ placed_seen s = placed_is w f.from.0 (placed_seen s) (there f.from.0 s found) whole.facts in
      let counted = taken_counted f (placed_seen s) (parts.now + s.zero) (sender_at s.station.state.host f) here refl in
      record {
        from = sym at.me;
        to = λ e. apart (sym (e ∙ at.me));
        some = some;
        counted = settle_bounded w.params (parts.now + s.zero) f whole.limits count octets_below s.station.state at.host (omega (arith, counted, few));
      }

  -- WHERE NOTHING IS DONE for want of memory, nothing was told, and the world is what it was
  pub safe_now : SafeLedgers w w.ledgers
  safe_now f = (safe_of w.params (view w f) (whole.facts.flows f)).ledger

  pub stopped_at_once : {L : Type 0} (tells : L → Entry → L → Type 0) (comes : Noted → Type 0) (r : List Entry × World) (v : L) (world : World) → comes (noted_at w) → world ≡ w → HasStopped tells w comes r v v world
  stopped_at_once tells comes r v world here is =
      subst (λ (u : World). HasStopped tells w comes r v v u) (sym is)
      (record {
        noted = noted_at w;
        comes_to = here;
        rest = r.0;
        told = refl;
        lines = refl;
        has_noted = record { params = refl; now = refl; links = refl; copies = refl; ledgers = refl; lives = λ n. refl; zeros = λ n. refl };
        kept = all_kept w.ledgers w.ledgers refl;
        safe = safe_now;
      })

  -- nothing of an event at a station was done
  pub not_begun : (n : ℕ) (e : Event Mark) → ComesAt w n e (noted_at w)
  not_begun n e = at_first (look ◌==◌ n w.stations)
    where
      at_first : (o : Option Placed) → CameTo w n e o (noted_at w)
      at_first None = refl
      at_first (Some at) = first_on_the_way (occasion w n e) (station_event w.params (w.now + at.zero) e at.station) (noted_at w)
