-- The world as its callers see it, and what is kept of its parts.
use Rattle.std.specs.Prelude.{ℕ, ◌+◌, ◌≤◌, ◌≡◌, false, Bool, List, [], ◌∷◌}
use Rattle.dt_units.specs.declared.parameters.Params.{Params}
use Rattle.dt_units.specs.Limits.{IsWithinLimits}
use Rattle.dt_world_model.specs.Relay.{emptied, new_relay}
use Rattle.dt_world_model.specs.Tables.{AllEntries}
use Rattle.dt_world_model.specs.World.{Placed, World}
use Rattle.dt_world_model.specs.WorldFacts.{WorldFacts}
use Rattle.dt_world.specs.declared.placed_stations.PlacedStation.{PlacedStation}
use Rattle.dt_world.specs.declared.world_parts.WorldParts.{WorldParts}
use Rattle.dt_notes.specs.Notes.{ledgers_seen}
use Rattle.dt_notes.specs.Setups.{AreNumbered, links_of}
use Rattle.dt_notes.specs.Moments.{most_now}

pub record WorldValue : Type 0 where
  pub state : World
  -- a step found no memory: the world is used no more
  pub spent : Bool

abbrev pub placed_seen : PlacedStation → Placed
placed_seen s = record { zero = s.zero; life = s.life; station = s.station.state }

abbrev pub stations_seen : List (ℕ × PlacedStation) → List (ℕ × Placed)
stations_seen [] = []
stations_seen (e ∷ es) = (e.0, placed_seen e.1) ∷ stations_seen es

abbrev pub world_seen : WorldParts → World
world_seen w =
    record {
      params = w.rules;
      now = w.now;
      stations = stations_seen w.stations.entries;
      links = links_of w.links.entries;
      copies = w.notes.copies;
      ledgers = ledgers_seen w.notes;
    }

-- A station of a world that isn't spent has the world's rules, its node's number, and knows no moment that is to come.
pub record IsStationOf (p : Params) (now : ℕ) (n : ℕ) (s : PlacedStation) : Type 0 where
  pub rules : s.station.rules ≡ p
  pub unspent : s.station.spent ≡ false
  pub past : s.station.latest ≤ now + s.zero
  -- its relay has the links and routes of its plan
  pub relay : emptied s.station.state.relay ≡ new_relay s.plan.outs.items s.plan.ins.items s.plan.routes.items

-- THE PARTS OF A WORLD that isn't spent
pub record IsWhole (w : WorldParts) : Type 0 where
  pub limits : IsWithinLimits w.rules
  pub moment : w.now ≤ most_now
  pub numbers : AreNumbered w.links.entries
  pub stations : AllEntries (IsStationOf w.rules w.now) w.stations.entries
  pub facts : WorldFacts (world_seen w)
