use Rattle.std.proofs.Common.{is_some, ap, sym, ◌≡◌, ◌∙◌, Option, Some, None, refl}
use Rattle.std.specs.Prelude.{option_map}
use Rattle.dt_world.specs.declared.placed_stations.PlacedStation.{PlacedStation}
use Rattle.dt_world.specs.Worlds.{placed_seen}
use Rattle.dt_world.proofs.StationTables.{look_seen}
use Rattle.dt_world.proofs.refusals.has_station.Goals as goal

still_some : (o : Option PlacedStation) → is_some o ≡ is_some (option_map placed_seen o)
still_some None = refl
still_some (Some s) = refl

pub returns : goal.returns
returns c = c.contains_key.ensures ∙ still_some _ ∙ ap is_some (sym (look_seen c.args.n c.args.parts.now.stations.entries))
