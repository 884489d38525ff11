use Rattle.std.proofs.Common.{◌≡◌, ◌∙◌, Some, None, ap, nat_eq, refl, subst}
use Rattle.std.specs.Map.{lookup}
use Rattle.dt_world_model.specs.World.{placed}
use Rattle.dt_world.specs.declared.world_parts.WorldParts.{WorldParts}
use Rattle.dt_world.specs.Worlds.{WorldValue, world_seen}
use Rattle.dt_world.proofs.StationTables.{life_at}
use Rattle.dt_world.proofs.worlds.World.life.Goals as goal

pub returns-in-Some : goal.returns-in-Some
returns-in-Some c =
    subst (λ (v : WorldValue). c.in-Some.placed.now.life ≡ (placed v.state c.args.station.0).life) c.self.view_is
    (life_at (world_seen c.self.inside.parts.value) c.args.station.0 c.self.inside.parts.value.stations.entries (Some c.in-Some.placed.now) refl (c.in-Some.ensures.value ∙ ap (λ (p : WorldParts). lookup (nat_eq c.args.station.0) p.stations.entries) c.deref.ensures))

pub returns-in-None : goal.returns-in-None
returns-in-None c =
    subst (λ (v : WorldValue). 0 ≡ (placed v.state c.args.station.0).life) c.self.view_is
    (life_at (world_seen c.self.inside.parts.value) c.args.station.0 c.self.inside.parts.value.stations.entries None refl (c.in-None.ensures.value ∙ ap (λ (p : WorldParts). lookup (nat_eq c.args.station.0) p.stations.entries) c.deref.ensures))
