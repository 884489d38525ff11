use Rattle.std.proofs.Common.{ap, is_some, ◌∙◌}
use Rattle.dt_world_model.specs.Relay.{route_to}
use Rattle.dt_world_model.specs.Setup.{Setup, routes_of}
use Rattle.dt_notes.proofs.SetupTables.{way_found}
use Rattle.dt_notes.proofs.setups.Setup.has_route.Goals as goal

pub returns : goal.returns
returns c =
    c.contains_key.ensures ∙ way_found c.args.at c.args.to c.self.inside.ways.entries
    ∙ ap (λ (s : Setup). is_some (route_to c.args.to (routes_of c.args.at s.routes))) c.self.view_is
