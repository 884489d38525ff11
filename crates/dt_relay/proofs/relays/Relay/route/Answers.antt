use Rattle.std.proofs.Common.{◌≡◌, arith, ap, sym, ◌∙◌, Some, None}
use Rattle.dt_world_model.specs.declared.links.Route.{Route}
use Rattle.dt_relay.proofs.Lookups.{route_by, value_at, value_nowhere, place_within}
use Rattle.dt_relay.proofs.relays.Relay.route.Goals as goal

pub index-requires : goal.index-requires
index-requires g c = omega (arith, c.self.inside.routes.ok.0, place_within (λ (r : Route). r.to) c.args.to c.in-Some.place c.self.inside.routes.items (c.in-Some.ensures ∙ c.self.invariant.by_node c.args.to))

pub returns-in-None : goal.returns-in-None
returns-in-None g c =
    let same : c.self.inside.routes.items ≡ c.args.self.now.routes = ap (λ w. w.routes) c.self.view_is in
    rw (← same) (sym (route_by c.args.to c.self.inside.routes.items ∙ value_nowhere (λ (r : Route). r.to) (λ r. Some r.link) None c.args.to c.self.inside.routes.items (c.in-None.ensures ∙ c.self.invariant.by_node c.args.to)))

pub returns-in-Some : goal.returns-in-Some
returns-in-Some g c =
    let same : c.self.inside.routes.items ≡ c.args.self.now.routes = ap (λ w. w.routes) c.self.view_is in
    rw (← same) (sym (route_by c.args.to c.self.inside.routes.items ∙ value_at (λ (r : Route). r.to) (λ r. Some r.link) None c.args.to c.in-Some.place c.self.inside.routes.items c.index.result.now (c.in-Some.ensures ∙ c.self.invariant.by_node c.args.to) c.index.ensures))
