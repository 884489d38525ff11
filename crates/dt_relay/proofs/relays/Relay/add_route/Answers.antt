use Rattle.std.proofs.Common.{◌≡◌, ◌++◌, ◌∙◌, [], ◌∷◌, None, ap, arith, subst, sym}
use Rattle.dt_world_model.specs.declared.links.Route.{Route}
use Rattle.dt_world_model.specs.Relay.{route_to}
use Rattle.dt_relay.proofs.Routes.{leads, leads_others, tells_more, unnamed}
use Rattle.dt_relay.specs.Places.{TellsPlaces}
use Rattle.dt_relay.proofs.relays.Relay.add_route.Goals as goal

pub invariant_of-self-2 : goal.invariant_of-self-2
invariant_of-self-2 g c =
    let routes = c.self.inside.routes.items in
    let are : c.push.new.self.items ≡ routes ++ c.args.route ∷ [] = c.in_ok-push.ensures.items ∙ ap (λ rs. rs ++ c.args.route ∷ []) c.reserve.ensures.items in
    let same : routes ≡ c.args.self.now.routes = ap (λ w. w.routes) c.self.view_is in
    let fresh : route_to c.args.route.to routes ≡ None = rw same c.requires.fresh in
    record {
      by_out_link = c.self.invariant.by_out_link;
      by_in_link = c.self.invariant.by_in_link;
      by_node = subst (λ rs. TellsPlaces (λ (r : Route). r.to) rs c.insert.new.self) (sym are) (tells_more (λ (r : Route). r.to) c.len-place.result routes c.args.route c.self.inside.route_places c.insert.new.self (omega (arith, c.len-place.ensures, c.self.inside.routes.ok.0)) (unnamed c.args.route.to routes fresh) c.self.invariant.by_node c.in_ok-insert.ensures.updates.0);
      by_place = c.self.invariant.by_place;
    }

pub returns-clause-leads : goal.returns-clause-leads
returns-clause-leads g c =
    let routes = c.self.inside.routes.items in
    let are : c.push.new.self.items ≡ routes ++ c.args.route ∷ [] = c.in_ok-push.ensures.items ∙ ap (λ rs. rs ++ c.args.route ∷ []) c.reserve.ensures.items in
    let same : routes ≡ c.args.self.now.routes = ap (λ w. w.routes) c.self.view_is in
    rw (are, same) (leads c.args.route c.args.self.now.routes c.requires.fresh)

pub returns-clause-others : goal.returns-clause-others
returns-clause-others g c = λ to other.
    let routes = c.self.inside.routes.items in
    let are : c.push.new.self.items ≡ routes ++ c.args.route ∷ [] = c.in_ok-push.ensures.items ∙ ap (λ rs. rs ++ c.args.route ∷ []) c.reserve.ensures.items in
    let same : routes ≡ c.args.self.now.routes = ap (λ w. w.routes) c.self.view_is in
    rw (are, same) (leads_others c.args.route c.args.self.now.routes to other)
