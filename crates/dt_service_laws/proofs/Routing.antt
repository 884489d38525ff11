-- A route that is added leaves all of an endpoint but its station's routes.
use Rattle.std.proofs.Common.{◌≡◌, ◌⊎◌, refl, ap, inl, inr}
use Rattle.dt_world_model.specs.declared.links.Route.{Route}
use Rattle.dt_endpoint.specs.declared.answers.Routed.{Routed}
use Rattle.dt_endpoint.specs.Calls.{AddsRoute}
use Rattle.dt_endpoint.specs.Endpoints.{EndpointValue, with_route}
use Rattle.dt_network.proofs.Outcomes.{route_comes_to}

pub record IsAsBefore (e f : EndpointValue) : Type 0 where
  pub spent : f.spent ≡ e.spent
  pub latest : f.latest ≡ e.latest
  pub reports : f.reports ≡ e.reports

pub route_keeps : (route : Route) (answer : Routed) (e f : EndpointValue) → AddsRoute answer route e f → IsAsBefore e f
route_keeps route answer e f h = by_cases (route_comes_to answer route e f h)
  where
    by_cases : (f ≡ e) ⊎ (f ≡ with_route route e) → IsAsBefore e f
    by_cases (inl same) = record { spent = ap (λ (x : EndpointValue). x.spent) same; latest = ap (λ (x : EndpointValue). x.latest) same; reports = ap (λ (x : EndpointValue). x.reports) same }
    by_cases (inr is) = record { spent = ap (λ (x : EndpointValue). x.spent) is; latest = ap (λ (x : EndpointValue). x.latest) is; reports = ap (λ (x : EndpointValue). x.reports) is }
