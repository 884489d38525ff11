-- `dt_service_add_route` lends what lies at the handle to `ServiceSlot::add_route`.
use mir.Syntax.{named}
use Rattle.dt_c.proofs.Exports.{exported, status}
use Rattle.dt_c.proofs.Parameters.{none, shared, ◌&◌}
use Rattle.dt_c.specs.Serving.{ServiceAddingRoute}
use Rattle.dt_c.specs.contracts.c_structs.CRoute.{the_row as CRoute}
use Rattle.dt_c.specs.contracts.service_slots.ServiceSlot.{the_row as R}
use Rattle.dt_c.proofs.service_exports.dt_service_add_route.Statement.{statement}
use Rattle.dt_c.proofs.service_exports.dt_service_add_route.Code as code
use Rattle.dt_c.proofs.service_slots.ServiceSlot.add_route.Met.{met}

pub dt_service_add_route_spec : {M : Type 1} → statement M
dt_service_add_route_spec 𝓤 𝓛 𝓜 𝓡 wired = exported 𝓛 𝓜 𝓡 R (status 𝓛) 1 (λ κs. shared (named 0) κs.0 CRoute & none)
    (λ κs a x told h ws. ServiceAddingRoute told a.0.now x h) (λ κs. tt) (λ κs. code.unfolded 𝓤 𝓛.H 𝓜 𝓡 wired) (met 𝓤 𝓛 𝓜 𝓡 (code.calls-dt_c::service_slots::ServiceSlot::add_route 𝓡.env wired))
