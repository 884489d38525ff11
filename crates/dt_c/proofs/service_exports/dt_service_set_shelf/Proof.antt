-- `dt_service_set_shelf` lends what lies at the handle to `ServiceSlot::set_shelf`.
use Rattle.std.proofs.Common.{w32}
use Rattle.dt_c.proofs.Exports.{exported, status}
use Rattle.dt_c.proofs.Parameters.{allocator, none, number, ◌&◌}
use Rattle.dt_c.specs.Serving.{ServiceShelving}
use Rattle.dt_c.specs.contracts.service_slots.ServiceSlot.{the_row as R}
use Rattle.dt_c.proofs.service_exports.dt_service_set_shelf.Statement.{statement}
use Rattle.dt_c.proofs.service_exports.dt_service_set_shelf.Code as code
use Rattle.dt_c.proofs.service_slots.ServiceSlot.set_shelf.Met.{met}

pub dt_service_set_shelf_spec : {M : Type 1} → statement M
dt_service_set_shelf_spec 𝓤 𝓛 𝓜 𝓡 wired = exported 𝓛 𝓜 𝓡 R (status 𝓛) 0 (λ κs. allocator 𝓛 & number w32 & number w32 & none)
    (λ κs a x told h ws. ServiceShelving told a.1.0 a.1.1.0 x h) (λ κs. tt) (λ κs. code.unfolded 𝓤 𝓛.H 𝓜 𝓡 wired) (met 𝓤 𝓛 𝓜 𝓡 (code.calls-dt_c::service_slots::ServiceSlot::set_shelf 𝓡.env wired))
