-- `dt_service_set_port` lends what lies at the handle to `ServiceSlot::set_port`.
use Rattle.std.proofs.Common.{w16, w8}
use Rattle.dt_c.proofs.Exports.{exported, status}
use Rattle.dt_c.proofs.Parameters.{none, number, ◌&◌}
use Rattle.dt_c.specs.Serving.{Porting}
use Rattle.dt_c.specs.contracts.service_slots.ServiceSlot.{the_row as R}
use Rattle.dt_c.proofs.service_exports.dt_service_set_port.Statement.{statement}
use Rattle.dt_c.proofs.service_exports.dt_service_set_port.Code as code
use Rattle.dt_c.proofs.service_slots.ServiceSlot.set_port.Met.{met}

pub dt_service_set_port_spec : {M : Type 1} → statement M
dt_service_set_port_spec 𝓤 𝓛 𝓜 𝓡 wired = exported 𝓛 𝓜 𝓡 R (status 𝓛) 0 (λ κs. number w16 & number w8 & none)
    (λ κs a x told h ws. Porting told a.0 a.1.0 x h) (λ κs. tt) (λ κs. code.unfolded 𝓤 𝓛.H 𝓜 𝓡 wired) (met 𝓤 𝓛 𝓜 𝓡 (code.calls-dt_c::service_slots::ServiceSlot::set_port 𝓡.env wired))
