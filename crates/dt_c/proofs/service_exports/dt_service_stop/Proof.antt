-- `dt_service_stop` lends what lies at the handle to `ServiceSlot::stop`.
use Rattle.dt_c.proofs.Exports.{exported, status}
use Rattle.dt_c.proofs.Parameters.{none}
use Rattle.dt_c.specs.Serving.{Stopping}
use Rattle.dt_c.specs.contracts.service_slots.ServiceSlot.{the_row as R}
use Rattle.dt_c.proofs.service_exports.dt_service_stop.Statement.{statement}
use Rattle.dt_c.proofs.service_exports.dt_service_stop.Code as code
use Rattle.dt_c.proofs.service_slots.ServiceSlot.stop.Met.{met}

pub dt_service_stop_spec : {M : Type 1} → statement M
dt_service_stop_spec 𝓤 𝓛 𝓜 𝓡 wired = exported 𝓛 𝓜 𝓡 R (status 𝓛) 0 (λ κs. none)
    (λ κs a x told h ws. Stopping told x h) (λ κs. tt) (λ κs. code.unfolded 𝓤 𝓛.H 𝓜 𝓡 wired) (met 𝓤 𝓛 𝓜 𝓡 (code.calls-dt_c::service_slots::ServiceSlot::stop 𝓡.env wired))
