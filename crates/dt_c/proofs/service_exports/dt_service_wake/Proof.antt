-- `dt_service_wake` lends what lies at the handle to `ServiceSlot::wake`.
use Rattle.dt_c.proofs.Exports.{exported, time}
use Rattle.dt_c.proofs.Parameters.{none}
use Rattle.dt_c.specs.Serving.{ServiceWaking}
use Rattle.dt_c.specs.contracts.service_slots.ServiceSlot.{the_row as R}
use Rattle.dt_c.proofs.service_exports.dt_service_wake.Statement.{statement}
use Rattle.dt_c.proofs.service_exports.dt_service_wake.Code as code
use Rattle.dt_c.proofs.service_slots.ServiceSlot.wake.Met.{met}

pub dt_service_wake_spec : {M : Type 1} → statement M
dt_service_wake_spec 𝓤 𝓛 𝓜 𝓡 wired = exported 𝓛 𝓜 𝓡 R (time 𝓛) 0 (λ κs. none)
    (λ κs a x told h ws. ServiceWaking told x h) (λ κs. tt) (λ κs. code.unfolded 𝓤 𝓛.H 𝓜 𝓡 wired) (met 𝓤 𝓛 𝓜 𝓡 (code.calls-dt_c::service_slots::ServiceSlot::wake 𝓡.env wired))
