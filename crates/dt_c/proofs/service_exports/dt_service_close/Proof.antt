-- `dt_service_close` lends what lies at the handle to `ServiceSlot::close`.
use Rattle.dt_c.proofs.Exports.{closed}
use Rattle.dt_c.specs.Serving.{empty_service}
use Rattle.dt_c.specs.contracts.service_slots.ServiceSlot.{the_row as R}
use Rattle.dt_c.proofs.service_exports.dt_service_close.Statement.{statement}
use Rattle.dt_c.proofs.service_exports.dt_service_close.Code as code
use Rattle.dt_c.proofs.service_slots.ServiceSlot.close.Met.{met}

pub dt_service_close_spec : {M : Type 1} → statement M
dt_service_close_spec 𝓤 𝓛 𝓜 𝓡 wired = closed 𝓛 𝓜 𝓡 R empty_service (code.unfolded 𝓤 𝓛.H 𝓜 𝓡 wired) (met 𝓤 𝓛 𝓜 𝓡 (code.calls-dt_c::service_slots::ServiceSlot::close 𝓡.env wired))
