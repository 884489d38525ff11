-- `dt_service_init` writes what `empty_service_slot` gives where there was room for it.
use Rattle.std.proofs.Common.{refl}
use Rattle.dt_c.proofs.Making.{made}
use Rattle.dt_c.specs.Serving.{empty_service}
use Rattle.dt_c.specs.contracts.service_slots.ServiceSlot.{the_row as R}
use Rattle.dt_c.proofs.service_slots.ServiceSlot.TheLaws.{the_row_laws}
use Rattle.dt_c.proofs.service_exports.dt_service_init.Statement.{statement}
use Rattle.dt_c.proofs.service_exports.dt_service_init.Code as code
use Rattle.dt_c.proofs.service_calls.empty_service_slot.Met.{met}

pub dt_service_init_spec : {M : Type 1} → statement M
dt_service_init_spec 𝓤 𝓛 𝓜 𝓡 wired = made 𝓛 𝓜 𝓡 (record { row = R; lawful = the_row_laws.lawful 𝓛; one = refl }) empty_service (met 𝓤 𝓛 𝓜 𝓡 (code.calls-dt_c::service_calls::empty_service_slot 𝓡.env wired)) (code.unfolded 𝓤 𝓛.H 𝓜 𝓡 wired)
