-- `dt_service_get_blocked_counts` lends what lies at the handle to `ServiceSlot::get_blocked_counts`.
use Rattle.std.proofs.Common.{refl}
use Rattle.dt_c.proofs.Exports.{exported}
use Rattle.dt_c.proofs.Parameters.{none}
use Rattle.dt_c.specs.Serving.{ServiceKeptOut}
use Rattle.dt_c.specs.contracts.c_structs.BlockedCounts.{the_row as Q}
use Rattle.dt_c.proofs.c_structs.BlockedCounts.TheLaws.{the_row_laws}
use Rattle.dt_c.specs.contracts.service_slots.ServiceSlot.{the_row as R}
use Rattle.dt_c.proofs.service_exports.dt_service_get_blocked_counts.Statement.{statement}
use Rattle.dt_c.proofs.service_exports.dt_service_get_blocked_counts.Code as code
use Rattle.dt_c.proofs.service_slots.ServiceSlot.get_blocked_counts.Met.{met}

pub dt_service_get_blocked_counts_spec : {M : Type 1} → statement M
dt_service_get_blocked_counts_spec 𝓤 𝓛 𝓜 𝓡 wired = exported 𝓛 𝓜 𝓡 R (record { row = Q; lawful = the_row_laws.lawful 𝓛; one = refl }) 0 (λ κs. none)
    (λ κs a x row h ws. ServiceKeptOut row x h) (λ κs. tt) (λ κs. code.unfolded 𝓤 𝓛.H 𝓜 𝓡 wired) (met 𝓤 𝓛 𝓜 𝓡 (code.calls-dt_c::service_slots::ServiceSlot::get_blocked_counts 𝓡.env wired))
