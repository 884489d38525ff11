-- `dt_service_get_counts` lends what lies at the handle to `ServiceSlot::get_counts`.
use mir.Syntax.{named}
use Rattle.dt_c.specs.contracts.c_structs.NodeCounts.{the_row as NodeCounts}
use Rattle.dt_c.proofs.Exports.{exported, status}
use Rattle.dt_c.proofs.Parameters.{filled}
use Rattle.dt_c.specs.Serving.{ServiceCounting}
use Rattle.dt_c.specs.contracts.service_slots.ServiceSlot.{the_row as R}
use Rattle.dt_c.proofs.service_exports.dt_service_get_counts.Statement.{statement}
use Rattle.dt_c.proofs.service_exports.dt_service_get_counts.Code as code
use Rattle.dt_c.proofs.service_slots.ServiceSlot.get_counts.Met.{met}

pub dt_service_get_counts_spec : {M : Type 1} → statement M
dt_service_get_counts_spec 𝓤 𝓛 𝓜 𝓡 wired = exported 𝓛 𝓜 𝓡 R (status 𝓛) 1 (λ κs. filled (named 0) κs.0 NodeCounts)
    (λ κs a x told h ws. ServiceCounting told a.0.now ws.0 x h) (λ κs. tt) (λ κs. code.unfolded 𝓤 𝓛.H 𝓜 𝓡 wired) (met 𝓤 𝓛 𝓜 𝓡 (code.calls-dt_c::service_slots::ServiceSlot::get_counts 𝓡.env wired))
