-- `dt_service_forget` lends what lies at the handle to `ServiceSlot::forget`.
use Rattle.std.proofs.Common.{w64}
use mir.Syntax.{named}
use Rattle.dt_c.proofs.Exports.{exported, status}
use Rattle.dt_c.proofs.Parameters.{none, number, shared, ◌&◌}
use Rattle.dt_c.specs.Serving.{Forgetting}
use Rattle.dt_c.specs.contracts.service_structs.CToken.{the_row as CToken}
use Rattle.dt_c.specs.contracts.service_slots.ServiceSlot.{the_row as R}
use Rattle.dt_c.proofs.service_exports.dt_service_forget.Statement.{statement}
use Rattle.dt_c.proofs.service_exports.dt_service_forget.Code as code
use Rattle.dt_c.proofs.service_slots.ServiceSlot.forget.Met.{met}

pub dt_service_forget_spec : {M : Type 1} → statement M
dt_service_forget_spec 𝓤 𝓛 𝓜 𝓡 wired = exported 𝓛 𝓜 𝓡 R (status 𝓛) 1 (λ κs. number w64 & shared (named 0) κs.0 CToken & none)
    (λ κs a x told h ws. Forgetting told a.0 a.1.0.now x h) (λ κs. tt) (λ κs. code.unfolded 𝓤 𝓛.H 𝓜 𝓡 wired) (met 𝓤 𝓛 𝓜 𝓡 (code.calls-dt_c::service_slots::ServiceSlot::forget 𝓡.env wired))
