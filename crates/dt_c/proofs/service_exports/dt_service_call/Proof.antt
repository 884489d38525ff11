-- `dt_service_call` lends what lies at the handle to `ServiceSlot::call`.
use Rattle.std.proofs.Common.{refl, w32, w64}
use mir.Syntax.{named}
use denote.Builtin.{u8}
use Rattle.dt_c.proofs.Exports.{exported}
use Rattle.dt_c.proofs.Parameters.{items, none, number, shared, ◌&◌}
use Rattle.dt_c.specs.Serving.{Calling}
use Rattle.dt_c.specs.contracts.c_structs.CFlow.{the_row as CFlow}
use Rattle.dt_c.specs.contracts.service_structs.CallResult.{the_row as Q}
use Rattle.dt_c.proofs.service_structs.CallResult.TheLaws.{the_row_laws}
use Rattle.dt_c.specs.contracts.service_slots.ServiceSlot.{the_row as R}
use Rattle.dt_c.proofs.service_exports.dt_service_call.Statement.{statement}
use Rattle.dt_c.proofs.service_exports.dt_service_call.Code as code
use Rattle.dt_c.proofs.service_slots.ServiceSlot.call.Met.{met}

pub dt_service_call_spec : {M : Type 1} → statement M
dt_service_call_spec 𝓤 𝓛 𝓜 𝓡 wired = exported 𝓛 𝓜 𝓡 R (record { row = Q; lawful = the_row_laws.lawful 𝓛; one = refl }) 2 (λ κs. number w64 & shared (named 0) κs.0 CFlow & items (named 1) κs.1.0 u8 & number w32 & number w64 & none)
    (λ κs a x row h ws. Calling row a.0 a.1.0.now a.1.1.0.now a.1.1.1.0 a.1.1.1.1.0 x h) (λ κs. tt) (λ κs. code.unfolded 𝓤 𝓛.H 𝓜 𝓡 wired) (met 𝓤 𝓛 𝓜 𝓡 (code.calls-dt_c::service_slots::ServiceSlot::call 𝓡.env wired))
