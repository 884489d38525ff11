-- `dt_service_open` lends what lies at the handle to `ServiceSlot::open`.
use mir.Syntax.{erased, named}
use contract.Lifetimes.{Outlives}
use denote.Signature.{named_lft}
use Rattle.std.proofs.Common.{[], ◌∷◌, refl}
use Rattle.dt_c.specs.contracts.c_structs.CParams.{the_row as CParams}
use Rattle.dt_c.specs.contracts.c_structs.NodeOptions.{the_row as NodeOptions}
use Rattle.dt_c.specs.contracts.service_structs.ServiceOptions.{the_row as ServiceOptions}
use Rattle.dt_c.proofs.Exports.{exported_under}
use Rattle.dt_c.specs.contracts.c_structs.OpenResult.{the_row as Q}
use Rattle.dt_c.proofs.c_structs.OpenResult.TheLaws.{the_row_laws}
use Rattle.dt_c.proofs.Parameters.{allocator, none, shared, shared_as, ◌&◌}
use Rattle.dt_c.specs.Serving.{ServiceOpening}
use Rattle.dt_c.specs.contracts.service_slots.ServiceSlot.{the_row as R}
use Rattle.dt_c.proofs.service_exports.dt_service_open.Statement.{statement}
use Rattle.dt_c.proofs.service_exports.dt_service_open.Code as code
use Rattle.dt_c.proofs.service_slots.ServiceSlot.open.Met.{met}

pub dt_service_open_spec : {M : Type 1} → statement M
dt_service_open_spec 𝓤 𝓛 𝓜 𝓡 wired = exported_under 𝓛 𝓜 𝓡 R (record { row = Q; lawful = the_row_laws.lawful 𝓛; one = refl }) 4 (record { long = 2; long_ok = tt; short = named 1; short_ok = tt } ∷ []) (record { long = 3; long_ok = tt; short = named 2; short_ok = tt } ∷ []) (λ κ κs o. o) (λ κs. allocator 𝓛 & shared (named 0) κs.0 CParams & shared_as (NodeOptions (record { mir = erased; lft = [] })) (named 1) κs.1.0 (NodeOptions (named_lft 4 2 tt κs)) & shared (named 3) κs.1.1.1.0 ServiceOptions & none)
    (λ κs a x told h ws. ServiceOpening told a.1.0.now a.1.1.0.now a.1.1.1.0.now x h) (λ κs. tt) (λ κs. code.unfolded 𝓤 𝓛.H 𝓜 𝓡 wired) (met 𝓤 𝓛 𝓜 𝓡 (code.calls-dt_c::service_slots::ServiceSlot::open 𝓡.env wired))
