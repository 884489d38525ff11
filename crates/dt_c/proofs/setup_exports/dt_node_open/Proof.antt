-- `dt_node_open` lends what lies at the handle to `Slot::open`.
use mir.Syntax.{erased, named}
use contract.Lifetimes.{Outlives}
use denote.Signature.{named_lft}
use Rattle.std.proofs.Common.{[], ◌∷◌, refl}
use Rattle.dt_c.specs.contracts.c_structs.CParams.{the_row as CParams}
use Rattle.dt_c.specs.contracts.c_structs.NodeOptions.{the_row as NodeOptions}
use Rattle.dt_c.proofs.Exports.{exported_under}
use Rattle.dt_c.specs.contracts.c_structs.OpenResult.{the_row as Q}
use Rattle.dt_c.proofs.c_structs.OpenResult.TheLaws.{the_row_laws}
use Rattle.dt_c.proofs.Parameters.{allocator, none, shared, shared_as, ◌&◌}
use Rattle.dt_c.specs.Calls.{Opening}
use Rattle.dt_c.specs.contracts.slots.Slot.{the_row as R}
use Rattle.dt_c.proofs.setup_exports.dt_node_open.Statement.{statement}
use Rattle.dt_c.proofs.setup_exports.dt_node_open.Code as code
use Rattle.dt_c.proofs.slots.Slot.open.Met.{met}

pub dt_node_open_spec : {M : Type 1} → statement M
dt_node_open_spec 𝓤 𝓛 𝓜 𝓡 wired = exported_under 𝓛 𝓜 𝓡 R (record { row = Q; lawful = the_row_laws.lawful 𝓛; one = refl }) 3 (record { long = 2; long_ok = tt; short = named 1; short_ok = tt } ∷ []) (record { long = 3; long_ok = tt; short = named 2; short_ok = tt } ∷ []) (λ κ κs o. o) (λ κs. allocator 𝓛 & shared (named 0) κs.0 CParams & shared_as (NodeOptions (record { mir = erased; lft = [] })) (named 1) κs.1.0 (NodeOptions (named_lft 3 2 tt κs)) & none)
    (λ κs a x told h ws. Opening told a.1.0.now a.1.1.0.now x h) (λ κs. tt) (λ κs. code.unfolded 𝓤 𝓛.H 𝓜 𝓡 wired) (met 𝓤 𝓛 𝓜 𝓡 (code.calls-dt_c::slots::Slot::open 𝓡.env wired))
