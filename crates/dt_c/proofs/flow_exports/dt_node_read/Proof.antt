-- `dt_node_read` lends what lies at the handle to `Slot::read`.
use Rattle.std.proofs.Common.{length, refl, w64}
use mir.Syntax.{named}
use Rattle.dt_c.specs.contracts.c_structs.CFlow.{the_row as CFlow}
use Rattle.dt_c.proofs.Exports.{exported}
use Rattle.dt_c.specs.contracts.c_structs.ReadResult.{the_row as Q}
use Rattle.dt_c.proofs.c_structs.ReadResult.TheLaws.{the_row_laws}
use Rattle.dt_c.proofs.Parameters.{buffer, none, number, shared, ◌&◌}
use Rattle.dt_c.specs.Calls.{Reading}
use Rattle.dt_c.specs.contracts.slots.Slot.{the_row as R}
use Rattle.dt_c.proofs.flow_exports.dt_node_read.Statement.{statement}
use Rattle.dt_c.proofs.flow_exports.dt_node_read.Code as code
use Rattle.dt_c.proofs.slots.Slot.read.Met.{met}

pub dt_node_read_spec : {M : Type 1} → statement M
dt_node_read_spec 𝓤 𝓛 𝓜 𝓡 wired = exported 𝓛 𝓜 𝓡 R (record { row = Q; lawful = the_row_laws.lawful 𝓛; one = refl }) 2 (λ κs. number w64 & shared (named 0) κs.0 CFlow & buffer (named 1) κs.1.0 none)
    (λ κs a x told h ws. Reading told a.0 a.1.0.now (length a.1.1.0.now) ws.1.1.0 x h) (λ κs. tt) (λ κs. code.unfolded 𝓤 𝓛.H 𝓜 𝓡 wired) (met 𝓤 𝓛 𝓜 𝓡 (code.calls-dt_c::slots::Slot::read 𝓡.env wired))
