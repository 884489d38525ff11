-- `dt_node_send` lends what lies at the handle to `Slot::send`.
use Rattle.std.proofs.Common.{refl, w64}
use mir.Syntax.{named}
use denote.Builtin.{u8}
use Rattle.dt_c.proofs.Exports.{exported}
use Rattle.dt_c.proofs.Parameters.{items, none, number, shared, truth, ◌&◌}
use Rattle.dt_c.specs.Calls.{Sending}
use Rattle.dt_c.specs.contracts.c_structs.CFlow.{the_row as CFlow}
use Rattle.dt_c.specs.contracts.c_structs.SendResult.{the_row as Q}
use Rattle.dt_c.proofs.c_structs.SendResult.TheLaws.{the_row_laws}
use Rattle.dt_c.specs.contracts.slots.Slot.{the_row as R}
use Rattle.dt_c.proofs.flow_exports.dt_node_send.Statement.{statement}
use Rattle.dt_c.proofs.flow_exports.dt_node_send.Code as code
use Rattle.dt_c.proofs.slots.Slot.send.Met.{met}

pub dt_node_send_spec : {M : Type 1} → statement M
dt_node_send_spec 𝓤 𝓛 𝓜 𝓡 wired = exported 𝓛 𝓜 𝓡 R (record { row = Q; lawful = the_row_laws.lawful 𝓛; one = refl }) 2 (λ κs. number w64 & shared (named 0) κs.0 CFlow & items (named 1) κs.1.0 u8 & truth & truth & none)
    (λ κs a x row h ws. Sending row a.0 a.1.0.now a.1.1.0.now a.1.1.1.0 a.1.1.1.1.0 x h) (λ κs. tt) (λ κs. code.unfolded 𝓤 𝓛.H 𝓜 𝓡 wired) (met 𝓤 𝓛 𝓜 𝓡 (code.calls-dt_c::slots::Slot::send 𝓡.env wired))
