-- `dt_node_next_message` lends what lies at the handle to `Slot::next_message`.
use Rattle.std.proofs.Common.{w64}
use mir.Syntax.{named}
use Rattle.dt_c.specs.contracts.c_structs.Message.{the_row as Message}
use Rattle.dt_c.proofs.Exports.{exported, status}
use Rattle.dt_c.proofs.Parameters.{allocator, buffer, filled, number, ◌&◌}
use Rattle.dt_c.specs.Calls.{Taking}
use Rattle.dt_c.specs.contracts.slots.Slot.{the_row as R}
use Rattle.dt_c.proofs.flow_exports.dt_node_next_message.Statement.{statement}
use Rattle.dt_c.proofs.flow_exports.dt_node_next_message.Code as code
use Rattle.dt_c.proofs.slots.Slot.next_message.Met.{met}

pub dt_node_next_message_spec : {M : Type 1} → statement M
dt_node_next_message_spec 𝓤 𝓛 𝓜 𝓡 wired = exported 𝓛 𝓜 𝓡 R (status 𝓛) 2 (λ κs. allocator 𝓛 & number w64 & buffer (named 0) κs.0 (filled (named 1) κs.1.0 Message))
    (λ κs a x told h ws. Taking told a.1.0 a.1.1.0.now ws.1.1.0 a.1.1.1.0.now ws.1.1.1.0 x h) (λ κs. tt) (λ κs. code.unfolded 𝓤 𝓛.H 𝓜 𝓡 wired) (met 𝓤 𝓛 𝓜 𝓡 (code.calls-dt_c::slots::Slot::next_message 𝓡.env wired))
