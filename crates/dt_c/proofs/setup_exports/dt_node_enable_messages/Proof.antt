-- `dt_node_enable_messages` lends what lies at the handle to `Slot::enable_messages`.
use Rattle.std.proofs.Common.{w64}
use Rattle.dt_c.proofs.Exports.{exported, status}
use Rattle.dt_c.proofs.Parameters.{allocator, none, number, ◌&◌}
use Rattle.dt_c.specs.Calls.{MakesInbox}
use Rattle.dt_c.specs.contracts.slots.Slot.{the_row as R}
use Rattle.dt_c.proofs.setup_exports.dt_node_enable_messages.Statement.{statement}
use Rattle.dt_c.proofs.setup_exports.dt_node_enable_messages.Code as code
use Rattle.dt_c.proofs.slots.Slot.enable_messages.Met.{met}

pub dt_node_enable_messages_spec : {M : Type 1} → statement M
dt_node_enable_messages_spec 𝓤 𝓛 𝓜 𝓡 wired = exported 𝓛 𝓜 𝓡 R (status 𝓛) 0 (λ κs. allocator 𝓛 & number w64 & none)
    (λ κs a x told h ws. MakesInbox told a.1.0 x h) (λ κs. tt) (λ κs. code.unfolded 𝓤 𝓛.H 𝓜 𝓡 wired) (met 𝓤 𝓛 𝓜 𝓡 (code.calls-dt_c::slots::Slot::enable_messages 𝓡.env wired))
