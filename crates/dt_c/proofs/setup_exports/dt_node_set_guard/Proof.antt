-- `dt_node_set_guard` lends what lies at the handle to `Slot::set_guard`.
use Rattle.std.proofs.Common.{w32}
use mir.Syntax.{named}
use denote.Builtin.{u16}
use Rattle.dt_c.proofs.Exports.{exported, status}
use Rattle.dt_c.proofs.Parameters.{allocator, items, none, number, truth, ◌&◌}
use Rattle.dt_c.specs.Calls.{Guarding}
use Rattle.dt_c.specs.contracts.slots.Slot.{the_row as R}
use Rattle.dt_c.proofs.setup_exports.dt_node_set_guard.Statement.{statement}
use Rattle.dt_c.proofs.setup_exports.dt_node_set_guard.Code as code
use Rattle.dt_c.proofs.slots.Slot.set_guard.Met.{met}

pub dt_node_set_guard_spec : {M : Type 1} → statement M
dt_node_set_guard_spec 𝓤 𝓛 𝓜 𝓡 wired = exported 𝓛 𝓜 𝓡 R (status 𝓛) 1 (λ κs. allocator 𝓛 & items (named 0) κs.0 u16 & truth & number w32 & none)
    (λ κs a x told h ws. Guarding told a.1.0.now a.1.1.0 a.1.1.1.0 x h) (λ κs. tt) (λ κs. code.unfolded 𝓤 𝓛.H 𝓜 𝓡 wired) (met 𝓤 𝓛 𝓜 𝓡 (code.calls-dt_c::slots::Slot::set_guard 𝓡.env wired))
