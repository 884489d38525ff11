-- `dt_node_tick` lends what lies at the handle to `Slot::tick`.
use Rattle.std.proofs.Common.{w64}
use Rattle.dt_c.proofs.Exports.{exported, status}
use Rattle.dt_c.proofs.Parameters.{none, number, ◌&◌}
use Rattle.dt_c.specs.Calls.{Ticking}
use Rattle.dt_c.specs.contracts.slots.Slot.{the_row as R}
use Rattle.dt_c.proofs.drive_exports.dt_node_tick.Statement.{statement}
use Rattle.dt_c.proofs.drive_exports.dt_node_tick.Code as code
use Rattle.dt_c.proofs.slots.Slot.tick.Met.{met}

pub dt_node_tick_spec : {M : Type 1} → statement M
dt_node_tick_spec 𝓤 𝓛 𝓜 𝓡 wired = exported 𝓛 𝓜 𝓡 R (status 𝓛) 0 (λ κs. number w64 & none)
    (λ κs a x told h ws. Ticking told a.0 x h) (λ κs. tt) (λ κs. code.unfolded 𝓤 𝓛.H 𝓜 𝓡 wired) (met 𝓤 𝓛 𝓜 𝓡 (code.calls-dt_c::slots::Slot::tick 𝓡.env wired))
