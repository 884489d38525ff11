-- `dt_node_wake` lends what lies at the handle to `Slot::wake`.
use Rattle.dt_c.proofs.Exports.{exported, time}
use Rattle.dt_c.proofs.Parameters.{none}
use Rattle.dt_c.specs.Calls.{Waking}
use Rattle.dt_c.specs.contracts.slots.Slot.{the_row as R}
use Rattle.dt_c.proofs.drive_exports.dt_node_wake.Statement.{statement}
use Rattle.dt_c.proofs.drive_exports.dt_node_wake.Code as code
use Rattle.dt_c.proofs.slots.Slot.wake.Met.{met}

pub dt_node_wake_spec : {M : Type 1} → statement M
dt_node_wake_spec 𝓤 𝓛 𝓜 𝓡 wired = exported 𝓛 𝓜 𝓡 R (time 𝓛) 0 (λ κs. none)
    (λ κs a x told h ws. Waking told x h) (λ κs. tt) (λ κs. code.unfolded 𝓤 𝓛.H 𝓜 𝓡 wired) (met 𝓤 𝓛 𝓜 𝓡 (code.calls-dt_c::slots::Slot::wake 𝓡.env wired))
