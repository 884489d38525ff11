-- `dt_node_count_flow` lends what lies at the handle to `Slot::count_flow`.
use mir.Syntax.{named}
use Rattle.dt_c.proofs.Exports.{exported, status}
use Rattle.dt_c.proofs.Parameters.{none, shared, ◌&◌}
use Rattle.dt_c.specs.Calls.{Following}
use Rattle.dt_c.specs.contracts.c_structs.CFlow.{the_row as CFlow}
use Rattle.dt_c.specs.contracts.slots.Slot.{the_row as R}
use Rattle.dt_c.proofs.drive_exports.dt_node_count_flow.Statement.{statement}
use Rattle.dt_c.proofs.drive_exports.dt_node_count_flow.Code as code
use Rattle.dt_c.proofs.slots.Slot.count_flow.Met.{met}

pub dt_node_count_flow_spec : {M : Type 1} → statement M
dt_node_count_flow_spec 𝓤 𝓛 𝓜 𝓡 wired = exported 𝓛 𝓜 𝓡 R (status 𝓛) 1 (λ κs. shared (named 0) κs.0 CFlow & none)
    (λ κs a x told h ws. Following told a.0.now x h) (λ κs. tt) (λ κs. code.unfolded 𝓤 𝓛.H 𝓜 𝓡 wired) (met 𝓤 𝓛 𝓜 𝓡 (code.calls-dt_c::slots::Slot::count_flow 𝓡.env wired))
