-- `dt_node_get_flow_counts` lends what lies at the handle to `Slot::get_flow_counts`.
use mir.Syntax.{named}
use Rattle.dt_c.specs.contracts.c_structs.CFlow.{the_row as CFlow}
use Rattle.dt_c.specs.contracts.c_structs.FlowCounts.{the_row as FlowCounts}
use Rattle.dt_c.proofs.Exports.{exported, status}
use Rattle.dt_c.proofs.Parameters.{filled, shared, ◌&◌}
use Rattle.dt_c.specs.Calls.{Totalling}
use Rattle.dt_c.specs.contracts.slots.Slot.{the_row as R}
use Rattle.dt_c.proofs.drive_exports.dt_node_get_flow_counts.Statement.{statement}
use Rattle.dt_c.proofs.drive_exports.dt_node_get_flow_counts.Code as code
use Rattle.dt_c.proofs.slots.Slot.get_flow_counts.Met.{met}

pub dt_node_get_flow_counts_spec : {M : Type 1} → statement M
dt_node_get_flow_counts_spec 𝓤 𝓛 𝓜 𝓡 wired = exported 𝓛 𝓜 𝓡 R (status 𝓛) 2 (λ κs. shared (named 0) κs.0 CFlow & filled (named 1) κs.1.0 FlowCounts)
    (λ κs a x told h ws. Totalling told a.0.now a.1.0.now ws.1.0 x h) (λ κs. tt) (λ κs. code.unfolded 𝓤 𝓛.H 𝓜 𝓡 wired) (met 𝓤 𝓛 𝓜 𝓡 (code.calls-dt_c::slots::Slot::get_flow_counts 𝓡.env wired))
