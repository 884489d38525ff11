-- `dt_node_mark_readable` lends what lies at the handle to `Slot::mark_readable`.
use mir.Syntax.{named}
use Rattle.dt_c.proofs.Exports.{exported, status}
use Rattle.dt_c.proofs.Parameters.{none, shared, ◌&◌}
use Rattle.dt_c.specs.Calls.{Hearing}
use Rattle.dt_c.specs.contracts.c_structs.CFlow.{the_row as CFlow}
use Rattle.dt_c.specs.contracts.slots.Slot.{the_row as R}
use Rattle.dt_c.proofs.flow_exports.dt_node_mark_readable.Statement.{statement}
use Rattle.dt_c.proofs.flow_exports.dt_node_mark_readable.Code as code
use Rattle.dt_c.proofs.slots.Slot.mark_readable.Met.{met}

pub dt_node_mark_readable_spec : {M : Type 1} → statement M
dt_node_mark_readable_spec 𝓤 𝓛 𝓜 𝓡 wired = exported 𝓛 𝓜 𝓡 R (status 𝓛) 1 (λ κs. shared (named 0) κs.0 CFlow & none)
    (λ κs a x told h ws. Hearing told a.0.now x h) (λ κs. tt) (λ κs. code.unfolded 𝓤 𝓛.H 𝓜 𝓡 wired) (met 𝓤 𝓛 𝓜 𝓡 (code.calls-dt_c::slots::Slot::mark_readable 𝓡.env wired))
