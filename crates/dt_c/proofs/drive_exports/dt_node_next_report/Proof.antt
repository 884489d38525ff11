-- `dt_node_next_report` lends what lies at the handle to `Slot::next_report`.
use mir.Syntax.{named}
use Rattle.dt_c.specs.contracts.c_structs.CReport.{the_row as CReport}
use Rattle.dt_c.proofs.Exports.{exported, status}
use Rattle.dt_c.proofs.Parameters.{filled}
use Rattle.dt_c.specs.Calls.{NextReport}
use Rattle.dt_c.specs.contracts.slots.Slot.{the_row as R}
use Rattle.dt_c.proofs.drive_exports.dt_node_next_report.Statement.{statement}
use Rattle.dt_c.proofs.drive_exports.dt_node_next_report.Code as code
use Rattle.dt_c.proofs.slots.Slot.next_report.Met.{met}

pub dt_node_next_report_spec : {M : Type 1} → statement M
dt_node_next_report_spec 𝓤 𝓛 𝓜 𝓡 wired = exported 𝓛 𝓜 𝓡 R (status 𝓛) 1 (λ κs. filled (named 0) κs.0 CReport)
    (λ κs a x told h ws. NextReport told a.0.now ws.0 x h) (λ κs. tt) (λ κs. code.unfolded 𝓤 𝓛.H 𝓜 𝓡 wired) (met 𝓤 𝓛 𝓜 𝓡 (code.calls-dt_c::slots::Slot::next_report 𝓡.env wired))
