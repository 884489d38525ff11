-- `dt_node_close` lends what lies at the handle to `Slot::close`.
use Rattle.dt_c.proofs.Exports.{closed}
use Rattle.dt_c.specs.Handle.{empty}
use Rattle.dt_c.specs.contracts.slots.Slot.{the_row as R}
use Rattle.dt_c.proofs.setup_exports.dt_node_close.Statement.{statement}
use Rattle.dt_c.proofs.setup_exports.dt_node_close.Code as code
use Rattle.dt_c.proofs.slots.Slot.close.Met.{met}

pub dt_node_close_spec : {M : Type 1} → statement M
dt_node_close_spec 𝓤 𝓛 𝓜 𝓡 wired = closed 𝓛 𝓜 𝓡 R empty (code.unfolded 𝓤 𝓛.H 𝓜 𝓡 wired) (met 𝓤 𝓛 𝓜 𝓡 (code.calls-dt_c::slots::Slot::close 𝓡.env wired))
