-- `dt_node_init` writes what `empty_slot` gives where there was room for it.
use Rattle.std.proofs.Common.{refl}
use Rattle.dt_c.proofs.Making.{made}
use Rattle.dt_c.specs.Handle.{empty}
use Rattle.dt_c.specs.contracts.slots.Slot.{the_row as R}
use Rattle.dt_c.proofs.slots.Slot.TheLaws.{the_row_laws}
use Rattle.dt_c.proofs.setup_exports.dt_node_init.Statement.{statement}
use Rattle.dt_c.proofs.setup_exports.dt_node_init.Code as code
use Rattle.dt_c.proofs.calls.empty_slot.Met.{met}

pub dt_node_init_spec : {M : Type 1} → statement M
dt_node_init_spec 𝓤 𝓛 𝓜 𝓡 wired = made 𝓛 𝓜 𝓡 (record { row = R; lawful = the_row_laws.lawful 𝓛; one = refl }) empty (met 𝓤 𝓛 𝓜 𝓡 (code.calls-dt_c::calls::empty_slot 𝓡.env wired)) (code.unfolded 𝓤 𝓛.H 𝓜 𝓡 wired)
