-- `dt_node_add_route` lends what lies at the handle to `Slot::add_route`.
use mir.Syntax.{named}
use Rattle.dt_c.proofs.Exports.{exported, status}
use Rattle.dt_c.proofs.Parameters.{none, shared, ◌&◌}
use Rattle.dt_c.specs.Calls.{AddingRoute}
use Rattle.dt_c.specs.contracts.c_structs.CRoute.{the_row as CRoute}
use Rattle.dt_c.specs.contracts.slots.Slot.{the_row as R}
use Rattle.dt_c.proofs.setup_exports.dt_node_add_route.Statement.{statement}
use Rattle.dt_c.proofs.setup_exports.dt_node_add_route.Code as code
use Rattle.dt_c.proofs.slots.Slot.add_route.Met.{met}

pub dt_node_add_route_spec : {M : Type 1} → statement M
dt_node_add_route_spec 𝓤 𝓛 𝓜 𝓡 wired = exported 𝓛 𝓜 𝓡 R (status 𝓛) 1 (λ κs. shared (named 0) κs.0 CRoute & none)
    (λ κs a x told h ws. AddingRoute told a.0.now x h) (λ κs. tt) (λ κs. code.unfolded 𝓤 𝓛.H 𝓜 𝓡 wired) (met 𝓤 𝓛 𝓜 𝓡 (code.calls-dt_c::slots::Slot::add_route 𝓡.env wired))
