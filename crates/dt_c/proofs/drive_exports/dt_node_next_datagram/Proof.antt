-- `dt_node_next_datagram` lends what lies at the handle to `Slot::next_datagram`.
use mir.Syntax.{named}
use Rattle.dt_c.specs.contracts.c_structs.Datagram.{the_row as Datagram}
use Rattle.dt_c.proofs.Exports.{exported, status}
use Rattle.dt_c.proofs.Parameters.{buffer, filled}
use Rattle.dt_c.specs.Calls.{NextFrame}
use Rattle.dt_c.specs.contracts.slots.Slot.{the_row as R}
use Rattle.dt_c.proofs.drive_exports.dt_node_next_datagram.Statement.{statement}
use Rattle.dt_c.proofs.drive_exports.dt_node_next_datagram.Code as code
use Rattle.dt_c.proofs.slots.Slot.next_datagram.Met.{met}

pub dt_node_next_datagram_spec : {M : Type 1} → statement M
dt_node_next_datagram_spec 𝓤 𝓛 𝓜 𝓡 wired = exported 𝓛 𝓜 𝓡 R (status 𝓛) 2 (λ κs. buffer (named 0) κs.0 (filled (named 1) κs.1.0 Datagram))
    (λ κs a x told h ws. NextFrame told a.0.now ws.0 a.1.0.now ws.1.0 x h) (λ κs. tt) (λ κs. code.unfolded 𝓤 𝓛.H 𝓜 𝓡 wired) (met 𝓤 𝓛 𝓜 𝓡 (code.calls-dt_c::slots::Slot::next_datagram 𝓡.env wired))
