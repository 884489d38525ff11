-- `dt_service_next_datagram` lends what lies at the handle to `ServiceSlot::next_datagram`.
use mir.Syntax.{named}
use Rattle.dt_c.specs.contracts.c_structs.Datagram.{the_row as Datagram}
use Rattle.dt_c.proofs.Exports.{exported, status}
use Rattle.dt_c.proofs.Parameters.{buffer, filled}
use Rattle.dt_c.specs.Serving.{ServiceNextFrame}
use Rattle.dt_c.specs.contracts.service_slots.ServiceSlot.{the_row as R}
use Rattle.dt_c.proofs.service_exports.dt_service_next_datagram.Statement.{statement}
use Rattle.dt_c.proofs.service_exports.dt_service_next_datagram.Code as code
use Rattle.dt_c.proofs.service_slots.ServiceSlot.next_datagram.Met.{met}

pub dt_service_next_datagram_spec : {M : Type 1} → statement M
dt_service_next_datagram_spec 𝓤 𝓛 𝓜 𝓡 wired = exported 𝓛 𝓜 𝓡 R (status 𝓛) 2 (λ κs. buffer (named 0) κs.0 (filled (named 1) κs.1.0 Datagram))
    (λ κs a x told h ws. ServiceNextFrame told a.0.now ws.0 a.1.0.now ws.1.0 x h) (λ κs. tt) (λ κs. code.unfolded 𝓤 𝓛.H 𝓜 𝓡 wired) (met 𝓤 𝓛 𝓜 𝓡 (code.calls-dt_c::service_slots::ServiceSlot::next_datagram 𝓡.env wired))
