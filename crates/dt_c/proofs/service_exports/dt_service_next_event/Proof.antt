-- `dt_service_next_event` lends what lies at the handle to `ServiceSlot::next_event`.
use mir.Syntax.{named}
use Rattle.dt_c.specs.contracts.service_structs.Event.{the_row as Event}
use Rattle.dt_c.proofs.Exports.{exported, status}
use Rattle.dt_c.proofs.Parameters.{buffer, filled}
use Rattle.dt_c.specs.Serving.{NextEvent}
use Rattle.dt_c.specs.contracts.service_slots.ServiceSlot.{the_row as R}
use Rattle.dt_c.proofs.service_exports.dt_service_next_event.Statement.{statement}
use Rattle.dt_c.proofs.service_exports.dt_service_next_event.Code as code
use Rattle.dt_c.proofs.service_slots.ServiceSlot.next_event.Met.{met}

pub dt_service_next_event_spec : {M : Type 1} → statement M
dt_service_next_event_spec 𝓤 𝓛 𝓜 𝓡 wired = exported 𝓛 𝓜 𝓡 R (status 𝓛) 2 (λ κs. buffer (named 0) κs.0 (filled (named 1) κs.1.0 Event))
    (λ κs a x told h ws. NextEvent told a.0.now ws.0 a.1.0.now ws.1.0 x h) (λ κs. tt) (λ κs. code.unfolded 𝓤 𝓛.H 𝓜 𝓡 wired) (met 𝓤 𝓛 𝓜 𝓡 (code.calls-dt_c::service_slots::ServiceSlot::next_event 𝓡.env wired))
