-- `dt_service_reply` lends what lies at the handle to `ServiceSlot::reply`.
use Rattle.std.proofs.Common.{refl, w64}
use mir.Syntax.{named}
use denote.Builtin.{u8}
use Rattle.dt_c.proofs.Exports.{exported}
use Rattle.dt_c.proofs.Parameters.{items, none, number, shared, ◌&◌}
use Rattle.dt_c.specs.Serving.{Replying}
use Rattle.dt_c.specs.contracts.service_structs.CToken.{the_row as CToken}
use Rattle.dt_c.specs.contracts.service_structs.ReplyResult.{the_row as Q}
use Rattle.dt_c.proofs.service_structs.ReplyResult.TheLaws.{the_row_laws}
use Rattle.dt_c.specs.contracts.service_slots.ServiceSlot.{the_row as R}
use Rattle.dt_c.proofs.service_exports.dt_service_reply.Statement.{statement}
use Rattle.dt_c.proofs.service_exports.dt_service_reply.Code as code
use Rattle.dt_c.proofs.service_slots.ServiceSlot.reply.Met.{met}

pub dt_service_reply_spec : {M : Type 1} → statement M
dt_service_reply_spec 𝓤 𝓛 𝓜 𝓡 wired = exported 𝓛 𝓜 𝓡 R (record { row = Q; lawful = the_row_laws.lawful 𝓛; one = refl }) 2 (λ κs. number w64 & shared (named 0) κs.0 CToken & items (named 1) κs.1.0 u8 & none)
    (λ κs a x row h ws. Replying row a.0 a.1.0.now a.1.1.0.now x h) (λ κs. tt) (λ κs. code.unfolded 𝓤 𝓛.H 𝓜 𝓡 wired) (met 𝓤 𝓛 𝓜 𝓡 (code.calls-dt_c::service_slots::ServiceSlot::reply 𝓡.env wired))
