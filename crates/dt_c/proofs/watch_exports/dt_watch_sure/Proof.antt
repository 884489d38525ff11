-- `dt_watch_sure` lends what lies at the handle to `WatchSlot::sure`.
use mir.Syntax.{w64}
use Rattle.dt_c.proofs.Exports.{exported, time}
use Rattle.dt_c.proofs.Parameters.{none, number, truth, ◌&◌}
use Rattle.dt_c.specs.Watching.{SureIs}
use Rattle.dt_c.specs.contracts.watch_slots.WatchSlot.{the_row as R}
use Rattle.dt_c.proofs.watch_exports.dt_watch_sure.Statement.{statement}
use Rattle.dt_c.proofs.watch_exports.dt_watch_sure.Code as code
use Rattle.dt_c.proofs.watch_slots.WatchSlot.sure.Met.{met}

pub dt_watch_sure_spec : {M : Type 1} → statement M
dt_watch_sure_spec 𝓤 𝓛 𝓜 𝓡 wired = exported 𝓛 𝓜 𝓡 R (time 𝓛) 0 (λ κs. truth & number w64 & none)
    (λ κs a x told h ws. SureIs told a.0 a.1.0 x h) (λ κs. tt) (λ κs. code.unfolded 𝓤 𝓛.H 𝓜 𝓡 wired) (met 𝓤 𝓛 𝓜 𝓡 (code.calls-dt_c::watch_slots::WatchSlot::sure 𝓡.env wired))
