-- `dt_watch_window` lends what lies at the handle to `WatchSlot::window`.
use Rattle.dt_c.proofs.Exports.{exported, time}
use Rattle.dt_c.proofs.Parameters.{none}
use Rattle.dt_c.specs.Watching.{WindowIs}
use Rattle.dt_c.specs.contracts.watch_slots.WatchSlot.{the_row as R}
use Rattle.dt_c.proofs.watch_exports.dt_watch_window.Statement.{statement}
use Rattle.dt_c.proofs.watch_exports.dt_watch_window.Code as code
use Rattle.dt_c.proofs.watch_slots.WatchSlot.window.Met.{met}

pub dt_watch_window_spec : {M : Type 1} → statement M
dt_watch_window_spec 𝓤 𝓛 𝓜 𝓡 wired = exported 𝓛 𝓜 𝓡 R (time 𝓛) 0 (λ κs. none)
    (λ κs a x told h ws. WindowIs told x h) (λ κs. tt) (λ κs. code.unfolded 𝓤 𝓛.H 𝓜 𝓡 wired) (met 𝓤 𝓛 𝓜 𝓡 (code.calls-dt_c::watch_slots::WatchSlot::window 𝓡.env wired))
