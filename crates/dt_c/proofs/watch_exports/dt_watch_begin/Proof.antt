-- `dt_watch_begin` lends what lies at the handle to `WatchSlot::begin`.
use mir.Syntax.{w64}
use Rattle.dt_c.proofs.Exports.{exported, status}
use Rattle.dt_c.proofs.Parameters.{none, number, truth, ◌&◌}
use Rattle.dt_c.specs.Watching.{Beginning}
use Rattle.dt_c.specs.contracts.watch_slots.WatchSlot.{the_row as R}
use Rattle.dt_c.proofs.watch_exports.dt_watch_begin.Statement.{statement}
use Rattle.dt_c.proofs.watch_exports.dt_watch_begin.Code as code
use Rattle.dt_c.proofs.watch_slots.WatchSlot.begin.Met.{met}

pub dt_watch_begin_spec : {M : Type 1} → statement M
dt_watch_begin_spec 𝓤 𝓛 𝓜 𝓡 wired = exported 𝓛 𝓜 𝓡 R (status 𝓛) 0 (λ κs. truth & number w64 & none)
    (λ κs a x told h ws. Beginning told a.0 a.1.0 x h) (λ κs. tt) (λ κs. code.unfolded 𝓤 𝓛.H 𝓜 𝓡 wired) (met 𝓤 𝓛 𝓜 𝓡 (code.calls-dt_c::watch_slots::WatchSlot::begin 𝓡.env wired))
