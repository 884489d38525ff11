-- `dt_watch_shrink` lends what lies at the handle to `WatchSlot::shrink`.
use mir.Syntax.{w32}
use Rattle.dt_c.proofs.Exports.{exported, status}
use Rattle.dt_c.proofs.Parameters.{none, number, ◌&◌}
use Rattle.dt_c.specs.Watching.{Shrinking}
use Rattle.dt_c.specs.contracts.watch_slots.WatchSlot.{the_row as R}
use Rattle.dt_c.proofs.watch_exports.dt_watch_shrink.Statement.{statement}
use Rattle.dt_c.proofs.watch_exports.dt_watch_shrink.Code as code
use Rattle.dt_c.proofs.watch_slots.WatchSlot.shrink.Met.{met}

pub dt_watch_shrink_spec : {M : Type 1} → statement M
dt_watch_shrink_spec 𝓤 𝓛 𝓜 𝓡 wired = exported 𝓛 𝓜 𝓡 R (status 𝓛) 0 (λ κs. number w32 & none)
    (λ κs a x told h ws. Shrinking told a.0 x h) (λ κs. tt) (λ κs. code.unfolded 𝓤 𝓛.H 𝓜 𝓡 wired) (met 𝓤 𝓛 𝓜 𝓡 (code.calls-dt_c::watch_slots::WatchSlot::shrink 𝓡.env wired))
