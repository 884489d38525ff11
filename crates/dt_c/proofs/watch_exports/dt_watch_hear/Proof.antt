-- `dt_watch_hear` lends what lies at the handle to `WatchSlot::hear`.
use mir.Syntax.{named}
use Rattle.dt_c.proofs.Exports.{exported, status}
use Rattle.dt_c.proofs.Parameters.{none, shared, truth, ◌&◌}
use Rattle.dt_c.specs.Watching.{Hearing}
use Rattle.dt_c.specs.contracts.watch_structs.CPassage.{the_row as CPassage}
use Rattle.dt_c.specs.contracts.watch_slots.WatchSlot.{the_row as R}
use Rattle.dt_c.proofs.watch_exports.dt_watch_hear.Statement.{statement}
use Rattle.dt_c.proofs.watch_exports.dt_watch_hear.Code as code
use Rattle.dt_c.proofs.watch_slots.WatchSlot.hear.Met.{met}

pub dt_watch_hear_spec : {M : Type 1} → statement M
dt_watch_hear_spec 𝓤 𝓛 𝓜 𝓡 wired = exported 𝓛 𝓜 𝓡 R (status 𝓛) 1 (λ κs. truth & shared (named 0) κs.0 CPassage & none)
    (λ κs a x told h ws. Hearing told a.0 a.1.0.now x h) (λ κs. tt) (λ κs. code.unfolded 𝓤 𝓛.H 𝓜 𝓡 wired) (met 𝓤 𝓛 𝓜 𝓡 (code.calls-dt_c::watch_slots::WatchSlot::hear 𝓡.env wired))
