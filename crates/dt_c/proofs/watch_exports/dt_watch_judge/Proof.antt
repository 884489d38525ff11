-- `dt_watch_judge` lends what lies at the handle to `WatchSlot::judge`.
use mir.Syntax.{named}
use Rattle.dt_c.proofs.Exports.{exported, status}
use Rattle.dt_c.proofs.Parameters.{none, shared, ◌&◌}
use Rattle.dt_c.specs.Watching.{Judging}
use Rattle.dt_c.specs.contracts.watch_structs.CArrival.{the_row as CArrival}
use Rattle.dt_c.specs.contracts.watch_slots.WatchSlot.{the_row as R}
use Rattle.dt_c.proofs.watch_exports.dt_watch_judge.Statement.{statement}
use Rattle.dt_c.proofs.watch_exports.dt_watch_judge.Code as code
use Rattle.dt_c.proofs.watch_slots.WatchSlot.judge.Met.{met}

pub dt_watch_judge_spec : {M : Type 1} → statement M
dt_watch_judge_spec 𝓤 𝓛 𝓜 𝓡 wired = exported 𝓛 𝓜 𝓡 R (status 𝓛) 1 (λ κs. shared (named 0) κs.0 CArrival & none)
    (λ κs a x told h ws. Judging told a.0.now x h) (λ κs. tt) (λ κs. code.unfolded 𝓤 𝓛.H 𝓜 𝓡 wired) (met 𝓤 𝓛 𝓜 𝓡 (code.calls-dt_c::watch_slots::WatchSlot::judge 𝓡.env wired))
