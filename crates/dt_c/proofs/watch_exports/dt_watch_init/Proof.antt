-- `dt_watch_init` writes what `empty_watch_slot` gives where there was room for it.
use Rattle.std.proofs.Common.{refl}
use Rattle.dt_c.proofs.Making.{made}
use Rattle.dt_c.specs.Watching.{empty_watch}
use Rattle.dt_c.specs.contracts.watch_slots.WatchSlot.{the_row as R}
use Rattle.dt_c.proofs.watch_slots.WatchSlot.TheLaws.{the_row_laws}
use Rattle.dt_c.proofs.watch_exports.dt_watch_init.Statement.{statement}
use Rattle.dt_c.proofs.watch_exports.dt_watch_init.Code as code
use Rattle.dt_c.proofs.watch_calls.empty_watch_slot.Met.{met}

pub dt_watch_init_spec : {M : Type 1} → statement M
dt_watch_init_spec 𝓤 𝓛 𝓜 𝓡 wired = made 𝓛 𝓜 𝓡 (record { row = R; lawful = the_row_laws.lawful 𝓛; one = refl }) empty_watch (met 𝓤 𝓛 𝓜 𝓡 (code.calls-dt_c::watch_calls::empty_watch_slot 𝓡.env wired)) (code.unfolded 𝓤 𝓛.H 𝓜 𝓡 wired)
