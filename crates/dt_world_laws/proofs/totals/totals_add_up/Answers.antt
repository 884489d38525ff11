use Rattle.std.proofs.Common.{arith}
use Rattle.dt_world_model.specs.Ledgers.{ledger_of}
use Rattle.dt_world_model.specs.Setup.{new_world}
use Rattle.dt_world_model.specs.World.{view}
use Rattle.dt_world_model.specs.WorldStep.{world_after}
use Rattle.dt_world_laws.proofs.Adding.{given_within, totals_add, totals_taken}
use Rattle.dt_world_laws.proofs.Running.{run_ledger}
use Rattle.dt_world_laws.proofs.totals.totals_add_up.Goals as goal

-- src/totals.rt
pub returns-clause-fates : goal.returns-clause-fates
returns-clause-fates c = totals_add

-- src/totals.rt
pub returns-clause-rows : goal.returns-clause-rows
returns-clause-rows c = totals_taken

-- src/totals.rt
pub returns-clause-given : goal.returns-clause-given
returns-clause-given c = λ setup events f limits can.
    let w = world_after (new_world setup) events in
    let l = ledger_of w.ledgers f in
    let rows = totals_taken l in
    let within = given_within (view w f).sender_life l.taken l.given l.reads (run_ledger setup events f limits can).ledger in
    omega (arith, rows.0, rows.1, within)
