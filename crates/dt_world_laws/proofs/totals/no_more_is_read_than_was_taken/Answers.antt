use Rattle.std.proofs.Common.{◌+◌, ◌≤◌, length, arith}
use Rattle.dt_world_model.specs.Ledgers.{ledger_of}
use Rattle.dt_world_model.specs.Station.{station_event}
use Rattle.dt_world_model.specs.Tables.{total}
use Rattle.dt_world_model.specs.World.{Noted, placed, view, world_handler}
use Rattle.dt_world_model.specs.WorldFacts.{SafeLedgers}
use Rattle.dt_world_model.specs.WorldStep.{noted_at, occasion}
use Rattle.dt_world_laws.proofs.Adding.{along_weaker, given_within, read_within_given}
use Rattle.dt_world_laws.proofs.Alongside.{ledger_safe_along}
use Rattle.dt_world_laws.proofs.totals.no_more_is_read_than_was_taken.Goals as goal

-- src/totals.rt
pub returns-clause-read : goal.returns-clause-read
returns-clause-read c = λ life l safe. read_within_given life l.taken l.given l.reads safe

-- src/totals.rt
pub returns-clause-given : goal.returns-clause-given
returns-clause-given c = λ life l safe. given_within life l.taken l.given l.reads safe

-- src/totals.rt
pub returns-clause-along : goal.returns-clause-along
returns-clause-along c = λ w n at e f limits facts there can.
    along_weaker (world_handler (occasion w n e)) (λ (d : Noted). SafeLedgers w d.ledgers) (λ (d : Noted). total (λ r. r.count) (ledger_of d.ledgers f).reads ≤ length (ledger_of d.ledgers f).taken)
    (λ d safe.
    let l = ledger_of d.ledgers f in
    let life = (view w f).sender_life in
    let read = read_within_given life l.taken l.given l.reads (safe f) in
    let given = given_within life l.taken l.given l.reads (safe f) in
    omega (arith, read, given))
    (station_event w.params (w.now + (placed w n).zero) e (placed w n).station) (noted_at w) (ledger_safe_along w n at e limits facts there can)
