use Rattle.std.proofs.Common.{refl}
use Rattle.dt_world_model.specs.Ledgers.{Settles}
use Rattle.dt_notes.specs.Occasions.{occasion_seen}
use Rattle.dt_notes.proofs.RunTables.{rows_change_alone}
use Rattle.dt_notes.proofs.notes.acknowledge.Goals as goal

pub returns-clause-becomes : goal.returns-clause-becomes
returns-clause-becomes c =
    rows_change_alone (occasion_seen c.args.context.now) (Settles c.args.count) c.args.flow.now c.args.notes.now.ledger c.args.notes.now.runs.entries
    c.rows_mut.result c.in-Some.rows c.in-Some.rows.now c.settle_open.new.self _ c.in-Some.is (c.rows_mut.follows.holds c.settle_open.new.self) c.in-Some.ensures.value refl c.requires.there.run c.settle_open.ensures
