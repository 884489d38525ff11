use Rattle.dt_world_model.specs.Ledgers.{ReadsOut}
use Rattle.dt_notes.specs.Occasions.{occasion_seen}
use Rattle.dt_notes.proofs.RunTables.{both_change, run_begins}
use Rattle.dt_notes.proofs.notes.read.Goals as goal

pub returns-clause-ok : goal.returns-clause-ok
returns-clause-ok c =
    let n = c.args.notes.now in
    let o = occasion_seen c.args.context.now in
    let f = c.args.flow.now in
    both_change o (ReadsOut c.args.count) f n.ledger n.runs.entries c.note_read.new.self c.begin_run.new.runs.entries c.in_ok-note_read.ensures.ok
    (run_begins f c.make_room.new.runs.entries c.begin_run.new.runs.entries n.runs.entries c.begin_run.ensures c.make_room.ensures.same)
