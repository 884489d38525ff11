use Rattle.std.proofs.Common.{subst, sym}
use Rattle.dt_notes.specs.Notes.{IsThere, ledgers_seen}
use Rattle.dt_notes.proofs.RunTables.{begun_there, both_begin, run_begins}
use Rattle.dt_notes.proofs.notes.begin.Goals as goal

pub returns-clause-ok : goal.returns-clause-ok
returns-clause-ok c =
    let n = c.args.notes.now in
    let f = c.args.flow.now in
    both_begin f (ledgers_seen n) c.begin.new.self c.begin_run.new.runs.entries c.in_ok-begin.ensures.ok
    (run_begins f c.make_room.new.runs.entries c.begin_run.new.runs.entries n.runs.entries c.begin_run.ensures c.make_room.ensures.same)

pub returns-clause-there : goal.returns-clause-there
returns-clause-there c =
    let n = c.args.notes.now in
    let f = c.args.flow.now in
    subst (IsThere f)
    (sym (both_begin f (ledgers_seen n) c.begin.new.self c.begin_run.new.runs.entries c.in_ok-begin.ensures.ok
    (run_begins f c.make_room.new.runs.entries c.begin_run.new.runs.entries n.runs.entries c.begin_run.ensures c.make_room.ensures.same)))
    (begun_there f (ledgers_seen n))
