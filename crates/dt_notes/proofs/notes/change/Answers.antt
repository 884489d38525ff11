use Rattle.std.proofs.Common.{ap}
use Rattle.dt_notes.specs.Effects.{change_seen, step_seen}
use Rattle.dt_notes.specs.Notes.{ledgers_seen}
use Rattle.dt_notes.specs.Occasions.{occasion_seen}
use Rattle.dt_notes.proofs.RunTables.{begun_then}
use Rattle.dt_notes.proofs.notes.change.Goals as goal

pub returns-in_ok-begin-in-Sends-clause-ok : goal.returns-in_ok-begin-in-Sends-clause-ok
returns-in_ok-begin-in-Sends-clause-ok c =
    begun_then (occasion_seen c.args.context.now) c.args.flow.now (ledgers_seen c.args.notes.now) (ledgers_seen c.begin.new.notes) (ledgers_seen c.send.new.notes) (change_seen c.args.change) (step_seen c.in-Sends.step)
    (ap change_seen c.in-Sends.is) c.in_ok-begin-in-Sends.ensures.ok c.send.ensures.becomes
