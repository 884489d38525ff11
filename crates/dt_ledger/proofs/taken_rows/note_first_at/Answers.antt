use Rattle.std.proofs.Common.{◌+◌, sym, ◌∙◌, arith}
use Rattle.dt_ledger.proofs.Passing.{noted}
use Rattle.dt_ledger.proofs.Settling.{change_end, change_step, note_first_is}
use Rattle.dt_ledger.proofs.taken_rows.note_first_at.Goals as goal

pub loop-i-preserved : goal.loop-i-preserved
loop-i-preserved c =
    change_step (noted c.args.at.milliseconds) c.loop-i.i (c.args.place + c.args.count) c.loop-i.rows c.index-rows-i.result c.note_first.new.self _ (omega arith) (omega arith) c.note_first.ensures c.loop-i.invariant

pub returns : goal.returns
returns c =
    change_end (noted c.args.at.milliseconds) c.loop-i.i (c.args.place + c.args.count) c.loop-i.rows _ (omega arith) c.loop-i.invariant
    ∙ sym (note_first_is c.args.at.milliseconds c.args.place c.args.count c.args.rows.now)
