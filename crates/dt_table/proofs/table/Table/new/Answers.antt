use Rattle.dt_table.proofs.Closing.{empty_placed}
use Rattle.dt_table.proofs.table.Table.new.Goals as goal

pub returns-clause-table : goal.returns-clause-table
returns-clause-table g c = empty_placed c.args.kinds c.new.result c.new-2.result.items c.in_ok-new.field-0 c.new.ensures c.new-2.ensures.items c.in_ok-new.ensures.kinds c.in_ok-new.ensures.none
