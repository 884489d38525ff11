-- Each case is a key, and each key has its row.
use Rattle.std.proofs.Common.{true, false, Some, None}
use Rattle.dt_units.specs.declared.order.Relation.TheVariants.{Below, Equal, Above}
use Rattle.dt_recv.proofs.Codes.{by_row}
use Rattle.dt_recv.proofs.cases.action_at.Goals as goal

pub returns-clause-data : goal.returns-clause-data
returns-clause-data c false false None key = by_row _ _ _ (rw (c.cases.ensures.table, key) at c.pick.ensures) c.coded.ensures
returns-clause-data c false false (Some Below) key = by_row _ _ _ (rw (c.cases.ensures.table, key) at c.pick.ensures) c.coded.ensures
returns-clause-data c false false (Some Equal) key = by_row _ _ _ (rw (c.cases.ensures.table, key) at c.pick.ensures) c.coded.ensures
returns-clause-data c false false (Some Above) key = by_row _ _ _ (rw (c.cases.ensures.table, key) at c.pick.ensures) c.coded.ensures
returns-clause-data c false true None key = by_row _ _ _ (rw (c.cases.ensures.table, key) at c.pick.ensures) c.coded.ensures
returns-clause-data c false true (Some Below) key = by_row _ _ _ (rw (c.cases.ensures.table, key) at c.pick.ensures) c.coded.ensures
returns-clause-data c false true (Some Equal) key = by_row _ _ _ (rw (c.cases.ensures.table, key) at c.pick.ensures) c.coded.ensures
returns-clause-data c false true (Some Above) key = by_row _ _ _ (rw (c.cases.ensures.table, key) at c.pick.ensures) c.coded.ensures
returns-clause-data c true false None key = by_row _ _ _ (rw (c.cases.ensures.table, key) at c.pick.ensures) c.coded.ensures
returns-clause-data c true false (Some Below) key = by_row _ _ _ (rw (c.cases.ensures.table, key) at c.pick.ensures) c.coded.ensures
returns-clause-data c true false (Some Equal) key = by_row _ _ _ (rw (c.cases.ensures.table, key) at c.pick.ensures) c.coded.ensures
returns-clause-data c true false (Some Above) key = by_row _ _ _ (rw (c.cases.ensures.table, key) at c.pick.ensures) c.coded.ensures
returns-clause-data c true true None key = by_row _ _ _ (rw (c.cases.ensures.table, key) at c.pick.ensures) c.coded.ensures
returns-clause-data c true true (Some Below) key = by_row _ _ _ (rw (c.cases.ensures.table, key) at c.pick.ensures) c.coded.ensures
returns-clause-data c true true (Some Equal) key = by_row _ _ _ (rw (c.cases.ensures.table, key) at c.pick.ensures) c.coded.ensures
returns-clause-data c true true (Some Above) key = by_row _ _ _ (rw (c.cases.ensures.table, key) at c.pick.ensures) c.coded.ensures

pub returns-clause-close : goal.returns-clause-close
returns-clause-close c None key = by_row _ _ _ (rw (c.cases.ensures.table, key) at c.pick.ensures) c.coded.ensures
returns-clause-close c (Some false) key = by_row _ _ _ (rw (c.cases.ensures.table, key) at c.pick.ensures) c.coded.ensures
returns-clause-close c (Some true) key = by_row _ _ _ (rw (c.cases.ensures.table, key) at c.pick.ensures) c.coded.ensures
