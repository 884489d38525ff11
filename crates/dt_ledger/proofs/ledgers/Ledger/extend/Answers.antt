use Rattle.dt_ledger.specs.Additions.{added}
use Rattle.dt_ledger.proofs.Entries.{absent_ok, there_err, there_ok}
use Rattle.dt_ledger.proofs.ledgers.Ledger.extend.Goals as goal

pub returns-in-Some-clause-ok : goal.returns-in-Some-clause-ok
returns-in-Some-clause-ok c =
    there_ok (added c.args.addition.now) c.args.flow.now c.args.self.now
    c.extend.result c.rows_mut.result c.in-Some.rows c.in-Some.rows.now c.extend.new.self _ c.in-Some.is (c.rows_mut.follows.holds c.extend.new.self) c.in-Some.ensures.value c.extend.ensures.ok

pub returns-in-Some-clause-err : goal.returns-in-Some-clause-err
returns-in-Some-clause-err c =
    there_err (added c.args.addition.now) c.args.flow.now c.args.self.now
    c.extend.result c.rows_mut.result c.in-Some.rows c.in-Some.rows.now c.extend.new.self _ c.in-Some.is (c.rows_mut.follows.holds c.extend.new.self) c.in-Some.ensures.value c.extend.ensures.err

-- refused here: a_new_flow_comes_first
pub returns-clause-ok : goal.returns-clause-ok
returns-clause-ok c =
    absent_ok (added c.args.addition.now) c.args.flow.now c.args.self.now
    c.add.result c.new-rows.result c.extend-2.new.self _ _ c.in_default.ensures.value c.new-rows.ensures c.in_ok-extend.ensures.ok c.rows_mut.follows.holds-at-none c.add.ensures.ok
