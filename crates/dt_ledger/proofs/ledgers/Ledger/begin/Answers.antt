use Rattle.std.proofs.Common.{refl}
use Rattle.dt_world_model.specs.Ledgers.{FlowLedger}
use Rattle.dt_ledger.specs.Flows.{ledger_in}
use Rattle.dt_ledger.proofs.Entries.{absent_ok, begun_already, none_there, written_there}
use Rattle.dt_ledger.proofs.ledgers.Ledger.begin.Goals as goal

pub returns-then-is_some-clause-ok : goal.returns-then-is_some-clause-ok
returns-then-is_some-clause-ok c = begun_already c.args.flow.now c.rows.result c.args.self.now c.rows.ensures c.if-is_some.ensures

pub returns-clause-ok : goal.returns-clause-ok
returns-clause-ok c =
    let none = none_there c.args.flow.now c.rows.result c.args.self.now c.rows.ensures c.if-is_some.ensures in
    absent_ok (λ (l : FlowLedger). l) c.args.flow.now c.args.self.now c.add.result c.new-rows.result c.new-rows.result _ _ none c.new-rows.ensures refl refl c.add.ensures.ok

pub returns-clause-there : goal.returns-clause-there
returns-clause-there c = written_there c.add.result c.args.flow.now (ledger_in c.args.self.now c.args.flow.now) c.args.self.now c.add.new.self (returns-clause-ok c)
