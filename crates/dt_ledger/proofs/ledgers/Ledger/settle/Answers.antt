use Rattle.dt_world_model.specs.Ledgers.{FlowLedger}
use Rattle.dt_ledger.specs.Rows.{settle_at}
use Rattle.dt_ledger.proofs.Entries.{changed, on_some}
use Rattle.dt_ledger.proofs.ledgers.Ledger.settle.Goals as goal

pub returns : goal.returns
returns c =
    changed (λ (l : FlowLedger). record l { taken = settle_at c.args.fate c.args.place c.args.count l.taken }) c.args.flow.now c.args.self.now _ c.in-Some.rows.now c.settle.new.self
    c.in-Some.ensures.value c.settle.ensures (on_some c.rows_mut.result c.in-Some.rows c.in-Some.is (c.rows_mut.follows.holds c.settle.new.self))
