use Rattle.dt_flow_model.specs.Ledger.{note_first}
use Rattle.dt_world_model.specs.Ledgers.{FlowLedger}
use Rattle.dt_ledger.proofs.Entries.{changed, on_some}
use Rattle.dt_ledger.proofs.ledgers.Ledger.note_first.Goals as goal

pub returns : goal.returns
returns c =
    changed (λ (l : FlowLedger). record l { taken = note_first c.args.at c.args.place c.args.count l.taken }) c.args.flow.now c.args.self.now _ c.in-Some.rows.now c.note_first.new.self
    c.in-Some.ensures.value c.note_first.ensures (on_some c.rows_mut.result c.in-Some.rows c.in-Some.is (c.rows_mut.follows.holds c.note_first.new.self))
