-- What the ledger of all flows becomes once the loan of one flow's ledger is over.
use Rattle.std.specs.Prelude.{◌≡◌, Option, OnSome}
use Rattle.std.specs.Borrow.{Fml, LendsSo, MutBor}
use Rattle.dt_units.specs.declared.endpoints.Flow.{Flow}
use Rattle.dt_ledger.specs.declared.flow_rows.FlowRows.{FlowRows}
use Rattle.dt_ledger.specs.declared.ledgers.Ledger.{Ledger}
use Rattle.dt_ledger.specs.contracts.flow_rows.FlowRows as rows
use Rattle.dt_ledger.specs.contracts.ledgers.Ledger as ledger
use Rattle.dt_world_model.specs.Tables.{same_flow, write}

-- the flow's ledger is the one that was written through the loan; where none is lent all stays
abbrev pub LendsRows : MutBor Ledger → Flow → Option (MutBor FlowRows) → Fml
LendsRows l f r = LendsSo ledger.the_row rows.the_row l r (λ n w. OnSome r (n ≡ write same_flow f w l.now)) (λ n. n ≡ l.now)
