use Rattle.std.proofs.Common.{List, ap, ◌∙◌}
use Rattle.dt_units.specs.declared.endpoints.Flow.{Flow}
use Rattle.dt_world_model.specs.Ledgers.{FlowLedger}
use Rattle.dt_world_model.specs.Tables.{same_flow, write}
use Rattle.dt_ledger.proofs.Entries.{inserted}
use Rattle.dt_ledger.proofs.ledgers.Ledger.add.Goals as goal

pub returns-clause-ok : goal.returns-clause-ok
returns-clause-ok c =
    let f = c.args.flow.now in
    c.in_ok-insert.ensures.entries
    ∙ inserted f c.args.rows c.self.inside.flows.entries
    ∙ ap (λ (es : List (Flow × FlowLedger)). write same_flow f c.args.rows es) c.self.view_is
