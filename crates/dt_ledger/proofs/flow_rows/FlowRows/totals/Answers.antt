use Rattle.std.proofs.Common.{ap, ◌∙◌}
use Rattle.dt_world_model.specs.Ledgers.{FlowLedger, totals_of}
use Rattle.dt_ledger.proofs.Summing.{totals_are}
use Rattle.dt_ledger.proofs.flow_rows.FlowRows.totals.Goals as goal

pub returns : goal.returns
returns c =
    let l : FlowLedger = record { taken = c.self.inside.taken; given = c.self.inside.given; reads = c.self.inside.reads } in
    totals_are l c.counts-counts.result c.count.result c.count-2.result c.all.result c.counts-counts.ensures c.count.ensures c.count-2.ensures c.all.ensures
    ∙ ap totals_of c.self.view_is
