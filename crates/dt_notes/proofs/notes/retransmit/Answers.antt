use Rattle.std.proofs.Common.{[], sym}
use Rattle.dt_world_model.specs.Ledgers.{FlowLedger, TransmitsAgain}
use Rattle.dt_world_model.proofs.Maps.{flow_not_found, flow_there}
use Rattle.dt_notes.specs.Occasions.{occasion_seen}
use Rattle.dt_notes.proofs.RunTables.{both_change, run_changes}
use Rattle.dt_notes.proofs.notes.retransmit.Goals as goal

pub returns-clause-becomes : goal.returns-clause-becomes
returns-clause-becomes c =
    let n = c.args.notes.now in
    let o = occasion_seen c.args.context.now in
    let empty : FlowLedger = record { taken = []; given = []; reads = [] } in
    both_change o TransmitsAgain c.args.flow.now n.ledger n.runs.entries n.ledger _ (flow_there c.args.flow.now empty n.ledger c.requires.there.rows)
    (run_changes o TransmitsAgain c.args.flow.now n.ledger n.runs.entries c.in-Some.run'.now c.retransmit.new.self _ c.in-Some.ensures.value ((c.get_mut.follows.holds c.retransmit.new.self).0) c.retransmit.ensures)

pub unreachable-requires : goal.unreachable-requires
unreachable-requires c = flow_not_found c.args.flow.now c.args.notes.now.runs.entries c.requires.there.run (sym c.in_default.ensures.value)
