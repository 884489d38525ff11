use Rattle.std.proofs.Common.{ℕ, ap, sym, ◌∙◌}
use Rattle.dt_flow_model.specs.Flow.{crossings_told, run_told}
use Rattle.dt_flow_model.specs.Ledger.{first_unsent}
use Rattle.dt_world_model.specs.Ledgers.{FlowLedger, FlowRun, Transmits}
use Rattle.dt_world_model.proofs.Maps.{flow_not_found}
use Rattle.dt_ledger.proofs.Entries.{ledger_there}
use Rattle.dt_notes.specs.Occasions.{occasion_seen}
use Rattle.dt_notes.proofs.RunTables.{both_change, rows_change, run_changes}
use Rattle.dt_notes.proofs.notes.transmit.Goals as goal

pub returns-clause-becomes : goal.returns-clause-becomes
returns-clause-becomes c =
    let n = c.args.notes.now in
    let o = occasion_seen c.args.context.now in
    let f = c.args.flow.now in
    let t = Transmits c.args.count in
    let run = c.in-Some.run'.now in
    let place = c.note_next-place.ensures.place ∙ ap (λ (l : FlowLedger). first_unsent o.life l.taken) (ledger_there f n.ledger c.in-Some-rows_mut.rows.now c.in-Some-rows_mut.ensures.value) in
    let went = λ (place : ℕ). let told : FlowRun = record { run = run_told o.params place o.now run.run; crossings = crossings_told o.params place o.now run.run run.crossings } in told in
    both_change o t f n.ledger n.runs.entries _ _
    (rows_change o t f n.ledger n.runs.entries c.rows_mut.result c.in-Some-rows_mut.rows c.in-Some-rows_mut.rows.now c.note_next-place.new.self _ c.in-Some-rows_mut.is (c.rows_mut.follows.holds c.note_next-place.new.self) c.in-Some-rows_mut.ensures.value c.note_next-place.ensures.noted)
    (run_changes o t f n.ledger n.runs.entries run c.transmit.new.self _ c.in-Some.ensures.value ((c.get_mut.follows.holds c.transmit.new.self).0) (c.transmit.ensures ∙ ap went place))

pub unreachable-requires : goal.unreachable-requires
unreachable-requires c = flow_not_found c.args.flow.now c.args.notes.now.runs.entries c.requires.there.run (sym c.in_default.ensures.value)
