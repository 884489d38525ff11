use Rattle.std.proofs.Common.{◌≡◌, Option, is_some, ap, sym, ◌∙◌}
use Rattle.std.specs.Prelude.{unwrap_or}
use Rattle.indexmap.specs.IndexMap.{insert_entry}
use Rattle.dt_world_model.specs.Ledgers.{FlowRun}
use Rattle.dt_world_model.specs.Tables.{same_flow, write}
use Rattle.dt_world_model.proofs.Maps.{equal_flows, flow_absent, flow_looked, flow_there}
use Rattle.dt_notes.specs.Notes.{run_in}
use Rattle.dt_notes.specs.Runs.{no_run}
use Rattle.dt_notes.proofs.RunTables.{inserted, ok_holds}
use Rattle.dt_notes.proofs.notes.begin_run.Goals as goal

pub returns-then-not-contains_key : goal.returns-then-not-contains_key
returns-then-not-contains_key c =
    let f = c.args.flow.now in
    let es = c.args.runs.now.entries in
    let none = flow_absent f es c.if-not-contains_key.ensures in
    let entries = ok_holds (c.insert.new.self.entries ≡ insert_entry equal_flows es f c.new.result) c.insert.result (c.insert.ensures.succeeds (c.requires.room none)) c.insert.ensures.entries in
    let absent : run_in es f ≡ no_run = ap (λ (found : Option FlowRun). unwrap_or found no_run) none in
    entries ∙ inserted f c.new.result es ∙ ap (λ (r : FlowRun). write same_flow f r es) (c.new.ensures ∙ sym absent)

pub returns-else-not-contains_key : goal.returns-else-not-contains_key
returns-else-not-contains_key c =
    let f = c.args.flow.now in
    let es = c.args.runs.now.entries in
    flow_there f no_run es (ap is_some (sym (flow_looked f es)) ∙ sym c.if-not-contains_key.ensures)
