use Rattle.std.proofs.Common.{is_some, ap, sym, ◌∙◌}
use Rattle.dt_world_model.proofs.Maps.{flow_absent, flow_looked, flow_not_found}
use Rattle.dt_notes.proofs.RunTables.{after_an_error}
use Rattle.dt_notes.proofs.notes.make_room.Goals as goal

pub returns-then-contains_key-clause-room : goal.returns-then-contains_key-clause-room
returns-then-contains_key-clause-room c = λ none.
    let f = c.args.flow.now in
    let es = c.args.runs.now.entries in
    flow_not_found f es (sym (c.if-contains_key.ensures ∙ ap is_some (flow_looked f es))) (flow_looked f es ∙ none)

pub returns-in_err-reserve-clause-memory : goal.returns-in_err-reserve-clause-memory
returns-in_err-reserve-clause-memory c = after_an_error c.from_residual.result (flow_absent c.args.flow.now c.args.runs.now.entries c.if-contains_key.ensures)
