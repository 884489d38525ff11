use Rattle.std.proofs.Common.{ap, ◌∙◌, arith}
use Rattle.dt_flow_model.specs.Ledger.{note_first}
use Rattle.dt_ledger.proofs.Beside.{beside_noted, beside_written, length-note_first}
use Rattle.dt_ledger.proofs.taken_rows.TakenRows.note_first.Goals as goal

pub invariant_of-self : goal.invariant_of-self
invariant_of-self c =
    let inside = c.self.inside in
    beside_written inside.counts inside.progress inside.rows.len c.note_first_at.new.rows inside.rows.items (note_first c.args.at.milliseconds c.args.place c.args.count inside.rows.items)
    (c.note_first_at.ensures ∙ ap (note_first c.args.at.milliseconds c.args.place c.args.count) c.deref_mut.ensures.value)
    (length-note_first c.args.at.milliseconds c.args.place c.args.count inside.rows.items)
    (omega (arith, inside.rows.ok.0))
    (beside_noted inside.counts inside.progress c.args.at.milliseconds c.args.place c.args.count inside.rows.items c.self.invariant)
