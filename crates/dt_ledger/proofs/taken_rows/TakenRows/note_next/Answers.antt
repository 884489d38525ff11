use Rattle.std.proofs.Common.{ℕ, ◌≡◌, ◌+◌, ◌-◌, ◌≤◌, List, ap, length, min, ◌∙◌, arith}
use Rattle.dt_flow_model.specs.declared.rows.Taken.{Taken}
use Rattle.dt_flow_model.specs.Ledger.{first_unsent, note_first}
use Rattle.dt_ledger.proofs.Beside.{beside_sent, beside_written, length-note_first, note_first_there, rewritten}
use Rattle.dt_ledger.proofs.taken_rows.TakenRows.note_next.Goals as goal

pub invariant_of-self : goal.invariant_of-self
invariant_of-self c =
    let inside = c.self.inside in
    let rows = inside.rows.items in
    let place = c.first_waiting-place.result in
    let there = c.min-there.result in
    let first : place ≡ first_unsent c.args.life rows = c.first_waiting-place.ensures.place ∙ ap (λ (life : ℕ). first_unsent life c.deref.result.now) c.of.ensures.life ∙ ap (first_unsent c.args.life) c.deref.ensures.value in
    let within : place + there ≤ length rows = omega (arith, inside.rows.ok.0, ap length c.deref.ensures.value) in
    beside_written inside.counts _ inside.rows.len c.note_first_at.new.rows rows (note_first c.args.at.milliseconds place there rows)
    (c.note_first_at.ensures ∙ ap (note_first c.args.at.milliseconds place there) c.deref_mut.ensures.value)
    (length-note_first c.args.at.milliseconds place there rows)
    (omega (arith, inside.rows.ok.0))
    (beside_sent inside.counts inside.progress c.args.at.milliseconds c.args.life place there rows first within c.self.invariant)

pub returns-clause-noted : goal.returns-clause-noted
returns-clause-noted c =
    let inside = c.self.inside in
    let rows = inside.rows.items in
    let place = c.first_waiting-place.result in
    let there = c.min-there.result in
    let first : place ≡ first_unsent c.args.life rows = c.first_waiting-place.ensures.place ∙ ap (λ (life : ℕ). first_unsent life c.deref.result.now) c.of.ensures.life ∙ ap (first_unsent c.args.life) c.deref.ensures.value in
    let within : place ≤ length rows = omega (arith, ap length c.deref.ensures.value) in
    let so_many : there ≡ min (length rows - place) c.args.count = omega (arith, inside.rows.ok.0) in
    let new = c.note_first_at.new.rows in
    let is : new ≡ note_first c.args.at.milliseconds place there rows = c.note_first_at.ensures ∙ ap (note_first c.args.at.milliseconds place there) c.deref_mut.ensures.value in
    rewritten inside.rows.len new rows (ap length is ∙ length-note_first c.args.at.milliseconds place there rows) (omega (arith, inside.rows.ok.0))
    ∙ is
    ∙ ap (λ (n : ℕ). note_first c.args.at.milliseconds place n rows) so_many
    ∙ note_first_there c.args.at.milliseconds place c.args.count rows within
    ∙ ap (λ (n : ℕ). note_first c.args.at.milliseconds n c.args.count rows) first
    ∙ ap (λ (xs : List Taken). note_first c.args.at.milliseconds (first_unsent c.args.life xs) c.args.count xs) c.self.view_is
