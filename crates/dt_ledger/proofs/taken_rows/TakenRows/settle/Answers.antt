use Rattle.std.proofs.Common.{ap, arith, ◌∙◌}
use Rattle.dt_ledger.specs.Rows.{fates_in, settle_at, with_fate}
use Rattle.dt_ledger.proofs.Beside.{beside_settled_at, beside_written}
use Rattle.dt_ledger.proofs.Settling.{length-change_at}
use Rattle.dt_ledger.proofs.taken_rows.TakenRows.settle.Goals as goal

pub invariant_of-self : goal.invariant_of-self
invariant_of-self c =
    let inside = c.self.inside in
    let rows = inside.rows.items in
    let fate = c.args.fate in
    let is = c.settle_from_place.ensures.settled ∙ ap (settle_at fate c.args.place c.args.count) c.deref_mut.ensures.value in
    let a = c.reopened-self-inside.ensures in
    let b = c.reopened-self-inside-2.ensures in
    beside_written c.settle_from_place.new.counts _ inside.rows.len c.settle_from_place.new.rows rows (settle_at fate c.args.place c.args.count rows) is
    (length-change_at (with_fate fate) c.args.place c.args.count rows)
    (omega (arith, inside.rows.ok.0))
    (beside_settled_at inside.counts c.settle_from_place.new.counts inside.progress c.reopened-self-inside.result c.reopened-self-inside-2.result fate c.args.place c.args.count rows
    (c.settle_from_place.ensures.counted ∙ ap fates_in is)
    a.life a.below (λ y. omega (arith, a.again y)) b.life b.below (λ y. omega (arith, b.again y)) c.self.invariant)
