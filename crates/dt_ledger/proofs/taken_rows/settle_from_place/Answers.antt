use Rattle.std.proofs.Common.{◌+◌, ◌<◌, sym, subst, ap, ◌∙◌, length, arith}
use Rattle.dt_flow_model.specs.declared.rows.Fate.{Fate}
use Rattle.dt_ledger.specs.Rows.{and_one, count_of, with_fate}
use Rattle.dt_ledger.proofs.Counting.{all_counts, counts-with, counts_again, counts_some, rest_of}
use Rattle.dt_ledger.proofs.Settling.{change_end, change_step}
use Rattle.dt_ledger.proofs.taken_rows.settle_from_place.Goals as goal

pub change-requires-clause-there : goal.change-requires-clause-there
change-requires-clause-there c =
    let there : c.loop-i.i < length c.loop-i.rows = omega arith in
    subst (λ (f : Fate). 0 < count_of f c.loop-i.counts) (sym c.fate.ensures) (counts_some c.loop-i.rows c.loop-i.i c.index-rows-i.result there c.loop-i.counts c.loop-i.invariant.1)

pub change-requires-clause-fits : goal.change-requires-clause-fits
change-requires-clause-fits c = omega (arith, all_counts c.loop-i.counts c.loop-i.rows c.loop-i.invariant.1)

pub loop-i-preserved : goal.loop-i-preserved
loop-i-preserved c =
    let there : c.loop-i.i < length c.loop-i.rows = omega arith in
    let x = c.index-rows-i.result in
    let rest = rest_of c.loop-i.i c.loop-i.rows in
    let counted = counts-with c.loop-i.rows c.loop-i.i x there c.loop-i.counts c.loop-i.invariant.1 in
    let one = c.change.ensures rest (counted ∙ ap (λ (f : Fate). and_one f rest) (sym c.fate.ensures)) in (
      change_step (with_fate c.args.fate) c.loop-i.i (c.args.place + c.args.count) c.loop-i.rows x c.settle.new.self _ there (omega arith) c.settle.ensures c.loop-i.invariant.0,
      counts_again c.loop-i.rows c.loop-i.i x there c.loop-i.counts c.loop-i.invariant.1 c.settle.new.self c.args.fate c.change.new.self c.settle.ensures one,
    )

pub returns-clause-settled : goal.returns-clause-settled
returns-clause-settled c =
    change_end (with_fate c.args.fate) c.loop-i.i (c.args.place + c.args.count) c.loop-i.rows _ (omega arith) c.loop-i.invariant.0
