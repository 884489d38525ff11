use Rattle.std.proofs.Common.{◌≡◌, ◌<◌, ◌==◌, false, get_or, sym, subst, ap, ◌∙◌, true, arith}
use Rattle.std.proofs.lemmas.Bool.{and_parts}
use Rattle.std.proofs.lemmas.List.{get_or_default, length-set}
use Rattle.dt_flow_model.specs.declared.rows.Fate.{Fate}
use Rattle.dt_flow_model.specs.declared.rows.Fate.TheVariants.{Open}
use Rattle.dt_flow_model.specs.declared.rows.Taken.{Taken}
use Rattle.dt_flow_model.specs.Ledger.{is_open, is_open_in}
use Rattle.dt_ledger.specs.Rows.{and_one, count_of}
use Rattle.dt_ledger.proofs.Counting.{all_counts, counts-with, counts_again, counts_some, open_fate, rest_of}
use Rattle.dt_ledger.proofs.Passing.{closed_is_not_open, none_on, none_on_set}
use Rattle.dt_ledger.proofs.Settling.{settle_nowhere, settle_step}
use Rattle.dt_ledger.proofs.taken_rows.settle_leftmost.Goals as goal
use Rattle.dt_ledger.proofs.taken_rows.settle_leftmost.Goals.{then-is_open_in, else-is_open_in}

pub change-requires-clause-there : goal.change-requires-clause-there
change-requires-clause-there c =
    let x = c.index-rows-below.result in
    let row = get_or c.loop-left.rows c.loop-left.below x in
    let is_it : row.fate ≡ Open = open_fate row.fate (and_parts (is_open row.fate) (row.life == c.args.from.life) (sym c.is_open_in.ensures ∙ c.if-is_open_in.true)).0 in
    subst (λ (f : Fate). 0 < count_of f c.loop-left.counts) is_it (counts_some c.loop-left.rows c.loop-left.below x c.if-below-rows.true c.loop-left.counts c.loop-left.invariant.counted)

pub change-requires-clause-fits : goal.change-requires-clause-fits
change-requires-clause-fits c = omega (arith, all_counts c.loop-left.counts c.loop-left.rows c.loop-left.invariant.counted)

pub loop-left-preserved : goal.loop-left-preserved
loop-left-preserved c =
    let life = c.args.from.life in
    let rows = c.loop-left.rows in
    let below = c.loop-left.below in
    let x = c.index-rows-below.result in
    elim c.if-is_open_in.branch [
      | then-is_open_in w ↦
          let d = w.index-rows-below-then-is_open_in.result in
          let row = get_or rows below d in
          let same_row : get_or rows below x ≡ row = get_or_default rows below x d c.if-below-rows.true in
          let here : is_open_in life row ≡ true = subst (λ (r : Taken). is_open_in life r ≡ true) same_row (sym c.is_open_in.ensures ∙ w.if-is_open_in.true) in
          let is_it : row.fate ≡ Open = open_fate row.fate (and_parts (is_open row.fate) (row.life == life) here).0 in
          let counted = counts-with rows below d c.if-below-rows.true c.loop-left.counts c.loop-left.invariant.counted in
          let one = w.change.ensures (rest_of below rows) (counted ∙ ap (λ (f : Fate). and_one f (rest_of below rows)) is_it) in
          let y = w.settle.new.self in
          let none : is_open_in life y ≡ false = subst (λ (r : Taken). is_open_in life r ≡ false) (sym w.settle.ensures) (closed_is_not_open c.args.fate c.requires.closed life row) in
          rw (w.rows-is, w.counts-is, w.left-is)
          (record {
            same = settle_step life c.args.fate below c.loop-left.left rows d y _ c.requires.closed c.if-below-rows.true c.loop-left-test.true w.settle.ensures here c.loop-left.invariant.passed c.loop-left.invariant.same;
            counted = counts_again rows below d c.if-below-rows.true c.loop-left.counts c.loop-left.invariant.counted y c.args.fate w.change.new.self w.settle.ensures one;
            within = omega (arith, length-set rows below y);
            passed = none_on_set (is_open_in life) below rows y none c.loop-left.invariant.passed;
          })
      | else-is_open_in w ↦
          let none : is_open_in life (get_or rows below x) ≡ false = sym c.is_open_in.ensures ∙ w.if-is_open_in.false in
          rw (w.rows-is, w.counts-is, w.left-is)
          (record {
            same = c.loop-left.invariant.same;
            counted = c.loop-left.invariant.counted;
            within = omega arith;
            passed = none_on (is_open_in life) below rows x c.if-below-rows.true none c.loop-left.invariant.passed;
          })
    ]

pub returns-else-below-rows-clause-settled : goal.returns-else-below-rows-clause-settled
returns-else-below-rows-clause-settled c =
    sym (settle_nowhere c.args.from.life c.args.fate c.loop-left.below c.loop-left.left c.loop-left.rows c.if-below-rows.false c.loop-left.invariant.passed)
    ∙ c.loop-left.invariant.same
