use Rattle.std.proofs.lemmas.Grind.{common_steps}
use Rattle.std.proofs.Common.{◌≡◌, ◌<◌, true, nat_lt, sym, ◌∙◌, arith}
use Rattle.std.proofs.lemmas.Bool.Decides.{nat_tests}
use Rattle.dt_items.proofs.Counts.{all_count_on}
use Rattle.dt_items.proofs.Marks.{blank}
use Rattle.dt_items.proofs.octets.are_unmarked.Goals as goal

pub loop-i-preserved : goal.loop-i-preserved
loop-i-preserved c = λ (h : c.greater-greatest.result < 256).
    let greatest = c.greater-greatest.ensures in
    let below : c.loop-i.greatest < 256 = omega arith in
    let this : c.whole.result < 256 = omega arith in
    let tested : nat_lt c.whole.result 256 ≡ true = grind (arith, nat_tests) in
    all_count_on c.args.items.now c.loop-i.i blank c.loop-i-test.true (c.loop-i.invariant below) (sym c.whole.ensures.unmarked ∙ tested)

-- refused here: a_block_with_a_mark_is_passed_over
pub returns : goal.returns
returns c = grind (arith, common_steps)
