use Rattle.std.proofs.Common.{◌≡◌, ◌+◌, ◌-◌, ◌≤◌, length, take, drop, ap, sym, ◌∙◌, arith}
use Rattle.std.proofs.lemmas.List.{drop_all}
use Rattle.dt_items.specs.Unmarked.{unmarked_count}
use Rattle.dt_items.proofs.Counts.{counts_block, counts_no_more, counts_on}
use Rattle.dt_items.proofs.Marks.{blank}
use Rattle.dt_items.proofs.octets.unmarked_in.Goals as goal

pub loop-done-preserved : goal.loop-done-preserved
loop-done-preserved c =
    let items = c.args.items.now in
    let done = c.loop-done.done in
    let size : done + 64 - done ≡ 64 = omega arith in
    let within : done + 64 ≤ length items = omega (arith, c.loop-done.invariant.0, c.loop-done-test.true) in
    let all = c.are_unmarked.ensures c.if-are_unmarked.true in
    let block : unmarked_count (take 64 (drop done items)) ≡ length (take 64 (drop done items)) = rw size at all in
    (within, counts_block items done 64 within block c.loop-done.invariant.1)

pub loop-i-preserved : goal.loop-i-preserved
loop-i-preserved c = omega (arith, c.loop-i.invariant, counts_on c.args.items.now c.loop-i.i blank c.loop-i-test.true (sym c.is_unmarked.ensures ∙ c.if-not-is_unmarked.false))

pub returns-then-not-is_unmarked-clause-value : goal.returns-then-not-is_unmarked-clause-value
returns-then-not-is_unmarked-clause-value c = omega (arith, c.loop-i.invariant, counts_no_more c.args.items.now c.loop-i.i blank c.loop-i-test.true (sym c.is_unmarked.ensures ∙ c.if-not-is_unmarked.true))

pub returns-clause-value : goal.returns-clause-value
returns-clause-value c = omega (arith, c.loop-i.invariant, ap unmarked_count (drop_all c.loop-i.i c.args.items.now (omega arith)))
