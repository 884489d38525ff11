use Rattle.std.proofs.Common.{◌≤◌, ◌+◌, length, take, ap, ◌∙◌, length-append, length-drop, length-take, arith}
use Rattle.dt_items.specs.Unmarked.{unmarked_count}
use Rattle.dt_items.proofs.Counts.{count_in_both, count_in_front}
use Rattle.dt_items.proofs.octets.unmarked_from.Goals as goal

pub overflow_add-result : goal.overflow_add-result
overflow_add-result c =
    let one : c.unmarked_in-count.result ≤ c.min-there.result = omega (arith, c.unmarked_in-count.ensures.within, length-take c.min-there.result c.items_from.result.0.now, c.min-there.ensures) in
    let two : c.unmarked_in.result ≤ c.min-left.result = omega (arith, c.unmarked_in.ensures.within, length-take c.min-left.result c.items_from.result.1.now, c.min-left.ensures) in
    let all : c.unmarked_in-count.result + c.unmarked_in.result ≤ c.args.most = omega (arith, one, two, c.min-there.ensures, c.min-left.ensures) in
    omega arith

pub returns-then-count-there-clause-value : goal.returns-then-count-there-clause-value
returns-then-count-there-clause-value c =
    let front = c.items_from.result.0.now in
    let back = c.items_from.result.1.now in
    let less = c.unmarked_in-count.ensures.value in
    less
    ∙ count_in_front front back c.args.most c.min-there.result c.min-there.ensures (omega arith)
    ∙ ap (λ items. unmarked_count (take c.args.most items)) c.items_from.ensures

pub returns-then-count-there-clause-within : goal.returns-then-count-there-clause-within
returns-then-count-there-clause-within c =
    let front = c.items_from.result.0.now in
    let back = c.items_from.result.1.now in
    omega (arith, length-append front back, ap length c.items_from.ensures, length-drop c.args.from c.args.items.now.items, c.min-there.ensures, c.requires)

pub returns : goal.returns
returns c =
    let front = c.items_from.result.0.now in
    let back = c.items_from.result.1.now in
    let most = c.args.most in
    let there = c.min-there.result in
    let left = c.min-left.result in
    let first = c.unmarked_in-count.ensures.value in
    let second = c.unmarked_in.ensures.value in
    let one : c.unmarked_in-count.result ≤ there = omega (arith, c.unmarked_in-count.ensures.within, length-take there front, c.min-there.ensures) in
    let two : c.unmarked_in.result ≤ left = omega (arith, c.unmarked_in.ensures.within, length-take left back, c.min-left.ensures) in
    let same = count_in_both front back most there left c.min-there.ensures (omega arith) c.min-left.ensures in
    record {
      value = omega (arith, first, second, same) ∙ ap (λ items. unmarked_count (take most items)) c.items_from.ensures;
      most = omega (arith, one, two, c.min-there.ensures, c.min-left.ensures);
      within = omega (arith, one, two, length-append front back, ap length c.items_from.ensures, length-drop c.args.from c.args.items.now.items, c.min-there.ensures, c.min-left.ensures, c.requires);
    }
