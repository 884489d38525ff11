use Rattle.std.proofs.Common.{◌<◌, ◌≤◌, length, take, ap, sym, ◌∙◌, length-take, arith}
use Rattle.std.specs.List.{slice_get}
use Rattle.dt_items.specs.Unmarked.{unmarked_count}
use Rattle.dt_items.proofs.Counts.{count_fits}
use Rattle.dt_items.proofs.Following.{all_follow, ended, no_more, one_more}
use Rattle.dt_items.proofs.unread.following_len.Goals as goal
use Rattle.dt_items.proofs.unread.following_len.Goals.{then-count-most-via-then-count-most, then-count-most-via-else-count-most+then-count-len}

pub returns-then-before-clause-value : goal.returns-then-before-clause-value
returns-then-before-clause-value c = sym (ap length (ended c.args.most c.args.before.now c.args.items.now.items c.if-before.true))

pub returns-then-count-most-clause-value : goal.returns-then-count-most-clause-value
returns-then-count-most-clause-value c =
    let count = c.unmarked_from-count.ensures.value in
    let taken = take c.args.most c.args.items.now.items in
    let fits = count_fits taken in
    let long = length-take c.args.most c.args.items.now.items in
    let all : length taken ≤ unmarked_count taken = elim c.then-count-most.branch [
      | then-count-most-via-then-count-most w ↦ omega (arith, w.if-count-most.true)
      | then-count-most-via-else-count-most+then-count-len w ↦ omega (arith, w.if-count-len.true, w.len.ensures.len)
    ] in
    omega (arith, all_follow c.args.most c.args.before.now c.args.items.now.items c.if-before.false all)

pub returns-then-goes_on-clause-value : goal.returns-then-goes_on-clause-value
returns-then-goes_on-clause-value c =
    let items = c.args.items.now.items in
    let count = c.unmarked_from-count.ensures.value in
    let here = ap (slice_get items) (sym count) ∙ c.item_in.ensures in
    let less : unmarked_count (take c.args.most items) < c.args.most = omega (arith, c.unmarked_from-count.ensures.most, c.if-count-most.false) in
    omega (arith, one_more c.args.most c.args.before.now items c.item_in.result c.if-before.false less here (sym c.goes_on.ensures ∙ c.if-goes_on.true))

pub returns-else-goes_on-clause-value : goal.returns-else-goes_on-clause-value
returns-else-goes_on-clause-value c =
    let items = c.args.items.now.items in
    let count = c.unmarked_from-count.ensures.value in
    let here = ap (slice_get items) (sym count) ∙ c.item_in.ensures in
    let less : unmarked_count (take c.args.most items) < c.args.most = omega (arith, c.unmarked_from-count.ensures.most, c.if-count-most.false) in
    omega (arith, no_more c.args.most c.args.before.now items c.item_in.result c.if-before.false less here (sym c.goes_on.ensures ∙ c.if-goes_on.false))
