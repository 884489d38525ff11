use Rattle.std.proofs.Common.{◌≡◌, ◌+◌, ◌<◌, ◌≤◌, drop, get_or, length, length-drop, refl, sym, ◌∙◌, arith}
use Rattle.std.proofs.lemmas.List.{get_or-drop}
use Rattle.std.proofs.lemmas.Option.{get_or_from_slice_get}
use Rattle.dt_send.proofs.Cuts.{below_most, ends_all, ends_at, ends_beyond, goes_on, jumps}
use Rattle.dt_send.proofs.octets.cut_at.Goals as goal

pub returns-then-is_beyond-clause-exact : goal.returns-then-is_beyond-clause-exact
returns-then-is_beyond-clause-exact c =
    let x = c.item_in-item.result in
    let items = drop c.args.from c.args.items.now.items in
    let item : get_or items c.loop-i.i x ≡ x = get_or-drop c.args.from c.args.items.now.items c.loop-i.i x ∙ get_or_from_slice_get c.args.items.now.items (c.args.from + c.loop-i.i) x x c.item_in-item.ensures in
    let within : c.loop-i.i < length items = omega (arith, length-drop c.args.from c.args.items.now.items, c.len.ensures.len, c.loop-i-test.true) in
    ends_beyond c.args.most c.loop-i.i items x within c.loop-i.invariant.full c.loop-i.invariant.so_far (rw item (sym c.is_beyond.ensures ∙ c.if-is_beyond.true))

pub returns-then-item-clause-exact : goal.returns-then-item-clause-exact
returns-then-item-clause-exact c =
    let x = c.item_in-item.result in
    let items = drop c.args.from c.args.items.now.items in
    let item : get_or items c.loop-i.i x ≡ x = get_or-drop c.args.from c.args.items.now.items c.loop-i.i x ∙ get_or_from_slice_get c.args.items.now.items (c.args.from + c.loop-i.i) x x c.item_in-item.ensures in
    let within : c.loop-i.i < length items = omega (arith, length-drop c.args.from c.args.items.now.items, c.len.ensures.len, c.loop-i-test.true) in
    ends_at c.args.most c.loop-i.i items x within c.loop-i.invariant.full c.loop-i.invariant.so_far (rw item (sym c.is_beyond.ensures ∙ c.if-is_beyond.false)) (rw item c.if-item.true)

pub loop-i-preserved : goal.loop-i-preserved
loop-i-preserved c =
    let x = c.item_in-item.result in
    let all = c.args.items.now.items in
    let items = drop c.args.from all in
    let i = c.loop-i.i in
    let item : get_or items i x ≡ x = get_or-drop c.args.from all i x ∙ get_or_from_slice_get all (c.args.from + i) x x c.item_in-item.ensures in
    let within : i < length items = omega (arith, length-drop c.args.from all, c.len.ensures.len, c.loop-i-test.true) in
    let full : i + 1 ≤ c.args.most = below_most c.args.most i _ c.loop-i.invariant.full (sym c.is_beyond.ensures ∙ c.if-is_beyond.false) in
    let next = goes_on c.args.most i items x within c.loop-i.invariant.full c.loop-i.invariant.so_far (rw item (sym c.is_beyond.ensures ∙ c.if-is_beyond.false)) (rw item c.if-item.false) in
    record {
      full = omega (arith, full, c.unmarked_from-i.ensures.most);
      there = omega (arith, c.unmarked_from-i.ensures.within);
      so_far = jumps c.args.most (i + 1) (c.args.from + (i + 1)) c.args.from c.unmarked_from-i.result all items refl refl (omega arith) full next c.unmarked_from-i.ensures.value;
    }

pub returns-clause-exact : goal.returns-clause-exact
returns-clause-exact c =
    let all = c.args.items.now.items in
    let items = drop c.args.from all in
    let long = length-drop c.args.from all in
    let size = c.len.ensures.len in
    let end : length items ≤ c.loop-i.i = omega (arith, long, size, c.loop-i-test.false) in
    omega (arith, long, size, c.loop-i.invariant.there, c.loop-i-test.false, ends_all c.args.most items c.loop-i.i end c.loop-i.invariant.so_far)
