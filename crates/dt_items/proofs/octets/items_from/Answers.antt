use Rattle.std.proofs.Common.{◌-◌, length, drop, ap, sym, ◌∙◌, length-drop, arith}
use Rattle.std.proofs.lemmas.List.{append-nil, take_all}
use Rattle.dt_items.proofs.Copies.{behind_front}
use Rattle.dt_items.proofs.octets.items_from.Goals as goal

pub returns-else-from-front : goal.returns-else-from-front
returns-else-from-front c =
    let front = c.as_slices.result.0.now in
    let back = c.as_slices.result.1.now in
    let left = c.args.from - length front in
    append-nil _
    ∙ take_all (length back - left) (drop left back) (omega (arith, length-drop left back))
    ∙ sym (behind_front front back c.args.from (omega arith))
    ∙ ap (drop c.args.from) c.as_slices.ensures
