use Rattle.std.proofs.Common.{◌≤◌, ◌+◌, ◌-◌, ◌++◌, length, take, drop, refl, sym, ap, ◌∙◌, length-append, length-drop, length-take-le, arith}
use Rattle.dt_items.specs.Unread.{octets_of}
use Rattle.dt_items.proofs.Copies.{copied, rest_fits}
use Rattle.dt_items.proofs.octets.copy_octets.Goals as goal

pub slice_bounds-copy_run-length : goal.slice_bounds-copy_run-length
slice_bounds-copy_run-length c =
    let front = c.items_from.result.0.now in
    let back = c.items_from.result.1.now in
    let there : c.args.count ≤ length front + length back = omega (arith, length-append front back, ap length c.items_from.ensures, length-drop c.args.from c.args.items.now.items, c.requires.there) in
    sym (length-take-le (c.args.count - c.min-first.result) back (rest_fits front back c.args.count c.min-first.result c.min-first.ensures there))

pub returns : goal.returns
returns c =
    let front = c.items_from.result.0.now in
    let back = c.items_from.result.1.now in
    let there : c.args.count ≤ length front + length back = omega (arith, length-append front back, ap length c.items_from.ensures, length-drop c.args.from c.args.items.now.items, c.requires.there) in
    copied front back c.args.room.now c.copy_run.new.room c.copy_run-2.new.room c.args.count c.min-first.result (length c.copy_run.new.room - c.min-first.result) c.min-first.ensures there c.requires.fits c.copy_run.ensures refl c.copy_run-2.ensures
    ∙ ap (λ items. octets_of (take c.args.count items) ++ drop c.args.count c.args.room.now) c.items_from.ensures
