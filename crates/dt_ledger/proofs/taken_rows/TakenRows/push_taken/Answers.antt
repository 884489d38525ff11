use Rattle.std.proofs.Common.{false, length, sym, ap, ◌∙◌, arith}
use Rattle.dt_items.specs.Unread.{marked}
use Rattle.dt_items.proofs.Marks.{length-marked}
use Rattle.dt_flow_model.specs.Ledger.{take_rows}
use Rattle.dt_ledger.proofs.Beside.{beside_taken}
use Rattle.dt_ledger.proofs.Counting.{all_counts}
use Rattle.dt_ledger.proofs.taken_rows.TakenRows.push_taken.Goals as goal

pub overflow_add-self : goal.overflow_add-self
overflow_add-self c =
    let inside = c.self.inside in
    omega (arith, all_counts inside.counts inside.rows.items c.self.invariant.fates, inside.rows.ok.0, c.in_ok-reserve.ensures.ok, c.in_ok-reserve.ensures.len)

pub invariant_of-self-2 : goal.invariant_of-self-2
invariant_of-self-2 c =
    let k = c.args.taken.now in
    let inside = c.self.inside in
    let items = marked k.octets.now k.begin k.end false in
    beside_taken inside.counts inside.progress c.begin.new.self c.args.life items inside.rows.items c.append.new.rows.items (length k.octets.now) c.len.result
    (sym (length-marked k.octets.now k.begin k.end false))
    (omega (arith, inside.rows.ok.0, c.reserve.ensures.len))
    c.begin.ensures
    (c.append.ensures ∙ ap (take_rows c.args.life items) c.reserve.ensures.items)
    c.self.invariant
