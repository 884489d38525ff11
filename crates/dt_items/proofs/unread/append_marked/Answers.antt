use Rattle.std.proofs.Common.{◌≡◌, ◌++◌, ◌+◌, ◌-◌, suc, length, get_or, sym, ap, ◌∙◌, arith}
use Rattle.std.proofs.lemmas.List.{append-nil, take_all}
use Rattle.circular_buffer.specs.Buffer.{buffer}
use Rattle.dt_items.specs.Unread.{marked}
use Rattle.dt_items.proofs.Marks.{length-marked, marked-at, blank}
use Rattle.dt_items.proofs.Rings.{appended_middle, pushed}
use Rattle.dt_items.proofs.unread.append_marked.Goals as goal

pub returns-then-last-gt0 : goal.returns-then-last-gt0
returns-then-last-gt0 c =
    let k = c.args.added.now in
    let octets = k.octets.now in
    let was = c.args.ring.now in
    let last = length octets - 1 in
    let items = marked octets k.begin k.end c.args.run in
    let long = length-marked octets k.begin k.end c.args.run in
    let whole : suc last ≡ length octets = omega arith in
    let first : c.item_at.result ≡ get_or items 0 blank = c.item_at.ensures ∙ sym (marked-at octets 0 k.begin k.end c.args.run blank (omega arith)) in
    let end : c.item_at-then-last-gt0.result ≡ get_or items last blank = c.item_at-then-last-gt0.ensures ∙ sym (marked-at octets last k.begin k.end c.args.run blank (omega arith)) in
    let nothing = ap (λ items. buffer items was.capacity) (sym (append-nil was.items)) in
    let one = c.push_back.ensures.items ∙ pushed was was items 0 c.item_at.result (omega arith) (omega arith) first nothing in
    let more = appended_middle c.append_unmarked.new.ring c.push_back.new.self was octets last k.begin k.end c.args.run whole c.if-last-gt0.true one c.append_unmarked.ensures in
    c.push_back-then-last-gt0.ensures.items
    ∙ pushed c.append_unmarked.new.ring was items last c.item_at-then-last-gt0.result (omega arith) (omega arith) end more
    ∙ ap (λ added. buffer (was.items ++ added) was.capacity) (take_all (last + 1) items (omega arith))
