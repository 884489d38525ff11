use Rattle.std.proofs.Common.{length, ap, length-append, arith}
use Rattle.dt_items.specs.Unread.{marked}
use Rattle.dt_items.proofs.Marks.{length-marked}
use Rattle.dt_items.proofs.unread.Queue.push_all.Goals as goal

pub invariant_of-self : goal.invariant_of-self
invariant_of-self c =
    let view = c.self.view_is in
    let items = ap (λ b. length b.items) view in
    let room = ap (λ b. b.room) view in
    let long = length-marked c.args.octets.now c.args.begin c.args.end c.args.run in
    let both = length-append c.self.inside.ring.items (marked c.args.octets.now c.args.begin c.args.end c.args.run) in
    let now = ap (λ b. length b.items) c.append_marked.ensures in
    let capacity = ap (λ b. b.capacity) c.append_marked.ensures in
    (omega arith, omega arith)
