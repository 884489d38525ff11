use Rattle.std.proofs.Common.{◌≡◌, ◌++◌, false, length, sym, ap, ◌∙◌, length-append, arith}
use Rattle.dt_items.specs.Unread.{marked}
use Rattle.dt_items.proofs.Marks.{length-marked}
use Rattle.dt_flow_model.specs.Ledger.{unread_items}
use Rattle.dt_flow_model.specs.ReceiveRecord.{due_in, record_accepted, told_in}
use Rattle.dt_recv.specs.Records.{receive_record_of, standing_of}
use Rattle.dt_recv.proofs.Accepting.{accepted_of, after_same, number_below, told_in-kept, unread_items-marked}
use Rattle.dt_recv.proofs.receivers.Receiver.accept.Goals as goal

pub invariant_of-self : goal.invariant_of-self
invariant_of-self c =
    let r = c.self.inside in
    let room : c.push_all.new.self.room ≡ r.queue.room = ap (λ q. q.room) c.push_all.ensures in
    let items = ap (λ q. length q.items) c.push_all.ensures in
    let both = length-append r.queue.items (marked c.args.segment.now.payload.octets.now c.args.segment.now.payload.begin c.args.segment.now.payload.end c.args.run) in
    let long = length-marked c.args.segment.now.payload.octets.now c.args.segment.now.payload.begin c.args.segment.now.payload.end c.args.run in
    let was = ap (λ v. length v.state.unread) c.self.view_is in
    let rcap = ap (λ v. v.rules.rcap) c.self.view_is in
    let accepted = rw c.deref.ensures at c.accepted.ensures in
    let told = ap (λ y. y.told) accepted in
    let kept = told_in-kept r.rules.value (standing_of r.standing) c.self.invariant.1.told in
    let next = ap (λ y. y.expected) accepted in
    let below = number_below c.args.segment.now.number (length c.args.segment.now.payload.octets.now) in (
      room ∙ c.self.invariant.0,
      record { room = omega arith; expected = omega arith; told = omega arith },
    )

pub returns-clause-after : goal.returns-clause-after
returns-clause-after c =
    let r = c.self.inside in
    let items = marked c.args.segment.now.payload.octets.now c.args.segment.now.payload.begin c.args.segment.now.payload.end false in
    let unread : c.push_all.new.self.items ≡ r.queue.items ++ unread_items c.args.run items =
    ap (λ q. q.items) c.push_all.ensures ∙ ap (λ added. r.queue.items ++ added) (sym (unread_items-marked c.args.segment.now.payload.octets.now c.args.segment.now.payload.begin c.args.segment.now.payload.end c.args.run)) in
    let standing : receive_record_of c.accepted.result ≡ record_accepted r.rules.value c.args.now.ms c.args.segment.now.number items (due_in (standing_of r.standing)) (told_in r.rules.value (standing_of r.standing)) =
    (rw c.deref.ensures at c.accepted.ensures) ∙ accepted_of r.rules.value c.args.now.ms c.args.segment.now.number c.args.segment.now.payload.octets.now c.args.segment.now.payload.begin c.args.segment.now.payload.end (standing_of r.standing) c.requires.some in
    rw (← c.self.view_is) (after_same r.rules.value r.flow unread standing)
