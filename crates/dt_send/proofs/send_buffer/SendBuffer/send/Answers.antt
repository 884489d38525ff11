use Rattle.std.proofs.Common.{◌≡◌, ◌-◌, ◌∙◌, true, drop, sym, ap, subst, refl, arith}
use Rattle.dt_flow_model.specs.declared.acts.SendAct.TheVariants.{Sent}
use Rattle.dt_flow_model.specs.SendRecord.{cut_length, cut_size, may_go}
use Rattle.dt_send.specs.declared.send_buffer.SendBuffer.{SendBuffer}
use Rattle.dt_send.specs.SendBuffer.{Acts, IsSendBuffer, record_of}
use Rattle.dt_send.proofs.RingLemmas.{bounded, next_is}
use Rattle.dt_send.proofs.SendLemmas.{cut_fits, cut_is_segment, cut_items, few, sent_acts, sent_rings}
use Rattle.dt_send.proofs.send_buffer.SendBuffer.send.Goals as goal

pub transmit-cut-requires-clause-there : goal.transmit-cut-requires-clause-there
transmit-cut-requires-clause-there c =
    let k = c.args.self.now in
    let r = c.requires in
    let n : c.cut_at-length.result ≡ cut_size c.args.context.now.rules.now (record_of k) = c.cut_at-length.ensures.exact ∙ ap (λ m. cut_length m true (drop c.sent.result k.items.items)) c.most.ensures.value ∙ ap (λ m. cut_length (may_go c.args.context.now.rules.now (record_of k)) true (drop m k.items.items)) c.sent.ensures.value in
    (omega (arith, next_is c.args.context.now.rules.now k r.rings), cut_fits c.args.context.now.rules.now c.args.context.now.at c.args.context.now.timely k r.rings r.chosen c.cut_at-length.result n)

pub transmit-cut-requires-clause-bounded : goal.transmit-cut-requires-clause-bounded
transmit-cut-requires-clause-bounded c = bounded c.args.context.now.rules.now c.args.self.now c.requires.rings

pub transmit-cut-requires-clause-segment : goal.transmit-cut-requires-clause-segment
transmit-cut-requires-clause-segment c =
    let k = c.args.self.now in
    let r = c.requires in
    let n : c.cut_at-length.result ≡ cut_size c.args.context.now.rules.now (record_of k) = c.cut_at-length.ensures.exact ∙ ap (λ m. cut_length m true (drop c.sent.result k.items.items)) c.most.ensures.value ∙ ap (λ m. cut_length (may_go c.args.context.now.rules.now (record_of k)) true (drop m k.items.items)) c.sent.ensures.value in
    cut_is_segment c.args.context.now.rules.now c.args.context.now.at c.args.context.now.timely k r.rings r.chosen c.cut_at-length.result n (k.next - k.left) refl

pub note_sent-requires-clause-few : goal.note_sent-requires-clause-few
note_sent-requires-clause-few c =
    let k = c.args.self.now in
    let r = c.requires in
    let n : c.cut_at-length.result ≡ cut_size c.args.context.now.rules.now (record_of k) = c.cut_at-length.ensures.exact ∙ ap (λ m. cut_length m true (drop c.sent.result k.items.items)) c.most.ensures.value ∙ ap (λ m. cut_length (may_go c.args.context.now.rules.now (record_of k)) true (drop m k.items.items)) c.sent.ensures.value in
    few c.args.context.now.rules.now c.args.context.now.at c.args.context.now.timely k r.rings r.chosen c.cut_at-length.result n

pub returns-clause-rings : goal.returns-clause-rings
returns-clause-rings c =
    let k = c.args.self.now in
    let r = c.requires in
    let n : c.cut_at-length.result ≡ cut_size c.args.context.now.rules.now (record_of k) = c.cut_at-length.ensures.exact ∙ ap (λ m. cut_length m true (drop c.sent.result k.items.items)) c.most.ensures.value ∙ ap (λ m. cut_length (may_go c.args.context.now.rules.now (record_of k)) true (drop m k.items.items)) c.sent.ensures.value in
    subst (λ (j : SendBuffer). IsSendBuffer c.args.context.now.rules.now j) (sym c.note_sent.ensures) (sent_rings c.args.context.now.rules.now c.args.context.now.at c.args.context.now.timely k r.rings r.chosen c.cut_at-length.result n)

pub returns-clause-acts : goal.returns-clause-acts
returns-clause-acts c =
    let k = c.args.self.now in
    let r = c.requires in
    let n : c.cut_at-length.result ≡ cut_size c.args.context.now.rules.now (record_of k) = c.cut_at-length.ensures.exact ∙ ap (λ m. cut_length m true (drop c.sent.result k.items.items)) c.most.ensures.value ∙ ap (λ m. cut_length (may_go c.args.context.now.rules.now (record_of k)) true (drop m k.items.items)) c.sent.ensures.value in
    let items = cut_items c.args.context.now.rules.now c.args.context.now.at c.args.context.now.timely k r.rings r.chosen c.cut_at-length.result n (k.next - k.left) refl in
    subst (λ (j : SendBuffer). Acts c.args.context.now.rules.now c.args.context.now.flow.now c.args.context.now.at (record_of k) (Sent c.transmit-cut.result) (record_of j) c.args.frame.now c.transmit-cut.new.frame) (sym c.note_sent.ensures)
    (sent_acts c.args.context.now.rules.now c.args.context.now.at c.args.context.now.timely k r.rings r.chosen c.cut_at-length.result n c.args.context.now.flow.now c.transmit-cut.result _ c.args.frame.now c.transmit-cut.new.frame items c.transmit-cut.ensures.cut c.transmit-cut.ensures.frame)
