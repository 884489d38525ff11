use Rattle.std.proofs.Common.{◌-◌, sym, subst, refl}
use Rattle.dt_flow_model.specs.declared.acts.SendAct.TheVariants.{Resent}
use Rattle.dt_send.specs.declared.send_buffer.SendBuffer.{SendBuffer}
use Rattle.dt_send.specs.SendBuffer.{Acts, IsSendBuffer, record_of}
use Rattle.dt_send.proofs.RingLemmas.{bounded}
use Rattle.dt_send.proofs.SendLemmas.{again_acts, again_is_segment, again_late, again_rings, again_there, place_there}
use Rattle.dt_send.proofs.send_buffer.SendBuffer.resend.Goals as goal

pub sent_segment_at-sent_segment-requires : goal.sent_segment_at-sent_segment-requires
sent_segment_at-sent_segment-requires c = place_there c.args.context.now.rules.now c.args.context.now.at c.args.context.now.timely c.args.self.now c.requires.rings c.requires.chosen c.in-Some.place c.in-Some.field-0-1 c.in-Some.ensures

pub transmit-cut-requires-clause-there : goal.transmit-cut-requires-clause-there
transmit-cut-requires-clause-there c = again_there c.args.context.now.rules.now c.args.context.now.at c.args.context.now.timely c.args.self.now c.requires.rings c.requires.chosen c.in-Some.place c.in-Some.field-0-1 c.in-Some.ensures c.sent_segment_at-sent_segment.result c.sent_segment_at-sent_segment.ensures

pub transmit-cut-requires-clause-bounded : goal.transmit-cut-requires-clause-bounded
transmit-cut-requires-clause-bounded c = bounded c.args.context.now.rules.now c.args.self.now c.requires.rings

pub transmit-cut-requires-clause-segment : goal.transmit-cut-requires-clause-segment
transmit-cut-requires-clause-segment c = again_is_segment c.args.context.now.rules.now c.args.context.now.at c.args.context.now.timely c.args.self.now c.requires.rings c.requires.chosen c.in-Some.place c.in-Some.field-0-1 c.in-Some.ensures c.sent_segment_at-sent_segment.result c.sent_segment_at-sent_segment.ensures (c.sent_segment_at-sent_segment.result.offset - c.args.self.now.left) refl

pub note_again-requires-clause-there : goal.note_again-requires-clause-there
note_again-requires-clause-there c = place_there c.args.context.now.rules.now c.args.context.now.at c.args.context.now.timely c.args.self.now c.requires.rings c.requires.chosen c.in-Some.place c.in-Some.field-0-1 c.in-Some.ensures

pub note_again-requires-clause-late : goal.note_again-requires-clause-late
note_again-requires-clause-late c = again_late c.args.context.now.rules.now c.args.context.now.at c.args.context.now.timely c.args.self.now c.requires.rings c.requires.chosen c.in-Some.place c.in-Some.field-0-1 c.in-Some.ensures

pub returns-clause-rings : goal.returns-clause-rings
returns-clause-rings c =
    let s = c.sent_segment_at-sent_segment.result in
    subst (λ (j : SendBuffer). IsSendBuffer c.args.context.now.rules.now j) (sym (c.note_again.ensures s c.sent_segment_at-sent_segment.ensures))
    (again_rings c.args.context.now.rules.now c.args.context.now.at c.args.context.now.timely c.args.self.now c.requires.rings c.requires.chosen c.in-Some.place c.in-Some.field-0-1 c.in-Some.ensures s c.sent_segment_at-sent_segment.ensures)

pub returns-clause-acts : goal.returns-clause-acts
returns-clause-acts c =
    let s = c.sent_segment_at-sent_segment.result in
    subst (λ (j : SendBuffer). Acts c.args.context.now.rules.now c.args.context.now.flow.now c.args.context.now.at (record_of c.args.self.now) (Resent c.transmit-cut.result) (record_of j) c.args.frame.now c.transmit-cut.new.frame) (sym (c.note_again.ensures s c.sent_segment_at-sent_segment.ensures))
    (again_acts c.args.context.now.rules.now c.args.context.now.at c.args.context.now.timely c.args.self.now c.requires.rings c.requires.chosen c.in-Some.place c.in-Some.field-0-1 c.in-Some.ensures s c.sent_segment_at-sent_segment.ensures c.args.context.now.flow.now c.transmit-cut.result (s.offset - c.args.self.now.left) c.args.frame.now c.transmit-cut.new.frame refl c.transmit-cut.ensures.cut c.transmit-cut.ensures.frame)
