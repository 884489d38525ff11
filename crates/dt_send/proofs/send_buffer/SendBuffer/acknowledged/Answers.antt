use Rattle.std.proofs.Common.{◌≡◌, ◌+◌, take, drop, length, sym, ◌∙◌, arith}
use Rattle.std.proofs.lemmas.List.{length-drop, length-take-le}
use Rattle.dt_send.specs.SendBuffer.{record_of}
use Rattle.dt_send.specs.SentSegments.{octets_in, segment_of}
use Rattle.dt_send.proofs.MomentLemmas.{none_behind}
use Rattle.dt_send.proofs.RingLemmas.{bounded, found, found_offset, found_within}
use Rattle.dt_send.proofs.Scans.{behind_none, passed_more, splits_nowhere, splits_there}
use Rattle.dt_send.proofs.SentSegmentLemmas.{octets-take-more, octets_in-parts}
use Rattle.dt_send.proofs.send_buffer.SendBuffer.acknowledged.Goals as goal

pub loop-place-init : goal.loop-place-init
loop-place-init c = (omega arith, sym (behind_none _))

pub number_at-requires : goal.number_at-requires
number_at-requires c = omega (arith, c.loop-place.invariant.0, octets_in-parts c.args.self.now.outstanding_segments.items c.loop-place.place, bounded c.args.rules.now c.args.self.now c.requires, c.requires.lie)

pub returns-then-number_at-number-clause-split : goal.returns-then-number_at-number-clause-split
returns-then-number_at-number-clause-split c = splits_there c.args.rules.now c.args.number c.args.self.now.left (record_of c.args.self.now).outstanding c.loop-place.place c.loop-place.end c.loop-place.invariant.1 (sym c.number_at.ensures ∙ c.if-number_at-number.true)

pub overflow_add-end : goal.overflow_add-end
overflow_add-end c =
    let s = c.sent_segment_at-sent_segment.result in
    omega (arith, found_offset c.args.rules.now c.args.self.now c.requires c.loop-place.place s c.sent_segment_at-sent_segment.ensures, found_within c.args.rules.now c.args.self.now c.requires c.loop-place.place s c.sent_segment_at-sent_segment.ensures, bounded c.args.rules.now c.args.self.now c.requires, c.requires.lie)

pub loop-place-preserved : goal.loop-place-preserved
loop-place-preserved c =
    let s = c.sent_segment_at-sent_segment.result in
    let k = c.args.self.now in
    let is = drop (octets_in (take c.loop-place.place k.outstanding_segments.items)) k.items.items in
    let within = found_within c.args.rules.now k c.requires c.loop-place.place s c.sent_segment_at-sent_segment.ensures in
    let offset = found_offset c.args.rules.now k c.requires c.loop-place.place s c.sent_segment_at-sent_segment.ensures in
    let count : length (take s.length is) ≡ s.length = length-take-le s.length is (omega (arith, length-drop (octets_in (take c.loop-place.place k.outstanding_segments.items)) k.items.items, within, c.requires.lie)) in (
      omega (arith, offset, octets-take-more k.outstanding_segments.items c.loop-place.place s c.sent_segment_at-sent_segment.ensures),
      passed_more c.args.rules.now c.args.number k.left (record_of k).outstanding c.loop-place.place c.loop-place.end (segment_of s is) (s.offset + c.from.result) c.loop-place.invariant.1
          (found c.args.rules.now k c.requires c.loop-place.place s c.sent_segment_at-sent_segment.ensures)
          (λ e. c.if-number_at-number.false (c.number_at.ensures ∙ e))
          (omega arith),
    )

pub number_at-requires-2 : goal.number_at-requires-2
number_at-requires-2 c = omega (arith, c.loop-place.invariant.0, octets_in-parts c.args.self.now.outstanding_segments.items c.loop-place.place, bounded c.args.rules.now c.args.self.now c.requires, c.requires.lie)

pub returns-then-number_at-number-2-clause-split : goal.returns-then-number_at-number-2-clause-split
returns-then-number_at-number-2-clause-split c =
    let all : c.loop-place.place ≡ c.len.result = omega arith in
    rw (← all) (splits_there c.args.rules.now c.args.number c.args.self.now.left (record_of c.args.self.now).outstanding c.loop-place.place c.loop-place.end c.loop-place.invariant.1 (sym c.number_at-2.ensures ∙ c.if-number_at-number-2.true))

pub returns-else-number_at-number-2-clause-split : goal.returns-else-number_at-number-2-clause-split
returns-else-number_at-number-2-clause-split c =
    splits_nowhere c.args.rules.now c.args.number c.args.self.now.left (record_of c.args.self.now).outstanding c.loop-place.place c.loop-place.end c.loop-place.invariant.1
    (none_behind c.args.self.now.outstanding_segments.items c.args.self.now.items.items c.loop-place.place (omega arith))
    (λ e. c.if-number_at-number-2.false (c.number_at-2.ensures ∙ e))
