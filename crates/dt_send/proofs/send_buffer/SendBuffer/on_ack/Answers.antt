use Rattle.std.proofs.lemmas.List.{take-append-drop}
use Rattle.dt_flow_model.specs.Keeping.{taken_by}
use Rattle.dt_flow_model.proofs.Records.{acked_counts}
use Rattle.std.proofs.Common.{◌≤◌, ◌+◌, Some, take, drop, sym, ap, ◌∙◌, subst, arith}
use Rattle.dt_flow_model.specs.SendRecord.{SendRecord, after_split, items_in}
use Rattle.dt_send.specs.declared.send_buffer.SendBuffer.{SendBuffer}
use Rattle.dt_send.specs.SendBuffer.{IsSendBuffer, record_of}
use Rattle.dt_send.proofs.RingLemmas.{bounded, held_fits}
use Rattle.dt_send.proofs.StepLemmas.{acked_is, acked_rings, front_count}
use Rattle.dt_send.proofs.SentSegmentLemmas.{octets_in-parts}
use Rattle.dt_send.proofs.send_buffer.SendBuffer.on_ack.Goals as goal

pub overflow_add-self : goal.overflow_add-self
overflow_add-self c = omega (arith, c.in-Some.ensures.end.end_is, octets_in-parts c.args.self.now.outstanding_segments.items c.in-Some.segments, bounded c.args.rules.now c.args.self.now c.requires.rings, c.requires.rings.lie)

pub overflow_cast-result : goal.overflow_cast-result
overflow_cast-result c = omega (arith, c.in-Some.ensures.end.end_is, octets_in-parts c.args.self.now.outstanding_segments.items c.in-Some.segments, held_fits c.args.rules.now c.args.self.now c.requires.rings, c.requires.rings.lie, c.requires.rings.limits.cap)

pub returns-clause-rings : goal.returns-clause-rings
returns-clause-rings c =
    let k = c.args.self.now in
    let t = acked_rings c.args.rules.now k c.requires.rings c.in-Some.segments c.in-Some.end c.in-Some.ensures.end c.args.window c.requires.window in
    let dropped = ap (λ (j : SendBuffer). record j { edge = c.in-Some.end + c.from.result }) c.drop_front.ensures in
    subst (λ (j : SendBuffer). IsSendBuffer c.args.rules.now j) (sym dropped) (rw c.from.ensures t)

pub returns-clause-acked : goal.returns-clause-acked
returns-clause-acked c =
    let k = c.args.self.now in
    let n = c.in-Some.segments in
    let end = c.in-Some.end in
    let gs = (record_of k).outstanding in
    let is = acked_is c.args.rules.now k c.requires.rings n end c.in-Some.ensures.end c.args.window in
    let count = front_count c.args.rules.now k c.requires.rings n end c.in-Some.ensures.end in
    let dropped = ap (λ (j : SendBuffer). record_of (record j { edge = end + c.args.window })) c.drop_front.ensures in
    ap (after_split (record_of k) c.args.window) c.in-Some.ensures.split
    ∙ ap (λ (x : SendRecord). Some (x, items_in (take n gs))) (rw c.from.ensures (is ∙ sym dropped))
    ∙ ap (λ m. Some (record_of (record c.drop_front.new.self { edge = end + c.from.result }), m)) count

pub returns-clause-counted : goal.returns-clause-counted
returns-clause-counted c =
    let k = c.args.self.now in
    let n = c.in-Some.segments in
    let end = c.in-Some.end in
    let gs = (record_of k).outstanding in
    let is = acked_is c.args.rules.now k c.requires.rings n end c.in-Some.ensures.end c.args.window in
    let dropped = ap (λ (j : SendBuffer). record_of (record j { edge = end + c.args.window })) c.drop_front.ensures in
    let count = acked_counts (record_of k) (take n gs) (drop n gs) c.args.window (sym (take-append-drop n gs)) in
    let same = is ∙ sym dropped in
    subst (λ (x : SendRecord). taken_by x ≤ taken_by (record_of k)) same (omega (arith, count))
