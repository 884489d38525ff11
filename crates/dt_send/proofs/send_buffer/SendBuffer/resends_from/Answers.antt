use Rattle.std.proofs.Common.{◌≡◌, ◌+◌, ◌-◌, sym, ap, ◌∙◌, drop, arith}
use Rattle.dt_units.specs.Moments.{earlier}
use Rattle.dt_flow_model.specs.SendActs.{resends_from}
use Rattle.dt_send.specs.SendBuffer.{record_of}
use Rattle.dt_send.proofs.MomentLemmas.{none_behind, resends_more}
use Rattle.dt_send.proofs.RingLemmas.{found, found_timed}
use Rattle.dt_send.proofs.send_buffer.SendBuffer.resends_from.Goals as goal

pub loop-place-init : goal.loop-place-init
loop-place-init c = (omega arith, sym (ap (resends_from c.args.rules.now c.args.now) (none_behind c.args.self.now.outstanding_segments.items c.args.self.now.items.items c.len-place.result c.len-place.ensures.len)))

pub resend_from-requires-clause-first : goal.resend_from-requires-clause-first
resend_from-requires-clause-first c = (found_timed c.args.rules.now c.args.self.now c.requires _ c.sent_segment_at-sent_segment.result c.sent_segment_at-sent_segment.ensures).0

pub resend_from-requires-clause-last : goal.resend_from-requires-clause-last
resend_from-requires-clause-last c = (found_timed c.args.rules.now c.args.self.now c.requires _ c.sent_segment_at-sent_segment.result c.sent_segment_at-sent_segment.ensures).1

pub loop-place-preserved : goal.loop-place-preserved
loop-place-preserved c =
    let next : c.loop-place.place - 1 + 1 ≡ c.loop-place.place = omega arith in
    let gs = (record_of c.args.self.now).outstanding in
    let more = resends_more c.args.rules.now c.args.now gs (c.loop-place.place - 1) _ (found c.args.rules.now c.args.self.now c.requires (c.loop-place.place - 1) c.sent_segment_at-sent_segment.result c.sent_segment_at-sent_segment.ensures) in (
      omega arith,
      c.earlier-first.ensures
          ∙ ap (λ m. earlier c.resend_from.result m) (c.loop-place.invariant.1 ∙ ap (λ n. resends_from c.args.rules.now c.args.now (drop n gs)) (sym next))
          ∙ ap (λ m. earlier m (resends_from c.args.rules.now c.args.now (drop (c.loop-place.place - 1 + 1) gs))) c.resend_from.ensures
          ∙ sym more,
    )
