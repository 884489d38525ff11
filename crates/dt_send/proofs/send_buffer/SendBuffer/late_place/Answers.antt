use Rattle.std.proofs.Common.{◌≡◌, ◌+◌, ◌-◌, ◌∙◌, sym, ap, refl, take, drop, subst, true, false, arith}
use Rattle.dt_flow_model.specs.SendActs.{better, is_late, resending}
use Rattle.dt_send.specs.SendBuffer.{record_of}
use Rattle.dt_send.specs.SentSegments.{IsPlaceOf, octets_in, segment_of}
use Rattle.dt_send.proofs.MomentLemmas.{none_behind, resending_more}
use Rattle.dt_send.proofs.RingLemmas.{found, found_timed}
use Rattle.dt_send.proofs.Scans.{place_late, place_passed}
use Rattle.dt_send.proofs.send_buffer.SendBuffer.late_place.Goals as goal

pub loop-place-init : goal.loop-place-init
loop-place-init c = (omega arith, rw (none_behind c.args.self.now.outstanding_segments.items c.args.self.now.items.items c.len-place.result c.len-place.ensures.len) refl)

pub is_late-requires-clause-first : goal.is_late-requires-clause-first
is_late-requires-clause-first c = (found_timed c.args.rules.now c.args.self.now c.requires _ c.sent_segment_at-sent_segment.result c.sent_segment_at-sent_segment.ensures).0

pub is_late-requires-clause-last : goal.is_late-requires-clause-last
is_late-requires-clause-last c = (found_timed c.args.rules.now c.args.self.now c.requires _ c.sent_segment_at-sent_segment.result c.sent_segment_at-sent_segment.ensures).1

pub loop-place-preserved-then-is_late : goal.loop-place-preserved-then-is_late
loop-place-preserved-then-is_late c =
    let i = c.loop-place.place - 1 in
    let next : i + 1 ≡ c.loop-place.place = omega arith in
    let gs = (record_of c.args.self.now).outstanding in
    let g = segment_of c.sent_segment_at-sent_segment.result (drop (octets_in (take i c.args.self.now.outstanding_segments.items)) c.args.self.now.items.items) in
    let more = resending_more c.args.rules.now c.args.now gs i g (found c.args.rules.now c.args.self.now c.requires i c.sent_segment_at-sent_segment.result c.sent_segment_at-sent_segment.ensures) in
    let late : is_late c.args.rules.now c.args.now g ≡ true = sym c.is_late.ensures ∙ c.if-is_late.true in
    let before : IsPlaceOf (i + 1) (resending c.args.rules.now c.args.now (drop (i + 1) gs)) c.loop-place.best = subst (λ n. IsPlaceOf n (resending c.args.rules.now c.args.now (drop n gs)) c.loop-place.best) (sym next) c.loop-place.invariant.1 in
    let here = place_late i g (drop (i + 1) gs) (resending c.args.rules.now c.args.now (drop (i + 1) gs)) c.loop-place.best before in
    let again : resending c.args.rules.now c.args.now (drop i gs) ≡ better g (drop (i + 1) gs) true (resending c.args.rules.now c.args.now (drop (i + 1) gs)) = more ∙ ap (λ b. better g (drop (i + 1) gs) b (resending c.args.rules.now c.args.now (drop (i + 1) gs))) late in (
      omega (arith, c.loop-place.invariant.0),
      subst (λ o. IsPlaceOf i o c.earlier_of-best.result) (sym again) (subst (λ best. IsPlaceOf i (better g (drop (i + 1) gs) true (resending c.args.rules.now c.args.now (drop (i + 1) gs))) best) (sym c.earlier_of-best.ensures) here),
    )

pub loop-place-preserved : goal.loop-place-preserved
loop-place-preserved c =
    let i = c.loop-place.place - 1 in
    let next : i + 1 ≡ c.loop-place.place = omega arith in
    let gs = (record_of c.args.self.now).outstanding in
    let g = segment_of c.sent_segment_at-sent_segment.result (drop (octets_in (take i c.args.self.now.outstanding_segments.items)) c.args.self.now.items.items) in
    let more = resending_more c.args.rules.now c.args.now gs i g (found c.args.rules.now c.args.self.now c.requires i c.sent_segment_at-sent_segment.result c.sent_segment_at-sent_segment.ensures) in
    let late : is_late c.args.rules.now c.args.now g ≡ false = sym c.is_late.ensures ∙ c.if-is_late.false in
    let before : IsPlaceOf (i + 1) (resending c.args.rules.now c.args.now (drop (i + 1) gs)) c.loop-place.best = subst (λ n. IsPlaceOf n (resending c.args.rules.now c.args.now (drop n gs)) c.loop-place.best) (sym next) c.loop-place.invariant.1 in
    let here = place_passed i g (drop (i + 1) gs) (resending c.args.rules.now c.args.now (drop (i + 1) gs)) c.loop-place.best before in
    let again : resending c.args.rules.now c.args.now (drop i gs) ≡ better g (drop (i + 1) gs) false (resending c.args.rules.now c.args.now (drop (i + 1) gs)) = more ∙ ap (λ b. better g (drop (i + 1) gs) b (resending c.args.rules.now c.args.now (drop (i + 1) gs))) late in
    (omega (arith, c.loop-place.invariant.0), subst (λ o. IsPlaceOf i o c.loop-place.best) (sym again) here)
