use Rattle.std.proofs.Common.{◌≡◌, ◌+◌, Some, sym, ap, ◌∙◌, arith}
use Rattle.std.proofs.lemmas.Bool.Decides.{nat_tests}
use Rattle.dt_units.specs.Times.{give_time}
use Rattle.dt_units.specs.declared.parameters.Times.{Times}
use Rattle.dt_send.proofs.MomentLemmas.{gives_none, gives_some}
use Rattle.dt_send.proofs.RingLemmas.{found_timed}
use Rattle.dt_send.proofs.send_buffer.SendBuffer.gives_up_from.Goals as goal

pub returns-then-is_empty : goal.returns-then-is_empty
returns-then-is_empty c = sym (gives_none c.args.rules.now c.args.self.now.outstanding_segments.items c.args.self.now.items.items (sym c.is_empty.ensures ∙ c.if-is_empty.true))

pub sent_segment_at-leftmost-requires : goal.sent_segment_at-leftmost-requires
sent_segment_at-leftmost-requires c = grind (arith, nat_tests)

pub overflow_add-result : goal.overflow_add-result
overflow_add-result c =
    let timed = found_timed c.args.rules.now c.args.self.now c.requires 0 c.sent_segment_at-leftmost.result c.sent_segment_at-leftmost.ensures in
    let give : c.times.result.now.give ≡ give_time c.args.rules.now = ap (λ (t : Times). t.give) c.times.ensures.sums in
    let limits = c.times.ensures.within in
    omega (arith, timed.0, limits.mpl, limits.r, limits.a)

pub returns : goal.returns
returns c =
    let give : c.times.result.now.give ≡ give_time c.args.rules.now = ap (λ (t : Times). t.give) c.times.ensures.sums in
    ap (λ n. Some (c.sent_segment_at-leftmost.result.first + n)) give ∙ sym (gives_some c.args.rules.now c.args.self.now.outstanding_segments.items c.args.self.now.items.items c.sent_segment_at-leftmost.result c.sent_segment_at-leftmost.ensures)
