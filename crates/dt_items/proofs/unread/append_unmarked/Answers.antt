use Rattle.std.proofs.Common.{◌≡◌, ◌-◌, ◌+◌, ◌++◌, ◌≤◌, length, drop, take, sym, ap, ◌∙◌, length-take-le, length-drop, arith}
use Rattle.std.proofs.lemmas.List.{take_all}
use Rattle.circular_buffer.specs.Buffer.{buffer}
use Rattle.dt_items.specs.Unread.{unmarked}
use Rattle.dt_items.proofs.Rings.{appended}
use Rattle.dt_items.proofs.unread.append_unmarked.Goals as goal

pub loop-done-preserved : goal.loop-done-preserved
loop-done-preserved c =
    let octets = c.args.octets.now in
    let done = c.loop-done.done in
    let count = c.min-count.result in
    let size : done + count - done ≡ count = omega arith in
    let within : done + count ≤ length octets = omega (arith, c.min-count.ensures) in
    let rest = length-drop done octets in
    let long : length (take (done + count - done) (drop done octets)) ≡ count = length-take-le (done + count - done) (drop done octets) (omega arith) ∙ size in
    let made = ap (λ k. take k c.fill_unmarked.new.stage) (sym long) ∙ c.fill_unmarked.ensures.items ∙ ap (λ k. unmarked (take k (drop done octets))) size in
    (within, c.extend_from_slice.ensures ∙ appended c.loop-done.ring c.args.ring.now octets done count (take count c.fill_unmarked.new.stage) within c.requires made c.loop-done.invariant.1)

pub returns : goal.returns
returns c =
    let all = take_all c.loop-done.done c.args.octets.now (omega arith) in
    c.loop-done.invariant.1 ∙ ap (λ octets. buffer (c.args.ring.now.items ++ unmarked octets) c.args.ring.now.capacity) all
