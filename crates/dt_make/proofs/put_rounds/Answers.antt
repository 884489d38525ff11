use Rattle.std.proofs.Common.{◌≡◌, ◌≤◌, arith}
use Rattle.dt_edges.proofs.Puts.{takes_nothing}
use Rattle.dt_make.specs.Schedules.{round_text}
use Rattle.dt_make.proofs.Counting.{number_taken, number_failed, all_taken}
use Rattle.dt_make.proofs.Drawing.{x_starts, x_goes_on, x_within, drawn, round_is, no_copies, copies_go_on, copies_few}
use Rattle.dt_make.proofs.put_rounds.Goals as goal

pub loop-number-init : goal.loop-number-init
loop-number-init g c = (takes_nothing _, x_starts, omega arith, no_copies, omega arith)

pub returns-in_err-put_round : goal.returns-in_err-put_round
returns-in_err-put_round g c =
    let i = c.loop-number.number in
    let before = c.loop-number.invariant in
    let draw = drawn i c.loop-number.x c.next_x-x.result c.of-draw.result.0 before.1 c.next_x-x.ensures c.of-draw.ensures in
    number_failed _ round_text c.args.n i _ _ _ _ _ c.loop-number-test.true (round_is i c.of-draw.result.0 c.loop-number.copies draw before.3) before.0 c.in_err-put_round.ensures c.from_residual.ensures.0

pub loop-number-preserved : goal.loop-number-preserved
loop-number-preserved g c =
    let i = c.loop-number.number in
    let before = c.loop-number.invariant in
    let x = c.loop-number.x in
    let next = c.next_x-x.result in
    let copies = c.loop-number.copies in
    let draw = drawn i x next c.of-draw.result.0 before.1 c.next_x-x.ensures c.of-draw.ensures in
    let few : c.copies-copies.result ≤ 3 = omega (arith, c.copies-copies.ensures, copies_few c.kind.result) in
    let least = before.4 in (
      number_taken round_text c.args.n i _ _ _ _ c.loop-number-test.true (round_is i c.of-draw.result.0 copies draw before.3) before.0 c.in_ok-put_round.ensures,
      x_goes_on i x next before.1 c.next_x-x.ensures,
      x_within x next c.next_x-x.ensures,
      copies_go_on i c.of-draw.result.0 copies c.copies-copies.result c.kind.result draw before.3 c.kind.ensures c.copies-copies.ensures,
      omega (arith, few, least),
    )

pub returns : goal.returns
returns g c =
    let all : c.loop-number.number ≡ c.args.n = omega (arith, c.loop-number-test.false, c.loop-number.auto.number-end) in
    all_taken round_text c.args.n c.loop-number.number _ _ all c.loop-number.invariant.0
