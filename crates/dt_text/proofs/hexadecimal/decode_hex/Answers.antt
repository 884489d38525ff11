use Rattle.std.proofs.Common.{◌∙◌, ◌+◌, ◌*◌, ◌<◌, length, length-set, arith, rules}
use Rattle.dt_text.proofs.HexLemmas.{octets_of_hex-next}
use Rattle.dt_text.proofs.hexadecimal.decode_hex.Goals as goal

pub loop-i-preserved : goal.loop-i-preserved
loop-i-preserved c =
    let hex = c.args.hex.now in
    let high = c.value_of.result in
    let low = c.value_of-in-loop-i.result in
    let inside : 2 * c.loop-i.i + 1 < length hex = omega (arith, c.in_ok-resize.ensures.len) in
    let room : c.loop-i.i < length c.loop-i.octets.items = omega (arith, c.in_ok-resize.ensures.len) in (
      length-set c.loop-i.octets.items c.loop-i.i (16 * high + low) ∙ c.loop-i.invariant.0,
      octets_of_hex-next c.loop-i.i hex c.loop-i.octets.items high low inside room c.value_of.ensures.value c.value_of-in-loop-i.ensures.value c.loop-i.invariant.1,
    )

-- refused here: cleared_digits
pub returns-in_err-resize-clause-unchanged : goal.returns-in_err-resize-clause-unchanged
returns-in_err-resize-clause-unchanged c = search rules
