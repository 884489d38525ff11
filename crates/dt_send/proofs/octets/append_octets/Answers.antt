use Rattle.std.proofs.Common.{◌+◌, ◌≤◌, length, arith}
use Rattle.dt_send.proofs.TransmitLemmas.{appended}
use Rattle.dt_send.proofs.octets.append_octets.Goals as goal

pub overflow_add-from : goal.overflow_add-from
overflow_add-from c = omega (arith, c.requires.there, c.requires.bounded, c.loop-done.invariant.0)

pub loop-done-preserved : goal.loop-done-preserved
loop-done-preserved c =
    let items = c.args.items.now.items in
    let done = c.loop-done.done in
    let more = c.min-more.result in
    let there : c.args.from + done + more ≤ length items = omega (arith, c.requires.there, c.min-more.ensures, c.loop-done.invariant.0) in
    (omega (arith, c.min-more.ensures, c.loop-done.invariant.0), appended items c.args.from done more c.args.frame.now c.loop-done.frame c.copy_octets.new.room _ c.append.new.self there c.loop-done.invariant.1 c.copy_octets.ensures c.append.ensures)
