use Rattle.std.proofs.Common.{◌≡◌, ◌++◌, length, set, drop, ap, ◌∙◌, arith}
use Rattle.std.proofs.lemmas.List.{take_all}
use Rattle.dt_items.specs.Unread.{octets_of}
use Rattle.dt_items.proofs.Copies.{written_more}
use Rattle.dt_items.proofs.octets.copy_run.Goals as goal

pub loop-i-preserved : goal.loop-i-preserved
loop-i-preserved c =
    ap (set c.loop-i.room c.loop-i.i) c.whole.ensures.octet
    ∙ written_more c.args.items.now c.args.room.now c.loop-i.room c.loop-i.i c.loop-i-test.true c.requires c.loop-i.invariant

pub returns : goal.returns
returns c =
    let all : c.loop-i.i ≡ length c.args.items.now = omega arith in
    c.loop-i.invariant
    ∙ ap (λ items. octets_of items ++ drop c.loop-i.i c.args.room.now) (take_all c.loop-i.i c.args.items.now (omega arith))
    ∙ ap (λ k. octets_of c.args.items.now ++ drop k c.args.room.now) all
