use Rattle.std.proofs.Common.{◌∙◌, sym, arith}
use Rattle.dt_call_book.proofs.Told.{ends_judged, requests_judged}
use Rattle.dt_call_book.proofs.happenings.Happenings.judge.Goals as goal

pub invariant_of-self-2 : goal.invariant_of-self-2
invariant_of-self-2 c =
    let hs = c.self.inside.queue.items in
    let after = c.judge.new.happenings.items in
    let told = c.in_ok-judge.ensures.told in (
      c.self.invariant.0 ∙ sym (requests_judged c.args.now c.args.calls.now hs after told),
      omega (arith, c.self.invariant.1, ends_judged c.args.now c.args.calls.now hs after told, c.len.ensures, c.len-before.ensures, c.self.inside.queue.ok, c.judge.new.happenings.ok),
    )
