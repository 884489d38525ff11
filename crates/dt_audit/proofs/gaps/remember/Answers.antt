use Rattle.std.proofs.Common.{ap, arith}
use Rattle.dt_audit.specs.FlowNotes.{gaps_end}
use Rattle.dt_audit.proofs.Seeking.{gap_added}
use Rattle.dt_audit.proofs.gaps.remember.Goals as goal

pub returns-in_ok-push-clause-behind : goal.returns-in_ok-push-clause-behind
returns-in_ok-push-clause-behind c =
    omega (arith, ap (gaps_end 0) c.in_ok-push.ensures.items, (gap_added c.args.from c.args.to c.args.gaps.now.items c.requires.rise c.requires.behind c.if-from-to.true).1)
