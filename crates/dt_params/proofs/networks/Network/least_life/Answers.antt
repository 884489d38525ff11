use Rattle.std.proofs.Common.{arith}
use Rattle.dt_params.proofs.Lives.{short}
use Rattle.dt_params.proofs.networks.Network.least_life.Goals as goal

-- a life of a day doesn't pay for the path, and so no shorter one does
pub returns-then-life-gt-DAY : goal.returns-then-life-gt-DAY
returns-then-life-gt-DAY c = λ m some a_day.
    short c.args.self.now c.loop-step.mpl c.loop-step.invariant.3 m some (omega (arith, a_day, c.life-life.ensures, c.if-life-gt-DAY.true))

pub loop-step-preserved : goal.loop-step-preserved
loop-step-preserved c =
    let kept = c.loop-step.invariant in let longer = c.if-life-mpl.false in let told = c.life-life.ensures in (
      omega (arith, kept.0, longer),
      omega (arith, c.if-life-gt-DAY.false),
      omega (arith, kept.2, longer),
      λ m some below. short c.args.self.now c.loop-step.mpl kept.3 m some (omega (arith, below, told)),
    )
