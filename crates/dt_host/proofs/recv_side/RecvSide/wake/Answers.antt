use Rattle.std.proofs.Common.{ℕ, Option, ap, ◌∙◌}
use Rattle.dt_units.specs.Moments.{earlier}
use Rattle.dt_host.proofs.RecvSides.{either_wake}
use Rattle.dt_host.proofs.recv_side.RecvSide.wake.Goals as goal

pub returns : goal.returns
returns c =
    let v = c.args.self.now in
    c.earlier.ensures
    ∙ ap (λ (o : Option ℕ). earlier o c.soonest_of-2.result) c.soonest_of.ensures
    ∙ ap (earlier _) c.soonest_of-2.ensures
    ∙ either_wake v.rules v.entries
