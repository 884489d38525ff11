use Rattle.std.proofs.Common.{ℕ, List, Option, ap, ◌∙◌}
use Rattle.dt_timers.specs.Deadlines.{moment_at}
use Rattle.dt_timers.proofs.Places.{same_moments}
use Rattle.dt_timers.proofs.deadlines.Deadlines.hold.Goals as goal

pub returns-in_ok-double-clause-same : goal.returns-in_ok-double-clause-same
returns-in_ok-double-clause-same c = λ i.
    same_moments c.self.inside.tournament c.double.new.self c.in_ok-double.ensures.same i
    ∙ ap (λ (ms : List (Option ℕ)). moment_at ms i) c.self.view_is
