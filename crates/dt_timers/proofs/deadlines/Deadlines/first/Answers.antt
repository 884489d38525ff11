use Rattle.std.proofs.Common.{ℕ, List, Option, MatchOption, sym, subst}
use Rattle.dt_timers.specs.Deadlines.{HasNoMoment, IsFirst, moment_at}
use Rattle.dt_timers.proofs.Places.{is_first, none_first}
use Rattle.dt_timers.proofs.deadlines.Deadlines.first.Goals as goal

pub returns-in_err-first : goal.returns-in_err-first
returns-in_err-first c =
    let none : HasNoMoment (moment_at c.args.self.now) = subst (λ (ms : List (Option ℕ)). HasNoMoment (moment_at ms)) c.self.view_is (none_first c.self.inside.tournament c.self.invariant c.in_err-first.ensures) in
    subst (λ o. MatchOption o (HasNoMoment (moment_at c.args.self.now)) (λ first. IsFirst (moment_at c.args.self.now) first.0 first.1)) (sym c.from_residual.ensures) none

pub returns : goal.returns
returns c =
    let first = c.in_ok-first.first in
    subst (λ (ms : List (Option ℕ)). IsFirst (moment_at ms) first.moment first.place) c.self.view_is (is_first c.self.inside.tournament c.self.invariant first c.in_ok-first.ensures)
