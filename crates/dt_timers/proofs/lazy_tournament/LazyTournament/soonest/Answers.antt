use Rattle.std.proofs.Common.{List, Option, sym, subst, ◌∙◌}
use Rattle.dt_timers.specs.declared.deadline.Deadline.{Deadline}
use Rattle.dt_timers.specs.Tournaments.{IsSoonestOf}
use Rattle.dt_timers.specs.Latest.{with_latest}
use Rattle.dt_timers.proofs.Latest.{soonest_of_both}
use Rattle.dt_timers.proofs.lazy_tournament.LazyTournament.soonest.Goals as goal

pub returns : goal.returns
returns c =
    let t = c.self.inside in
    subst (λ (places : List (Option Deadline)). IsSoonestOf places c.deadline.result) c.self.view_is
    (subst (λ (d : Option Deadline). IsSoonestOf (with_latest t.latest t.played) d) (sym (c.deadline.ensures ∙ c.sooner.ensures)) (soonest_of_both t.played t.latest c.soonest.result c.self.invariant.beside c.soonest.ensures))
