use Rattle.std.proofs.Common.{◌≡◌, ◌≤◌, ◌<◌, List, length, drop, Option, None, subst, sym, ◌∙◌, arith}
use Rattle.std.proofs.lemmas.List.{get_or_default}
use Rattle.dt_timers.specs.declared.deadline.Deadline.{Deadline}
use Rattle.dt_timers.specs.Tournaments.{IsSoonestOf, node}
use Rattle.dt_timers.proofs.Tournaments.{soonest_is}
use Rattle.dt_timers.proofs.tournament.Tournament.soonest.Goals as goal

pub returns-else-self-eq0 : goal.returns-else-self-eq0
returns-else-self-eq0 c =
    let t = c.self.inside in
    let some : 1 ≤ t.room = omega (arith, c.if-self-eq0.false) in
    let is = soonest_is t.nodes.items t.room c.self.invariant.0 c.self.invariant.1 some in
    let long : 1 < length t.nodes.items = omega (arith, c.self.invariant.0) in
    let read : c.index.result.now ≡ node t.nodes.items 1 = c.index.ensures ∙ get_or_default t.nodes.items 1 c.index.result.now None long in
    let found : IsSoonestOf (drop t.room t.nodes.items) c.index.result.now = subst (λ (d : Option Deadline). IsSoonestOf (drop t.room t.nodes.items) d) (sym read) is in
    subst (λ (places : List (Option Deadline)). IsSoonestOf places c.index.result.now) c.self.view_is found
