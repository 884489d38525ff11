use Rattle.std.proofs.Common.{ℕ, ◌≡◌, ◌+◌, ◌<◌, ◌≤◌, ◌-◌, length, set, Option, subst, sym, ◌∙◌, arith}
use Rattle.std.proofs.lemmas.List.{length-set}
use Rattle.dt_timers.specs.declared.deadline.Deadline.{Deadline}
use Rattle.dt_timers.proofs.Tournaments.{ArePlayedFrom, one_before, stays, winner_is}
use Rattle.dt_timers.proofs.tournament.play_all.Goals as goal

pub loop-at-preserved : goal.loop-at-preserved
loop-at-preserved c =
    let nodes = c.loop-at.nodes in
    let at = c.loop-at.at - 1 in
    let h = c.loop-at.invariant in
    let long : at + at + 1 < length nodes = omega (arith, h.within) in
    let some : 1 ≤ at = omega arith in
    let next : at + 1 ≡ c.loop-at.at = omega arith in
    let won = winner_is nodes at c.index-nodes-at.result c.index-nodes-at-in-loop-at.result c.sooner.result long c.index-nodes-at.is c.index-nodes-at-in-loop-at.is c.sooner.ensures in
    record {
      long = length-set nodes at c.sooner.result ∙ h.long;
      within = subst (λ (n : ℕ). at + at ≤ n) (sym (length-set nodes at c.sooner.result)) (omega arith);
      played = subst (λ (d : Option Deadline). ArePlayedFrom at (set nodes at d)) (sym won) (one_before nodes at some long (subst (λ (n : ℕ). ArePlayedFrom n nodes) (sym next) h.played));
      places = λ k far. stays nodes at k c.sooner.result (λ e. omega (arith, h.within)) ∙ h.places k far;
    }
