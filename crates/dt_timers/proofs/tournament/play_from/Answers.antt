use Rattle.std.proofs.Common.{ℕ, ◌≡◌, ◌+◌, ◌<◌, ◌≤◌, ◌/◌, length, set, Option, None, refl, ap, subst, sym, ◌∙◌, arith}
use Rattle.std.proofs.lemmas.List.{get_or_default, length-set}
use Rattle.dt_timers.specs.declared.deadline.Deadline.{Deadline}
use Rattle.dt_timers.specs.Order.{sooner_of}
use Rattle.dt_timers.specs.Tournaments.{ArePlayedBut}
use Rattle.dt_timers.proofs.Tournaments.{all_right, beats, one_more, read, rival_there, stays, wrote}
use Rattle.dt_timers.proofs.tournament.play_from.Goals as goal

pub loop-at-init : goal.loop-at-init
loop-at-init c = record { long = refl; some = c.requires.some; within = c.requires.within; winner_is = read c.args.nodes.now c.args.leaf c.index-nodes-leaf.result c.index-nodes-leaf.is c.requires.within; played = c.requires.played; places = λ k far. refl }

pub loop-at-preserved : goal.loop-at-preserved
loop-at-preserved c =
    let nodes = c.loop-at.nodes in
    let below = c.loop-at.at in
    let at = c.loop-at.at / 2 in
    let h = c.loop-at.invariant in
    let half = c.requires.even.0 in
    let even : length nodes ≡ half + half = h.long ∙ c.requires.even.1 in
    let some : 1 ≤ at = omega arith in
    let long : at + at + 1 < length nodes = omega arith in
    let there : c.rival.result < length nodes = subst (λ (n : ℕ). c.rival.result < n) (sym even) (rival_there below c.rival.result half c.rival.ensures.even c.rival.ensures.odd (subst (λ (n : ℕ). below < n) even h.within)) in
    let won = beats nodes below c.rival.result c.loop-at.winner c.index-nodes-rival.result c.sooner-winner.result there c.rival.ensures.even c.rival.ensures.odd h.winner_is c.index-nodes-rival.is (c.sooner-winner.ensures ∙ ap (λ (d : Option Deadline). sooner_of c.loop-at.winner d) (sym c.index-nodes-rival.is)) in
    record {
      long = length-set nodes at c.sooner-winner.result ∙ h.long;
      some = some;
      within = subst (λ (n : ℕ). at < n) (sym (length-set nodes at c.sooner-winner.result)) (omega arith);
      winner_is = sym (wrote nodes at c.sooner-winner.result (omega arith));
      played = subst (λ (d : Option Deadline). ArePlayedBut (at / 2) (set nodes at d)) (sym won) (one_more nodes at some long h.played);
      places = λ k far. stays nodes at k c.sooner-winner.result (λ e. omega arith) ∙ h.places k far;
    }

pub returns-then-is-clause-played : goal.returns-then-is-clause-played
returns-then-is-clause-played c =
    let nodes = c.loop-at.nodes in
    let below = c.loop-at.at in
    let at = c.loop-at.at / 2 in
    let h = c.loop-at.invariant in
    let half = c.requires.even.0 in
    let even : length nodes ≡ half + half = h.long ∙ c.requires.even.1 in
    let same = get_or_default nodes at c.index-nodes-at.result None (omega arith) in
    let there : c.rival.result < length nodes = subst (λ (n : ℕ). c.rival.result < n) (sym even) (rival_there below c.rival.result half c.rival.ensures.even c.rival.ensures.odd (subst (λ (n : ℕ). below < n) even h.within)) in
    let won = beats nodes below c.rival.result c.loop-at.winner c.index-nodes-rival.result c.sooner-winner.result there c.rival.ensures.even c.rival.ensures.odd h.winner_is c.index-nodes-rival.is (c.sooner-winner.ensures ∙ ap (λ (d : Option Deadline). sooner_of c.loop-at.winner d) (sym c.index-nodes-rival.is)) in
    all_right nodes at (sym same ∙ c.is.ensures c.if-is.true ∙ won) c.loop-at.invariant.played
