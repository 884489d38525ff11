use Rattle.std.proofs.Common.{ℕ, ◌≡◌, ◌≤◌, ◌+◌, List, Option, None, length, refl, ap, subst, sym, ◌∙◌, drop, arith}
use Rattle.std.proofs.lemmas.List.{with_items_is}
use Rattle.dt_timers.specs.declared.deadline.Deadline.{Deadline}
use Rattle.dt_timers.specs.Tournaments.{node}
use Rattle.dt_timers.proofs.Tournaments.{doubled}
use Rattle.dt_timers.proofs.tournament.Tournament.double.Goals as goal

pub returns-clause-same : goal.returns-clause-same
returns-clause-same c = λ i.
    let t = c.self.inside in
    let room = c.max-room.result in
    let old = t.nodes.items in
    let more = c.resize.new.self.items in
    let copied = c.copy_within.new.self.items in
    let after = c.play_all.new.nodes in
    let n_old = t.nodes.ok.0 in
    let n_more = c.resize.new.self.ok.0 in
    let n_copied = c.copy_within.new.self.ok.0 in
    let even = c.self.invariant.0 in
    let wide : t.room + t.room ≤ room = omega (arith, c.max-room.ensures, c.len.ensures, n_old, even) in
    let long : length more ≡ room + room = omega (arith, n_more, c.in_ok-resize.ensures.len) in
    let lent : c.deref_mut.result.now ≡ copied = c.deref_mut.ensures.value in
    let size : length after ≡ c.copy_within.new.self.len = c.play_all.auto.nodes ∙ ap (λ (ns : List (Option Deadline)). length ns) lent ∙ sym n_copied in
    let kept : (k : ℕ) → length copied ≤ k + k → node after k ≡ node copied k = subst (λ (ns : List (Option Deadline)). (k : ℕ) → length ns ≤ k + k → node after k ≡ node ns k) lent c.play_all.ensures.places in
    ap (λ (ns : List (Option Deadline)). node (drop room ns) i) (with_items_is c.copy_within.new.self after size)
    ∙ doubled t.room room old more copied after even wide long
    (λ k l. c.in_ok-resize.ensures.by_index.0 k None (omega arith) (omega (arith, n_old, even)))
    (λ k far l. c.in_ok-resize.ensures.by_index.1 k None refl (omega (arith, n_old, even)) l ∙ c.none.ensures)
    (λ k far l. c.copy_within.ensures.by_index.0 k None far (omega arith))
    (λ k far. c.copy_within.ensures.by_index.2 k None (omega arith))
    (λ k far. kept k (omega (arith, n_copied, n_more, long, c.copy_within.ensures.len)))
    i
    ∙ ap (λ (places : List (Option Deadline)). node places i) c.self.view_is
