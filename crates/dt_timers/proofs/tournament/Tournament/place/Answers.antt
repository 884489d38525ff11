use Rattle.std.proofs.Common.{ℕ, ◌≡◌, ◌≤◌, ◌<◌, ◌+◌, List, Option, None, length, ap, subst, sym, ◌∙◌, set, drop, arith, length-drop}
use Rattle.std.proofs.lemmas.List.{get_or-drop, get_or_default, length-set, with_items_is}
use Rattle.std.specs.Vec.{with_item}
use Rattle.dt_timers.specs.declared.deadline.Deadline.{Deadline}
use Rattle.dt_timers.specs.Tournaments.{node}
use Rattle.dt_timers.proofs.Tournaments.{placed, set_again}
use Rattle.dt_timers.proofs.tournament.Tournament.place.Goals as goal

pub returns : goal.returns
returns c =
    let t = c.self.inside in
    let nodes = t.nodes.items in
    let at = t.room + c.args.place in
    let d = c.of-placed.result in
    let wrote : c.deref_mut.result.now ≡ set nodes at d = c.deref_mut.ensures.value in
    let long : length c.play_from.new.nodes ≡ length (set nodes at d) = c.play_from.auto.nodes ∙ ap length wrote in
    let same : (k : ℕ) → length (set nodes at d) ≤ k + k → node c.play_from.new.nodes k ≡ node (set nodes at d) k = subst (λ (ns : List (Option Deadline)). (k : ℕ) → length ns ≤ k + k → node c.play_from.new.nodes k ≡ node ns k) wrote c.play_from.ensures.places in
    let size : length c.play_from.new.nodes ≡ t.nodes.len = long ∙ length-set nodes at d ∙ sym t.nodes.ok.0 in
    ap (drop t.room) (with_items_is (with_item t.nodes at d) c.play_from.new.nodes size)
    ∙ placed nodes t.room c.self.invariant.0 c.args.place d c.play_from.new.nodes long same
    ∙ ap (λ (places : List (Option Deadline)). set places c.args.place d) c.self.view_is
    ∙ ap (λ (e : Option Deadline). set c.args.self.now c.args.place e) c.of-placed.ensures

pub returns-then-is : goal.returns-then-is
returns-then-is c =
    let t = c.self.inside in
    let nodes = t.nodes.items in
    let at = t.room + c.args.place in
    let d = c.of-placed.result in
    let size = length-drop t.room nodes in
    let whole = ap (λ (places : List (Option Deadline)). length places) c.self.view_is in
    let within : at < length nodes = omega (arith, c.requires, c.self.invariant.0) in
    let same : node (drop t.room nodes) c.args.place ≡ d =
    get_or-drop t.room nodes c.args.place None
    ∙ sym (get_or_default nodes at c.index.result.now None within)
    ∙ sym c.index.ensures
    ∙ c.is.ensures c.if-is.true in
    ap (λ (places : List (Option Deadline)). places) (sym c.self.view_is)
    ∙ sym (set_again (drop t.room nodes) c.args.place d same)
    ∙ ap (λ (places : List (Option Deadline)). set places c.args.place d) c.self.view_is
    ∙ ap (λ (e : Option Deadline). set c.args.self.now c.args.place e) c.of-placed.ensures
