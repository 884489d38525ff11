use Rattle.std.proofs.Common.{ap, subst, ◌∙◌, ◌++◌, ◌∷◌, [], ◌^◌, ◌<◌, ℕ}
use Rattle.std.specs.Prelude.{reverse}
use Rattle.std.specs.List.{list_any}
use Rattle.dt_ordered.proofs.Reversals.{pushed_reverse}
use Rattle.dt_ordered.proofs.ordered_map.OrderedMap.push.Goals as goal

pub returns-clause-ok : goal.returns-clause-ok
returns-clause-ok g c =
    let eq = g.K.PartialEq.eq in
    let was = c.self.inside.latest_first in
    ap (λ m. reverse m.entries) c.in_ok-put.ensures.entries
    ∙ pushed_reverse eq was c.args.key c.args.value (ap (list_any (λ e. eq c.args.key e.0)) c.self.view_is ∙ c.requires) c.self.invariant (subst (λ (n : ℕ). n < 2 ^ 63) c.len-count.ensures.len c.len-count.ensures.fits)
    ∙ ap (λ l. l ++ (c.args.key, c.args.value) ∷ []) c.self.view_is
