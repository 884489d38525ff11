use Rattle.std.proofs.Common.{ap, sym, ◌∙◌}
use Rattle.std.specs.List.{list_any}
use Rattle.dt_ordered.proofs.Reversals.{any_reverse}
use Rattle.dt_ordered.proofs.ordered_map.OrderedMap.contains.Goals as goal

pub returns : goal.returns
returns g c =
    let is = g.K.PartialEq.eq c.args.key.now in
    c.contains.ensures ∙ sym (any_reverse is c.self.inside.latest_first.entries) ∙ ap (list_any (λ e. is e.0)) c.self.view_is
