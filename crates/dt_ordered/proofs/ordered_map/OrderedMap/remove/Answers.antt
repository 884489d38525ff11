use Rattle.std.proofs.Common.{ap, sym, ◌∙◌, ◌+◌, ℕ, length}
use Rattle.std.proofs.lemmas.List.{length-reverse}
use Rattle.std.specs.Prelude.{filter, if◌then◌else◌, is_some, not, reverse}
use Rattle.std.specs.Map.{lookup, remove_entry}
use Rattle.dt_ordered.proofs.Reversals.{found_reverse, kept_reverse, once_of, one_less}
use Rattle.dt_ordered.proofs.ordered_map.OrderedMap.remove.Goals as goal

pub returns-clause-value : goal.returns-clause-value
returns-clause-value g c =
    let is = g.K.PartialEq.eq c.args.key.now in
    let es = c.self.inside.latest_first.entries in
    c.pop.ensures.value ∙ sym (found_reverse is es (once_of g.K.PartialEq.eq g.met.K.Eq.laws c.args.key.now es c.len-count.ensures.valid.0)) ∙ ap (lookup is) c.self.view_is

pub returns-clause-others : goal.returns-clause-others
returns-clause-others g c =
    let is = g.K.PartialEq.eq c.args.key.now in
    let es = c.self.inside.latest_first.entries in
    ap (λ m. reverse m.entries) c.pop.ensures.entries ∙ kept_reverse is es (once_of g.K.PartialEq.eq g.met.K.Eq.laws c.args.key.now es c.len-count.ensures.valid.0) ∙ ap (filter (λ e. not (is e.0))) c.self.view_is

pub returns-clause-one : goal.returns-clause-one
returns-clause-one g c =
    let is = g.K.PartialEq.eq c.args.key.now in
    let es = c.self.inside.latest_first.entries in
    ap (λ m. length (reverse m.entries) + (if is_some c.pop.result then 1 else 0)) c.pop.ensures.entries
    ∙ ap (λ (n : ℕ). n + (if is_some c.pop.result then 1 else 0)) (length-reverse (remove_entry is es))
    ∙ ap (λ o. length (remove_entry is es) + (if is_some o then 1 else 0)) c.pop.ensures.value
    ∙ one_less is es
    ∙ sym (length-reverse es)
    ∙ ap (λ l. length l) c.self.view_is
