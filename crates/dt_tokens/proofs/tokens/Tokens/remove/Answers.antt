use Rattle.std.proofs.Common.{ap, ◌≡◌, ◌∙◌, sym, List, Bool, true, false}
use Rattle.std.specs.Prelude.{filter, not}
use Rattle.dt_service_model.specs.Whole.{without_token}
use Rattle.dt_tokens.specs.declared.tokens.Name.{Name}
use Rattle.dt_tokens.specs.Tokens.{name_of}
use Rattle.dt_tokens.proofs.TokenLists.{equal_names, gone, less_counted, some_counted, still_counted}
use Rattle.dt_tokens.proofs.tokens.Tokens.remove.Goals as goal

pub one_less-requires : goal.one_less-requires
one_less-requires c =
    let t = c.args.token.now in let es = c.self.inside.names in
    let kept : c.remove.new.self ≡ filter (λ (e : Name × Unit {0}). not (equal_names (name_of t) e.0)) es = c.remove.ensures.others ∙ ap (λ (n : Name). filter (λ (e : Name × Unit {0}). not (equal_names n e.0)) es) c.name.ensures in
    some_counted t es c.remove.new.self kept _ c.remove.ensures.one c.self.inside.of_flows.entries c.self.invariant (sym c.is_some.ensures ∙ c.if-is_some.true)

pub invariant_of-self : goal.invariant_of-self
invariant_of-self c =
    let t = c.args.token.now in let es = c.self.inside.names in
    let kept : c.remove.new.self ≡ filter (λ (e : Name × Unit {0}). not (equal_names (name_of t) e.0)) es = c.remove.ensures.others ∙ ap (λ (n : Name). filter (λ (e : Name × Unit {0}). not (equal_names n e.0)) es) c.name.ensures in
    less_counted t es c.remove.new.self kept _ c.remove.ensures.one c.self.inside.of_flows.entries c.self.invariant (sym c.is_some.ensures ∙ c.if-is_some.true) c.one_less.new.counts.entries c.one_less.ensures

pub invariant_of-self-else-is_some : goal.invariant_of-self-else-is_some
invariant_of-self-else-is_some c =
    let t = c.args.token.now in let es = c.self.inside.names in
    let kept : c.remove.new.self ≡ filter (λ (e : Name × Unit {0}). not (equal_names (name_of t) e.0)) es = c.remove.ensures.others ∙ ap (λ (n : Name). filter (λ (e : Name × Unit {0}). not (equal_names n e.0)) es) c.name.ensures in
    still_counted t es c.remove.new.self kept _ c.remove.ensures.one c.self.inside.of_flows.entries c.self.invariant (sym c.is_some.ensures ∙ c.if-is_some.false)

pub returns-then-is_some : goal.returns-then-is_some
returns-then-is_some c =
    let t = c.args.token.now in let es = c.self.inside.names in
    let kept : c.remove.new.self ≡ filter (λ (e : Name × Unit {0}). not (equal_names (name_of t) e.0)) es = c.remove.ensures.others ∙ ap (λ (n : Name). filter (λ (e : Name × Unit {0}). not (equal_names n e.0)) es) c.name.ensures in
    gone t es c.remove.new.self kept ∙ ap (without_token t) c.self.view_is

pub returns-else-is_some : goal.returns-else-is_some
returns-else-is_some c =
    let t = c.args.token.now in let es = c.self.inside.names in
    let kept : c.remove.new.self ≡ filter (λ (e : Name × Unit {0}). not (equal_names (name_of t) e.0)) es = c.remove.ensures.others ∙ ap (λ (n : Name). filter (λ (e : Name × Unit {0}). not (equal_names n e.0)) es) c.name.ensures in
    gone t es c.remove.new.self kept ∙ ap (without_token t) c.self.view_is
