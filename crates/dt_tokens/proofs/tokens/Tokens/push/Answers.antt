use Rattle.std.proofs.Common.{ap, ◌∙◌, arith}
use Rattle.std.specs.List.{list_any}
use Rattle.dt_service_model.specs.Names.{same_token}
use Rattle.dt_tokens.specs.Tokens.{tokens_in}
use Rattle.dt_tokens.specs.declared.tokens.Name.{Name}
use Rattle.dt_tokens.proofs.TokenLists.{any_name, as_many, equal_names, of_flow_within}
use Rattle.dt_tokens.proofs.tokens.Tokens.push.Goals as goal

pub one_more-requires : goal.one_more-requires
one_more-requires c =
    let f = c.args.token.flow in
    omega (arith, c.self.invariant f, of_flow_within f (tokens_in c.self.inside.names), as_many c.self.inside.names, c.len-count.ensures.len, c.len-count.ensures.small)

pub push-requires : goal.push-requires
push-requires c =
    let t = c.args.token in
    ap (λ (n : Name). list_any (λ e. equal_names n e.0) c.self.inside.names) c.name.ensures ∙ any_name t c.self.inside.names ∙ ap (list_any (same_token t)) c.self.view_is ∙ c.requires
