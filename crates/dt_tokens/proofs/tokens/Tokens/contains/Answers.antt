use Rattle.std.proofs.Common.{ap, ◌∙◌}
use Rattle.std.specs.List.{list_any}
use Rattle.dt_service_model.specs.Names.{same_token}
use Rattle.dt_tokens.specs.declared.tokens.Name.{Name}
use Rattle.dt_tokens.proofs.TokenLists.{any_name, equal_names}
use Rattle.dt_tokens.proofs.tokens.Tokens.contains.Goals as goal

pub returns : goal.returns
returns c =
    let t = c.args.token.now in
    c.contains.ensures ∙ ap (λ (n : Name). list_any (λ e. equal_names n e.0) c.self.inside.names) c.name.ensures ∙ any_name t c.self.inside.names ∙ ap (list_any (same_token t)) c.self.view_is
