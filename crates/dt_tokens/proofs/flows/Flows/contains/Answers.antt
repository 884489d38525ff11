use Rattle.std.proofs.Common.{ap, ◌∙◌}
use Rattle.std.specs.List.{list_any}
use Rattle.dt_world_model.specs.Tables.{same_flow}
use Rattle.dt_world_model.proofs.Maps.{equal_flows, flows_agree}
use Rattle.dt_tokens.proofs.Keys.{any_key}
use Rattle.dt_tokens.proofs.flows.Flows.contains.Goals as goal

pub returns : goal.returns
returns c =
    let f = c.args.flow.now in
    c.contains.ensures ∙ any_key (equal_flows f) (λ g. same_flow g f) (flows_agree f) c.self.inside.flows ∙ ap (list_any (λ g. same_flow g f)) c.self.view_is
