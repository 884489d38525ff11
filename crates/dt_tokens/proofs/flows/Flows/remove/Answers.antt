use Rattle.std.proofs.Common.{ap, ◌∙◌}
use Rattle.std.specs.Prelude.{filter, not}
use Rattle.dt_world_model.specs.Tables.{same_flow}
use Rattle.dt_world_model.proofs.Maps.{equal_flows, flows_agree}
use Rattle.dt_tokens.specs.Keys.{keys_in}
use Rattle.dt_tokens.proofs.Keys.{keys_kept}
use Rattle.dt_tokens.proofs.flows.Flows.remove.Goals as goal

pub returns : goal.returns
returns c =
    let f = c.args.flow.now in
    ap keys_in c.remove.ensures.others ∙ keys_kept (equal_flows f) (λ g. same_flow g f) (flows_agree f) c.self.inside.flows ∙ ap (filter (λ g. not (same_flow g f))) c.self.view_is
