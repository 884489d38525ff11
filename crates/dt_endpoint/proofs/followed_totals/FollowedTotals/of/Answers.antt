use Rattle.std.proofs.Common.{ap, ◌∙◌}
use Rattle.dt_world_model.specs.Tables.{look, same_flow}
use Rattle.dt_world_model.proofs.Maps.{flow_looked}
use Rattle.dt_endpoint.proofs.followed_totals.FollowedTotals.of.Goals as goal

pub returns : goal.returns
returns c = c.copied.ensures ∙ c.get.ensures.value ∙ flow_looked c.args.flow.now c.self.inside.flows.entries ∙ ap (look same_flow c.args.flow.now) c.self.view_is
