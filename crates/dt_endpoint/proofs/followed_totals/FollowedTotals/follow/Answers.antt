use Rattle.std.proofs.Common.{List, ap, sym, ◌∙◌}
use Rattle.dt_units.specs.declared.endpoints.Flow.{Flow}
use Rattle.dt_world_model.specs.Tables.{same_flow, write}
use Rattle.dt_endpoint.specs.declared.counts.Octets.{Octets}
use Rattle.dt_endpoint.proofs.Followed.{begun, inserted}
use Rattle.dt_endpoint.proofs.followed_totals.FollowedTotals.follow.Goals as goal

pub returns-clause-done : goal.returns-clause-done
returns-clause-done c =
    let f = c.args.flow.now in
    c.in_ok-insert.ensures.entries
    ∙ inserted f c.none.result c.self.inside.flows.entries
    ∙ ap (λ (flows : List (Flow × Octets)). write same_flow f c.none.result flows) c.self.view_is
    ∙ begun f c.of.result c.none.result c.args.self.now (sym c.is_some.ensures ∙ c.if-is_some.false) c.of.ensures c.none.ensures
