use Rattle.std.proofs.Common.{List, ap, sym, Some, ◌≡◌, ◌∙◌}
use Rattle.dt_reports.specs.Told.{told}
use Rattle.dt_units.specs.declared.endpoints.Flow.{Flow}
use Rattle.dt_world_model.specs.Tables.{look, same_flow, write}
use Rattle.dt_endpoint.specs.declared.counts.Octets.{Octets}
use Rattle.dt_endpoint.proofs.Followed.{inserted, not_absent, noted, on_err, on_ok}
use Rattle.dt_endpoint.proofs.followed_totals.FollowedTotals.note.Goals as goal

pub unreachable-requires : goal.unreachable-requires
unreachable-requires c =
    let there : Some c.in-Some-of.before ≡ look same_flow c.in-Some.flow c.self.inside.flows.entries = c.in-Some-of.ensures ∙ sym (ap (look same_flow c.in-Some.flow) c.self.view_is) in
    not_absent c.in-Some.flow c.in-Some-of.before c.self.inside.flows.entries there (on_err c.insert.result (sym c.is_err.ensures.value ∙ c.if-is_err.true) c.insert.ensures.absent)

pub returns : goal.returns
returns c =
    let f = c.in-Some.flow in
    on_ok c.insert.result (sym c.is_err.ensures.value ∙ c.if-is_err.false) c.insert.ensures.entries
    ∙ inserted f c.note.new.self c.self.inside.flows.entries
    ∙ ap (λ (flows : List (Flow × Octets)). write same_flow f c.note.new.self flows) c.self.view_is
    ∙ noted (told c.args.report.now) f c.in-Some-of.before c.note.new.self c.args.self.now c.in-Some.ensures c.in-Some-of.ensures c.note.ensures
