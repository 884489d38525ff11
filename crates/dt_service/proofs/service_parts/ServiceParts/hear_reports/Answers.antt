use Rattle.std.proofs.Common.{◌∙◌}
use Rattle.dt_service.specs.Nodes.{HearingStops, node_in, node_of}
use Rattle.dt_service.proofs.Steps.{hears_end, hears_step}
use Rattle.dt_service.proofs.Stops.{heard_more, hearing_stops, on_err}
use Rattle.dt_service.proofs.service_parts.ServiceParts.hear_reports.Goals as goal

pub loop-report-preserved : goal.loop-report-preserved
loop-report-preserved c =
    let p = c.loop-report.self in
    record {
      whole = hears_step p.endpoint c.next_report.new.self p.book c.hear.new.self _ c.in-Some.ensures.first c.in-Some.ensures.others c.in_ok-hear.ensures.heard ∙ c.loop-report.invariant.whole;
      heard = heard_more (node_in c.args.self.now) p.endpoint c.next_report.new.self p.book c.hear.new.self _ c.loop-report.invariant.heard c.in-Some.ensures.first c.in-Some.ensures.others c.in_ok-hear.ensures.heard;
      room = c.loop-report.invariant.room;
    }

pub returns-in_err-hear-clause-stops : goal.returns-in_err-hear-clause-stops
returns-in_err-hear-clause-stops c =
    let p = c.loop-report.self in
    on_err c.from_residual.result (HearingStops (node_in c.args.self.now) (node_of c.next_report.new.self c.hear.new.self))
    (hearing_stops (node_in c.args.self.now) p.endpoint c.next_report.new.self p.book c.hear.new.self c.loop-report.invariant.heard c.in-Some.ensures.others c.in_err-hear.ensures.same)

pub returns-clause-heard : goal.returns-clause-heard
returns-clause-heard c =
    let p = c.loop-report.self in
    hears_end p.endpoint c.next_report.new.self p.book c.in_default.ensures.first c.in_default.ensures.others ∙ c.loop-report.invariant.whole
