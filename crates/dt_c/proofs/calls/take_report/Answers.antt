use Rattle.std.proofs.Common.{◌∙◌, ap, sym}
use Rattle.dt_endpoint.specs.Endpoints.{EndpointValue}
use Rattle.dt_c.specs.Calls.{report_after, report_status}
use Rattle.dt_c.proofs.Fronts.{none_waits}
use Rattle.dt_c.proofs.calls.take_report.Goals as goal

-- no report waits
pub returns-in-None : goal.returns-in-None
returns-in-None c =
    let e = c.args.endpoint.now in let out = c.args.out.now in let told = c.in-None.ensures in
    let no_report = none_waits e.reports (told.first ∙ ap (λ (v : EndpointValue). v.reports) told.others) in
    (sym (ap (λ rs. report_status rs) no_report), sym (ap (λ rs. report_after rs out) no_report), told.others)
