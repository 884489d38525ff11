use Rattle.std.proofs.Common.{◌≡◌, Some, None, sym, subst, ◌∙◌}
use Rattle.dt_flow_model.specs.SendRecord.{SendRecord}
use Rattle.dt_flow_model.specs.SendActs.{wake_of}
use Rattle.dt_units.specs.declared.endpoints.Flow.{Flow}
use Rattle.dt_world_model.specs.Tables.{earliest}
use Rattle.dt_host.specs.Hosts.{send_records}
use Rattle.dt_host.specs.Sides.{SendSideValue}
use Rattle.dt_host.proofs.SendSides.{wake_none, wake_some}
use Rattle.dt_host.proofs.send_side.SendSide.wake.Goals as goal

pub returns-in_err-moment : goal.returns-in_err-moment
returns-in_err-moment c =
    let h = c.self.inside in
    c.from_residual.ensures
    ∙ subst (λ (v : SendSideValue). None ≡ earliest (λ (e : Flow × SendRecord). wake_of v.rules e.1) (send_records v.entries)) c.self.view_is (sym (wake_none h.rules.value h.latest.ms h.table.places h.table.slots.items h.table.agenda c.self.invariant c.in_err-moment.ensures))

pub returns : goal.returns
returns c =
    let h = c.self.inside in
    subst (λ (v : SendSideValue). Some c.in_ok-moment.moment ≡ earliest (λ (e : Flow × SendRecord). wake_of v.rules e.1) (send_records v.entries)) c.self.view_is (sym (wake_some h.rules.value h.latest.ms h.table.places h.table.slots.items h.table.agenda c.self.invariant c.in_ok-moment.moment c.in_ok-moment.field-0-1 c.in_ok-moment.ensures))
