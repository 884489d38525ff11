use Rattle.std.proofs.Common.{ℕ, ◌≡◌, Option, ap, subst, ◌∙◌}
use Rattle.dt_units.specs.declared.endpoints.Flow.{Flow}
use Rattle.dt_units.specs.declared.parameters.Params.{Params}
use Rattle.dt_units.specs.Moments.{earlier}
use Rattle.dt_flow_model.specs.SendActs.{wake_of}
use Rattle.dt_flow_model.specs.SendRecord.{SendRecord}
use Rattle.dt_flow_model.specs.ReceiveRecord.{Receiver, recv_wake_of}
use Rattle.dt_world_model.specs.Host.{host_wake}
use Rattle.dt_world_model.specs.Tables.{earliest}
use Rattle.dt_host.specs.Hosts.{HostValue, receivers_of, send_records}
use Rattle.dt_host.specs.Sides.{RecvSideValue, SendSideValue}
use Rattle.dt_host.proofs.hosts.Host.wake.Goals as goal

pub returns : goal.returns
returns c =
    let h = c.self.inside in
    let r = c.wake-2.ensures ∙ ap (λ (q : RecvSideValue). earliest (λ (e : Flow × Receiver). recv_wake_of q.rules e.1.standing) (receivers_of q.entries)) c.deref-2.ensures ∙ ap (λ (p : Params). earliest (λ (e : Flow × Receiver). recv_wake_of p e.1.standing) (receivers_of h.receivers.value.entries)) c.self.invariant.0 in
    subst (λ (v : HostValue). c.earlier.result ≡ host_wake v.rules v.state) c.self.view_is
    (c.earlier.ensures ∙ ap (λ (o : Option ℕ). earlier o c.wake-2.result) (c.wake.ensures ∙ ap (λ (s : SendSideValue). earliest (λ (e : Flow × SendRecord). wake_of s.rules e.1) (send_records s.entries)) c.deref.ensures) ∙ ap (earlier _) r)
