use Rattle.std.proofs.Common.{◌≡◌, Some, refl, sym, subst, ◌∙◌}
use Rattle.std.specs.Prelude.{option_map}
use Rattle.dt_flow_model.specs.Numbering.{number_of}
use Rattle.dt_flow_model.specs.SendRecord.{SendRecord}
use Rattle.dt_world_model.specs.Host.{sender_at}
use Rattle.dt_host.specs.Hosts.{HostValue}
use Rattle.dt_host.proofs.HostParts.{lent}
use Rattle.dt_host.proofs.SenderTables.{no_number, number_here}
use Rattle.dt_host.proofs.hosts.Host.left.Goals as goal

pub returns-in_err-sender : goal.returns-in_err-sender
returns-in_err-sender c =
    let h = c.self.inside in
    let s = c.deref.result.now in
    let is = lent h.me.0 h.until h.senders.value s h.receivers.value h.receivers.value _ c.deref.ensures refl c.self.invariant.0 c.self.invariant.1 c.self.view_is in
    subst (λ (v : HostValue). c.from_residual.result ≡ option_map (λ (x : SendRecord). number_of v.rules x.left) (sender_at v.state c.args.flow.now)) is.by_senders
    (c.from_residual.ensures ∙ no_number s.rules c.args.flow.now s.entries c.sender.ensures.entries (λ (x : SendRecord). x.left) (sym c.in_err-sender.ensures.value))

pub returns : goal.returns
returns c =
    let h = c.self.inside in
    let s = c.deref.result.now in
    let is = lent h.me.0 h.until h.senders.value s h.receivers.value h.receivers.value _ c.deref.ensures refl c.self.invariant.0 c.self.invariant.1 c.self.view_is in
    subst (λ (v : HostValue). Some c.left.result ≡ option_map (λ (x : SendRecord). number_of v.rules x.left) (sender_at v.state c.args.flow.now)) is.by_senders
    (number_here s.rules c.args.flow.now s.entries c.sender.ensures.entries c.in_ok-sender.field-0.now (sym c.in_ok-sender.ensures.value) (λ (x : SendRecord). x.left) c.left.result c.left.ensures)
