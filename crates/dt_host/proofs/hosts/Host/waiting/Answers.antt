use Rattle.std.proofs.Common.{◌≡◌, length, refl, sym, ap, subst, ◌∙◌}
use Rattle.std.specs.Prelude.{Option, option_map, unwrap_or}
use Rattle.dt_flow_model.specs.SendRecord.{SendRecord}
use Rattle.dt_world_model.specs.Host.{sender_at}
use Rattle.dt_host.specs.Hosts.{HostValue}
use Rattle.dt_host.proofs.HostParts.{lent}
use Rattle.dt_host.proofs.SenderTables.{look_is, none_is}
use Rattle.dt_host.proofs.hosts.Host.waiting.Goals as goal

pub returns-in-Some : goal.returns-in-Some
returns-in-Some c =
    let h = c.self.inside in
    let s = c.deref.result.now in
    let is = lent h.me.0 h.until h.senders.value s h.receivers.value h.receivers.value _ c.deref.ensures refl c.self.invariant.0 c.self.invariant.1 c.self.view_is in
    let f = c.args.flow.now in
    let here = look_is s.rules f s.entries c.sender.ensures.entries c.in-Some.sender.now (sym c.in-Some.ensures.value) in
    subst (λ (v : HostValue). c.waiting.result ≡ unwrap_or (option_map (λ (x : SendRecord). length x.waiting) (sender_at v.state f)) 0) is.by_senders
    (c.waiting.ensures ∙ sym (ap (λ (o : Option SendRecord). unwrap_or (option_map (λ (x : SendRecord). length x.waiting) o) 0) here))

pub returns-in-None : goal.returns-in-None
returns-in-None c =
    let h = c.self.inside in
    let s = c.deref.result.now in
    let is = lent h.me.0 h.until h.senders.value s h.receivers.value h.receivers.value _ c.deref.ensures refl c.self.invariant.0 c.self.invariant.1 c.self.view_is in
    let f = c.args.flow.now in
    let none = none_is s.rules f s.entries c.sender.ensures.entries (sym c.in-None.ensures.value) in
    subst (λ (v : HostValue). 0 ≡ unwrap_or (option_map (λ (x : SendRecord). length x.waiting) (sender_at v.state f)) 0) is.by_senders
    (sym (ap (λ (o : Option SendRecord). unwrap_or (option_map (λ (x : SendRecord). length x.waiting) o) 0) none))
