use Rattle.std.proofs.Common.{◌≡◌, ◌<◌, ap, refl, sym, subst, ◌∙◌}
use Rattle.dt_units.specs.Limits.{IsWithinLimits}
use Rattle.dt_world_model.specs.Host.{Host, next_turn, work}
use Rattle.dt_host.specs.Answers.{host_after}
use Rattle.dt_host.specs.Dues.{IsNextOf}
use Rattle.dt_host.specs.Hosts.{HostValue, receivers_of, send_records}
use Rattle.dt_host.specs.Sides.{SendSideValue}
use Rattle.dt_host.proofs.HostParts.{IsHostOf, host_in, lent, seen}
use Rattle.dt_host.proofs.NextTurns.{recv_after, recv_falls, send_falls}
use Rattle.dt_host.proofs.hosts.Host.act.Given.{Over}
use Rattle.dt_host.proofs.hosts.Host.act.Goals.{After-act-in-Recv}
use Rattle.dt_host.proofs.hosts.Host.act.Goals as goal

pub returns-in-Send-clause-falls : goal.returns-in-Send-clause-falls
returns-in-Send-clause-falls g c =
    let h = c.self.inside in
    let s = c.deref_mut.result.now in
    let r = h.receivers.value in
    let host = host_in h.me.0 h.until s.entries r.entries in
    let is = lent h.me.0 h.until h.senders.value s h.receivers.value r _ c.deref_mut.ensures.value refl c.self.invariant.0 c.self.invariant.1 c.self.view_is in
    let f = c.args.due.flow in
    let next = subst (λ (w : HostValue). IsNextOf w.rules w.latest w.state f c.args.due.kind) (sym is.by_senders) c.requires.next in
    let limits : IsWithinLimits s.rules = subst (λ (u : SendSideValue). IsWithinLimits u.rules) (c.deref.ensures ∙ sym c.deref_mut.ensures.value) (subst IsWithinLimits c.rules.ensures c.params-params.ensures.within) in
    let after = host_in h.me.0 h.until c.act.new.self.entries r.entries in
    subst (λ (w : HostValue). work w.rules w.latest after < work w.rules w.latest w.state) is.by_senders
    (send_falls s.rules s.latest host f c.args.due.kind next c.in-Send.field-0 c.in-Send.is (send_records c.act.new.self.entries) c.act.ensures.after limits)

-- AN ACT OF A RECEIVER: the host before it and after it, by its sides as they are lent, and that it comes next
module _ (g : Over) (c : After-act-in-Recv g) where
  abbrev before : Host
  before = host_in c.self.inside.me.0 c.self.inside.until c.self.inside.senders.value.entries c.deref_mut-in-Recv.result.now.entries

  abbrev after : Host
  after = host_in c.self.inside.me.0 c.self.inside.until c.self.inside.senders.value.entries c.act-in-Recv.new.self.entries

  is : IsHostOf c.self.inside.me.0 c.self.inside.until c.self.inside.senders.value c.deref_mut-in-Recv.result.now c.args.self.now
  is = lent c.self.inside.me.0 c.self.inside.until c.self.inside.senders.value c.self.inside.senders.value c.self.inside.receivers.value c.deref_mut-in-Recv.result.now _ refl c.deref_mut-in-Recv.ensures.value c.self.invariant.0 c.self.invariant.1 c.self.view_is

  next : IsNextOf c.deref_mut-in-Recv.result.now.rules c.deref_mut-in-Recv.result.now.latest before c.args.due.flow c.args.due.kind
  next = subst (λ (w : HostValue). IsNextOf w.rules w.latest w.state c.args.due.flow c.args.due.kind) (sym is.by_receivers) c.requires.next

pub returns-in-Recv-clause-after : goal.returns-in-Recv-clause-after
returns-in-Recv-clause-after g c =
    let k = (goal.at.returns-in-Recv-clause-after g c).After-act-in-Recv in
    let r = c.deref_mut-in-Recv.result.now in
    ap (λ (w : HostValue). seen w.rules w.latest (after g k)) (is g k).by_senders
    ∙ subst (λ (w : HostValue). seen w.rules w.latest (after g k) ≡ record w { state = host_after w.state (next_turn w.rules w.latest w.state) }) (is g k).by_receivers
    (ap (seen r.rules r.latest) (recv_after r.rules r.latest (before g k) c.args.due.flow c.args.due.kind (next g k) c.in-Recv.field-0 c.in-Recv.is (receivers_of c.act-in-Recv.new.self.entries) c.act-in-Recv.ensures.after))

pub returns-in-Recv-clause-falls : goal.returns-in-Recv-clause-falls
returns-in-Recv-clause-falls g c =
    let k = (goal.at.returns-in-Recv-clause-falls g c).After-act-in-Recv in
    let s = c.self.inside.senders.value in
    let r = c.deref_mut-in-Recv.result.now in
    let limits : IsWithinLimits s.rules = subst (λ (u : SendSideValue). IsWithinLimits u.rules) c.deref.ensures (subst IsWithinLimits c.rules.ensures c.params-params.ensures.within) in
    let own : IsWithinLimits r.rules = subst IsWithinLimits (sym (is g k).rules) limits in
    subst (λ (w : HostValue). work w.rules w.latest (after g k) < work w.rules w.latest w.state) (is g k).by_receivers
    (recv_falls r.rules r.latest (before g k) c.args.due.flow c.args.due.kind (next g k) c.in-Recv.field-0 c.in-Recv.is (receivers_of c.act-in-Recv.new.self.entries) c.act-in-Recv.ensures.after own)
