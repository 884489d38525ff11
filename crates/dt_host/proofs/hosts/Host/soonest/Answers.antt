use Rattle.std.proofs.Common.{refl, ap, subst, ◌∙◌}
use Rattle.std.specs.Prelude.{Option}
use Rattle.dt_host.specs.declared.dues.DueAct.{DueAct}
use Rattle.dt_host.specs.Dues.{IsNext, soonest_recv}
use Rattle.dt_units.specs.declared.parameters.Params.{Params}
use Rattle.dt_host.specs.Hosts.{AreReceiveEntries, HostValue}
use Rattle.dt_host.proofs.HostParts.{host_in, lent}
use Rattle.dt_host.proofs.Turns.{next_is}
use Rattle.dt_host.proofs.Walks.{walk_is}
use Rattle.dt_host.proofs.hosts.Host.soonest.Goals as goal

pub returns : goal.returns
returns g c =
    let h = c.self.inside in
    let s = c.deref-senders.result.now in
    let r = c.deref-receivers.result.now in
    let is = lent h.me.0 h.until h.senders.value s h.receivers.value r _ c.deref-senders.ensures c.deref-receivers.ensures c.self.invariant.0 c.self.invariant.1 c.self.view_is in
    let now = c.args.now in
    let host = host_in h.me.0 h.until s.entries r.entries in
    let all_r = subst (λ (p : Params). AreReceiveEntries p r.entries) is.rules c.count-receivers.ensures.entries in
    let found =
    c.soonest.ensures ∙ ap (λ (best : Option DueAct). soonest_recv now best r.entries) c.soonest-best.ensures
    ∙ walk_is s.rules now host s.entries r.entries c.count-senders.ensures.entries all_r refl refl in
    subst (λ (v : HostValue). IsNext v.rules now v.state c.soonest.result) is.by_senders
    (next_is s.rules now host c.count-senders.ensures.distinct c.count-receivers.ensures.distinct c.soonest.result found)
