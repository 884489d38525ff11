use Rattle.std.proofs.Common.{◌≡◌, ◌∙◌, ◌==◌, ap, false, arith}
use Rattle.std.proofs.lemmas.Bool.Decides.{nat_tests}
use Rattle.dt_layout.specs.Carried.{to_of}
use Rattle.dt_host.specs.Hosts.{HostValue}
use Rattle.dt_station.proofs.Answered.{ends_come}
use Rattle.dt_station.proofs.stations.Station.deliver_or_forward.Goals as goal

pub returns-then-to-me-clause-ends : goal.returns-then-to-me-clause-ends
returns-then-to-me-clause-ends g c =
    let host = c.self.inside.host.value in
    let to = c.to.ensures in
    let me = c.me.ensures ∙ ap (λ (h : HostValue). h.state.me) c.deref.ensures in
    let other : (to_of c.args.frame.now == host.state.me) ≡ false = rw (← to, ← me) (grind (arith, nat_tests)) in
    rw (← c.self.view_is, ← c.deref_mut.ensures.value)
    (ends_come g.V.Visitor.tells (g.V.Visitor.tags c.self.inside.latest.ms) g.V.Visitor.hands g.V.Visitor.fails host.rules c.self.inside.latest.ms (to_of c.args.frame.now == host.state.me) (record { octets = c.args.frame.now; tag = c.args.tag }) host.state c.deref_mut.result.now c.pass_on.new.relay c.args.visitor.now c.pass_on.new.visitor c.pass_on.result other c.pass_on.ensures.ends)
