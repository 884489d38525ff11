use Rattle.std.proofs.Common.{refl}
use Rattle.dt_station.proofs.Passes.{ends_flush}
use Rattle.dt_station.proofs.passing.flush_entered.Goals as goal

pub returns-in-Queued-clause-ends : goal.returns-in-Queued-clause-ends
returns-in-Queued-clause-ends g c =
    let v = g.V.Visitor in
    let now = c.args.now.ms in
    rw c.in-Queued.is (ends_flush v.tells (v.tags now) v.hands v.fails c.in-Queued.link now c.args.relay.now c.flush_link.new.relay c.args.visitor.now c.flush_link.new.visitor c.flush_link.result c.flush_link.ensures.ends c.flush_link.ensures.others)

pub returns-in-Full-clause-ends : goal.returns-in-Full-clause-ends
returns-in-Full-clause-ends g c = rw c.in-Full.is (c.tell-in-Full.new.self, c.tell-in-Full.ensures, (refl, refl))

pub returns-in-NoRoute-clause-ends : goal.returns-in-NoRoute-clause-ends
returns-in-NoRoute-clause-ends g c = rw c.in-NoRoute.is (c.tell.new.self, c.tell.ensures, (refl, refl))
