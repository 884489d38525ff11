use Rattle.std.proofs.lemmas.Result.{err_from_is_err_and}
use Rattle.dt_world_model.specs.Station.{Arrive}
use Rattle.dt_station.proofs.Settles.{ends_third, stays_on, stops_first, stops_second}
use Rattle.dt_station.proofs.stations.Station.do_arrival.Goals as goal

pub returns-in_err-settle-clause-ends : goal.returns-in_err-settle-clause-ends
returns-in_err-settle-clause-ends g c =
    let p = err_from_is_err_and c.from_residual.result c.from_residual.ensures.1 in
    rw p.1 (stops_first g.V.Visitor.tells (g.V.Visitor.tags c.args.self.now.latest) g.V.Visitor.hands g.V.Visitor.fails c.args.self.now.rules c.args.self.now.latest (Arrive c.args.came.link (record { octets = c.args.came.frame.now; tag = c.args.came.tag })) c.args.self.now.state c.args.visitor.now c.settle.new.visitor c.in_err-settle.ensures.ends)

pub returns-in_err-receive-clause-ends : goal.returns-in_err-receive-clause-ends
returns-in_err-receive-clause-ends g c =
    let p = err_from_is_err_and c.from_residual-in_err-receive.result c.from_residual-in_err-receive.ensures.1 in
    let stays = c.in_ok-settle.ensures.stays in
    rw p.1 (stops_second g.V.Visitor.tells (g.V.Visitor.tags c.args.self.now.latest) g.V.Visitor.hands g.V.Visitor.fails c.args.self.now.rules c.args.self.now.latest (Arrive c.args.came.link (record { octets = c.args.came.frame.now; tag = c.args.came.tag })) c.args.self.now.state c.args.visitor.now
    c.settle.new.self.state c.settle.new.visitor c.receive.new.visitor c.in_ok-settle.ensures.ends (rw (stays.rules, stays.latest) at c.in_err-receive.ensures.ends))

pub returns-clause-ends : goal.returns-clause-ends
returns-clause-ends g c =
    let stays = c.in_ok-settle.ensures.stays in
    let both = stays_on c.args.self.now c.settle.new.self c.receive.new.self stays c.in_ok-receive.ensures.stays in
    ends_third g.V.Visitor.tells (g.V.Visitor.tags c.args.self.now.latest) g.V.Visitor.hands g.V.Visitor.fails c.args.self.now.rules c.args.self.now.latest (Arrive c.args.came.link (record { octets = c.args.came.frame.now; tag = c.args.came.tag })) c.args.self.now.state c.args.visitor.now
    c.settle.new.self.state c.receive.new.self.state c.settle.new.visitor c.receive.new.visitor c.settle-2.new.visitor c.settle-2.new.self.state c.settle-2.result
    c.in_ok-settle.ensures.ends (rw (stays.rules, stays.latest) at c.in_ok-receive.ensures.ends) (rw (both.rules, both.latest) at c.settle-2.ensures.ends)

pub returns-in_err-receive-clause-stays : goal.returns-in_err-receive-clause-stays
returns-in_err-receive-clause-stays g c = stays_on c.args.self.now c.settle.new.self c.receive.new.self c.in_ok-settle.ensures.stays c.in_err-receive.ensures.stays

pub returns-clause-stays : goal.returns-clause-stays
returns-clause-stays g c =
    stays_on c.args.self.now c.receive.new.self c.settle-2.new.self (stays_on c.args.self.now c.settle.new.self c.receive.new.self c.in_ok-settle.ensures.stays c.in_ok-receive.ensures.stays) c.settle-2.ensures.stays
