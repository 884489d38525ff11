use Rattle.std.proofs.Common.{length}
use Rattle.std.proofs.lemmas.Result.{err_from_is_err_and}
use Rattle.dt_station.specs.Events.{local_seen}
use Rattle.dt_station.proofs.Settles.{ends_third, leaves_it, leaves_now, may_now, on_any, reads_now, stays_on, stops_first, stops_second}
use Rattle.dt_station.proofs.stations.Station.do_local_event.Goals as goal

pub returns-in_err-settle-clause-ends : goal.returns-in_err-settle-clause-ends
returns-in_err-settle-clause-ends g c =
    let p = err_from_is_err_and c.from_residual.result c.from_residual.ensures.1 in
    rw p.1 (stops_first g.V.Visitor.tells (g.V.Visitor.tags c.args.self.now.latest) g.V.Visitor.hands g.V.Visitor.fails c.args.self.now.rules c.args.self.now.latest (local_seen (length c.args.buf.now) c.args.event) c.args.self.now.state c.args.visitor.now c.settle.new.visitor c.in_err-settle.ensures.ends)

pub handle_local-requires-clause-event : goal.handle_local-requires-clause-event
handle_local-requires-clause-event g c =
    let stays = c.in_ok-settle.ensures.stays in
    rw (stays.rules, stays.latest) (may_now g.V.Visitor.tells (g.V.Visitor.tags c.args.self.now.latest) g.V.Visitor.hands g.V.Visitor.fails c.args.self.now.rules c.args.self.now.latest c.args.self.now.state c.settle.new.self.state c.args.visitor.now c.settle.new.visitor c.in_ok-settle.ensures.ends (length c.args.buf.now) c.args.event stays.me c.requires.event)

pub returns-in_err-handle_local-clause-ends : goal.returns-in_err-handle_local-clause-ends
returns-in_err-handle_local-clause-ends g c =
    let p = err_from_is_err_and c.from_residual-in_err-handle_local.result c.from_residual-in_err-handle_local.ensures.1 in
    let stays = c.in_ok-settle.ensures.stays in
    rw p.1 (stops_second g.V.Visitor.tells (g.V.Visitor.tags c.args.self.now.latest) g.V.Visitor.hands g.V.Visitor.fails c.args.self.now.rules c.args.self.now.latest (local_seen (length c.args.buf.now) c.args.event) c.args.self.now.state c.args.visitor.now
    c.settle.new.self.state c.settle.new.visitor c.handle_local.new.visitor c.in_ok-settle.ensures.ends (rw (stays.rules, stays.latest) at c.in_err-handle_local.ensures.ends))

pub returns-clause-ends : goal.returns-clause-ends
returns-clause-ends g c =
    let stays = c.in_ok-settle.ensures.stays in
    let both = stays_on c.args.self.now c.settle.new.self c.handle_local.new.self stays c.in_ok-handle_local.ensures.stays in
    ends_third g.V.Visitor.tells (g.V.Visitor.tags c.args.self.now.latest) g.V.Visitor.hands g.V.Visitor.fails c.args.self.now.rules c.args.self.now.latest (local_seen (length c.args.buf.now) c.args.event) c.args.self.now.state c.args.visitor.now
    c.settle.new.self.state c.handle_local.new.self.state c.settle.new.visitor c.handle_local.new.visitor c.settle-2.new.visitor c.settle-2.new.self.state c.settle-2.result
    c.in_ok-settle.ensures.ends (rw (stays.rules, stays.latest) at c.in_ok-handle_local.ensures.ends) (rw (both.rules, both.latest) at c.settle-2.ensures.ends)

pub returns-clause-reads : goal.returns-clause-reads
returns-clause-reads g c =
    let stays = c.in_ok-settle.ensures.stays in
    on_any c.settle-2.result _
    (reads_now g.V.Visitor.tells (g.V.Visitor.tags c.args.self.now.latest) g.V.Visitor.hands g.V.Visitor.fails c.args.self.now.rules c.args.self.now.latest c.args.self.now.state c.settle.new.self.state c.args.visitor.now c.settle.new.visitor c.in_ok-settle.ensures.ends
    c.args.buf.now c.handle_local.new.buf c.args.event (rw (stays.rules, stays.latest) at c.handle_local.ensures.buf))

pub returns-in_err-settle-clause-leaves : goal.returns-in_err-settle-clause-leaves
returns-in_err-settle-clause-leaves g c = leaves_it c.args.event c.args.buf.now

pub returns-in_err-handle_local-clause-leaves : goal.returns-in_err-handle_local-clause-leaves
returns-in_err-handle_local-clause-leaves g c = leaves_now c.settle.new.self.rules c.settle.new.self.latest c.settle.new.self.state.host c.args.event c.args.buf.now c.handle_local.new.buf c.handle_local.ensures.buf

pub returns-clause-leaves : goal.returns-clause-leaves
returns-clause-leaves g c = leaves_now c.settle.new.self.rules c.settle.new.self.latest c.settle.new.self.state.host c.args.event c.args.buf.now c.handle_local.new.buf c.handle_local.ensures.buf

pub returns-in_err-handle_local-clause-stays : goal.returns-in_err-handle_local-clause-stays
returns-in_err-handle_local-clause-stays g c = stays_on c.args.self.now c.settle.new.self c.handle_local.new.self c.in_ok-settle.ensures.stays c.in_err-handle_local.ensures.stays

pub returns-clause-stays : goal.returns-clause-stays
returns-clause-stays g c =
    stays_on c.args.self.now c.handle_local.new.self c.settle-2.new.self (stays_on c.args.self.now c.settle.new.self c.handle_local.new.self c.in_ok-settle.ensures.stays c.in_ok-handle_local.ensures.stays) c.settle-2.ensures.stays
