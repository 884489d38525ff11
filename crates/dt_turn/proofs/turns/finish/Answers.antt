use Rattle.std.proofs.Common.{arith}
use Rattle.std.proofs.lemmas.Result.{err_from_is_err_and}
use Rattle.dt_script.specs.Codes.{orders_seen}
use Rattle.dt_turn.specs.Codes.{node_seen}
use Rattle.dt_turn.proofs.Readying.{ready_on}
use Rattle.dt_turn.proofs.Turning.{stopped_plays, ticked_plays, ticked_stops}
use Rattle.dt_turn.proofs.turns.finish.Goals as goal

pub returns-then-from-now-clause-ends : goal.returns-then-from-now-clause-ends
returns-then-from-now-clause-ends g c =
    let v = g.V.Visitor in
    let o = orders_seen c.args.orders.now in
    let node = node_seen c.args.orders.now c.args.node.now in
    stopped_plays v.tells (v.tags c.args.now) v.hands v.fails o c.args.now node c.args.visitor.now c.tell.new.self (omega (arith, c.if-from-now.true, c.from.ensures)) c.tell.ensures

pub returns-in_err-tick-clause-ends : goal.returns-in_err-tick-clause-ends
returns-in_err-tick-clause-ends g c =
    let p = err_from_is_err_and c.from_residual.result c.from_residual.ensures.1 in
    let v = g.V.Visitor in
    let o = orders_seen c.args.orders.now in
    let node = node_seen c.args.orders.now c.args.node.now in
    rw (p.1) (ticked_stops v.tells (v.tags c.args.now) v.hands v.fails o c.args.now node c.args.visitor.now c.tick.new.visitor c.args.node.now.io.station.rules c.requires.may.ready.rules (omega (arith, c.if-from-now.false, c.from.ensures)) c.in_err-tick.ensures.ends)

pub returns-clause-ends : goal.returns-clause-ends
returns-clause-ends g c =
    let v = g.V.Visitor in
    let o = orders_seen c.args.orders.now in
    let node = node_seen c.args.orders.now c.args.node.now in
    ticked_plays v.tells (v.tags c.args.now) v.hands v.fails o c.args.now node c.args.visitor.now c.tick.new.visitor c.args.node.now.io.station.rules c.tick.new.station.state c.requires.may.ready.rules (omega (arith, c.if-from-now.false, c.from.ensures)) c.in_ok-tick.ensures.ends

pub returns-clause-ready : goal.returns-clause-ready
returns-clause-ready g c =
    ready_on c.args.orders.now c.args.now 0 c.args.node.now _ c.requires.may.ready c.in_ok-tick.ensures.on (omega arith) c.requires.may.ready.buf c.requires.may.ready.next
