use Rattle.std.proofs.Common.{arith}
use Rattle.std.proofs.lemmas.Result.{err_from_is_err_and}
use Rattle.dt_script.specs.Codes.{orders_seen}
use Rattle.dt_turn.specs.Codes.{arrived, node_seen}
use Rattle.dt_turn.specs.Shelving.{inside}
use Rattle.dt_turn.proofs.Readying.{ready_on}
use Rattle.dt_turn.proofs.Turning.{first_stops, second_stops, third_ends}
use Rattle.dt_turn.proofs.turns.turn.Goals as goal

pub returns-in_err-hand_in-clause-ends : goal.returns-in_err-hand_in-clause-ends
returns-in_err-hand_in-clause-ends g c =
    let p = err_from_is_err_and c.from_residual.result c.from_residual.ensures.1 in
    let v = g.V.Visitor in
    let o = orders_seen c.args.orders.now in
    let node = node_seen c.args.orders.now c.args.node.now in
    rw (p.1) (first_stops v.tells (v.tags c.args.now) v.hands v.fails o c.args.node.now.io.station.rules c.args.now (arrived c.args.came) node c.args.visitor.now c.requires.may.ready.rules c.hand_in.new.visitor c.in_err-hand_in.ensures.ends)

pub do_due-requires : goal.do_due-requires
do_due-requires g c =
    record { may = record { good = c.requires.may.good; ready = ready_on c.args.orders.now c.args.now 0 c.args.node.now c.hand_in.new.node c.requires.may.ready c.in_ok-hand_in.ensures.on (omega (arith, c.hand_in.ensures.next)) (omega (arith, c.hand_in.ensures.room, c.requires.may.ready.buf)) (omega (arith, c.hand_in.ensures.next, c.requires.may.ready.next)); moment = c.requires.may.moment } }

pub returns-in_err-do_due-clause-ends : goal.returns-in_err-do_due-clause-ends
returns-in_err-do_due-clause-ends g c =
    let p = err_from_is_err_and c.from_residual-in_err-do_due.result c.from_residual-in_err-do_due.ensures.1 in
    let v = g.V.Visitor in
    let o = orders_seen c.args.orders.now in
    let node = node_seen c.args.orders.now c.args.node.now in
    rw (p.1) (second_stops v.tells (v.tags c.args.now) v.hands v.fails o c.args.node.now.io.station.rules c.args.now (arrived c.args.came) node c.args.visitor.now c.requires.may.ready.rules c.hand_in.new.visitor c.do_due.new.visitor (inside c.hand_in.new.node.io.station.state c.hand_in.new.node.shelf) c.in_ok-hand_in.ensures.ends
    (rw c.hand_in.ensures.next at c.in_err-do_due.ensures.ends))

pub returns-clause-ends : goal.returns-clause-ends
returns-clause-ends g c =
    let v = g.V.Visitor in
    let o = orders_seen c.args.orders.now in
    let node = node_seen c.args.orders.now c.args.node.now in
    third_ends v.tells (v.tags c.args.now) v.hands v.fails o c.args.node.now.io.station.rules c.args.now (arrived c.args.came) node c.args.visitor.now c.requires.may.ready.rules c.hand_in.new.visitor c.do_due.new.visitor c.finish.new.visitor (inside c.hand_in.new.node.io.station.state c.hand_in.new.node.shelf) (node_seen c.args.orders.now c.do_due.new.node) _ c.finish.result c.in_ok-hand_in.ensures.ends
    (rw c.hand_in.ensures.next at c.in_ok-do_due.ensures.ends) c.finish.ensures.ends
