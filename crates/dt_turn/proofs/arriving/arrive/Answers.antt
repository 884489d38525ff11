use Rattle.std.proofs.Common.{◌≡◌, None, Some}
use Rattle.dt_turn.specs.Codes.{incoming_seen}
use Rattle.dt_turn.proofs.Shelved.{plain_ends, shelf_ends}
use Rattle.dt_turn.proofs.arriving.arrive.Goals as goal

pub returns-in-Some-clause-ends : goal.returns-in-Some-clause-ends
returns-in-Some-clause-ends g c =
    let v = g.V.Visitor in
    let st = c.args.io.now.station in
    let some : c.args.shelf.now ≡ Some c.in-Some.shelf = cc c.in-Some.is in
    shelf_ends v.tells (v.tags c.args.now) v.hands v.fails c.arrive_shelved.result st.rules c.args.now (incoming_seen c.args.incoming) st.state c.arrive_shelved.new.io.station.state c.args.shelf.now c.in-Some.shelf c.arrive_shelved.new.shelf c.args.visitor.now c.arrive_shelved.new.visitor some c.arrive_shelved.ensures.ends

pub returns-in-None-clause-ends : goal.returns-in-None-clause-ends
returns-in-None-clause-ends g c =
    let v = g.V.Visitor in
    let st = c.args.io.now.station in
    let none : c.args.shelf.now ≡ None = cc c.in-None.is in
    plain_ends v.tells (v.tags c.args.now) v.hands v.fails c.arrive_plain.result st.rules c.args.now (incoming_seen c.args.incoming) st.state c.arrive_plain.new.io.station.state c.args.shelf.now c.args.visitor.now c.arrive_plain.new.visitor none c.arrive_plain.ensures.ends
