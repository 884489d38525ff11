use Rattle.std.proofs.Common.{◌≡◌, Some, false, true}
use Rattle.dt_shelf.specs.Shelves.{held_packet, hold}
use Rattle.dt_turn.specs.Codes.{incoming_seen}
use Rattle.dt_turn.proofs.Shelved.{hold_plays}
use Rattle.dt_turn.proofs.arriving.hold_if.Goals as goal

pub returns-then-hold_early : goal.returns-then-hold_early
returns-then-hold_early g c =
    let v = g.V.Visitor in
    let came = c.args.incoming in
    let now = c.args.now in
    let packet = held_packet came.link c.args.early.flow c.in-Some.number came.gram.octets.now now in
    let is : c.args.early.number ≡ Some c.in-Some.number = cc c.in-Some.is in
    let room : true ≡ (hold packet c.args.shelf.now).0 = cc (c.if-hold_early.true, c.hold_early.ensures.answer) in
    record { plays = hold_plays v.tells (v.tags now) v.hands v.fails now (incoming_seen came) c.args.early.flow c.in-Some.number c.args.early.number c.args.shelf.now c.hold_early.new.self true c.args.visitor.now c.tell.new.self is room c.hold_early.ensures.shelf c.tell.ensures }

pub returns-else-hold_early : goal.returns-else-hold_early
returns-else-hold_early g c =
    let v = g.V.Visitor in
    let came = c.args.incoming in
    let now = c.args.now in
    let packet = held_packet came.link c.args.early.flow c.in-Some.number came.gram.octets.now now in
    let is : c.args.early.number ≡ Some c.in-Some.number = cc c.in-Some.is in
    let room : false ≡ (hold packet c.args.shelf.now).0 = cc (c.if-hold_early.false, c.hold_early.ensures.answer) in
    record { plays = hold_plays v.tells (v.tags now) v.hands v.fails now (incoming_seen came) c.args.early.flow c.in-Some.number c.args.early.number c.args.shelf.now c.hold_early.new.self false c.args.visitor.now c.tell-else-hold_early.new.self is room c.hold_early.ensures.shelf c.tell-else-hold_early.ensures }
