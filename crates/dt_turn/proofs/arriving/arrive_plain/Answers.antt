use Rattle.dt_world_model.specs.Station.{Arrive}
use Rattle.dt_turn.specs.Shelving.{plain}
use Rattle.dt_turn.proofs.Readying.{event_goes}
use Rattle.dt_turn.proofs.arriving.arrive_plain.Goals as goal

pub returns-clause-on : goal.returns-clause-on
returns-clause-on g c =
    let v = g.V.Visitor in
    event_goes v.tells (v.tags c.args.now) v.hands v.fails c.arrive.result c.args.now (Arrive c.args.incoming.link (plain c.deref_mut-2.result.now)) c.args.io.now.station c.arrive.new.self c.args.visitor.now c.arrive.new.visitor
    c.arrive.ensures.script c.arrive.ensures.stays.rules c.arrive.ensures.spent c.arrive.ensures.stays.me c.arrive.ensures.stays.links c.arrive.ensures.stays.latest
