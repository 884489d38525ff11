use Rattle.std.proofs.Common.{length}
use Rattle.dt_station.specs.Events.{local_seen}
use Rattle.dt_turn.proofs.Readying.{event_goes}
use Rattle.dt_turn.proofs.turns.do_event.Goals as goal

pub returns-clause-on : goal.returns-clause-on
returns-clause-on g c =
    let v = g.V.Visitor in
    event_goes v.tells (v.tags c.args.now) v.hands v.fails c.local_event.result c.args.now (local_seen (length c.args.buf.now) c.args.event) c.args.station.now c.local_event.new.self c.args.visitor.now c.local_event.new.visitor
    c.local_event.ensures.script c.local_event.ensures.stays.rules c.local_event.ensures.spent c.local_event.ensures.stays.me c.local_event.ensures.stays.links c.local_event.ensures.stays.latest
