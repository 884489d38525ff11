use Rattle.dt_notes.specs.declared.events.Event.TheVariants as event
use Rattle.dt_world.proofs.Applying.{at_a_station, on_err_any, lost, on_ok_any, passed, sent, unsent, was_read}
use Rattle.dt_world.proofs.steps.apply_event.Goals as goal

pub returns-then-not-can_take : goal.returns-then-not-can_take
returns-then-not-can_take g c =
    unsent g.L.Lines.tells _ c.args.parts.now c.requires.whole c.args.event.now c.args.lines.now c.in-Send.flow c.in-Send.octets c.in-Send.begin c.in-Send.end c.in-Send.is c.can_take.ensures.flow

pub returns-in-Pass : goal.returns-in-Pass
returns-in-Pass g c =
    passed g.L.Lines.tells c.pass.result c.args.parts.now c.pass.new.parts c.requires.whole c.args.event.now c.args.lines.now c.in-Pass.by c.in-Pass.is c.pass.ensures.passed c.pass.ensures.same c.pass.ensures.moment c.pass.ensures.within c.pass.ensures.end

pub returns-else-not-can_take : goal.returns-else-not-can_take
returns-else-not-can_take g c =
    sent g.L.Lines.tells c.send.result c.args.parts.now c.send.new.parts c.requires.whole c.args.event.now c.args.lines.now c.send.new.lines c.in-Send.flow c.in-Send.octets c.in-Send.begin c.in-Send.end c.in-Send.is
    (c.can_take.ensures.can.0 c.if-not-can_take.false) c.can_take.ensures.flow c.send.ensures.stations c.send.ensures.rules c.send.ensures.now c.send.ensures.links c.send.ensures.happens

pub returns-in-Read : goal.returns-in-Read
returns-in-Read g c =
    was_read g.L.Lines.tells c.read.result c.args.parts.now c.read.new.parts c.requires.whole c.args.event.now c.args.lines.now c.read.new.lines c.in-Read.flow c.in-Read.max c.args.buf.now c.in-Read.is c.requires.may c.requires.room c.read.ensures.flow
    c.read.ensures.stations c.read.ensures.rules c.read.ensures.now c.read.ensures.links c.read.ensures.happens

pub returns-in-Tick : goal.returns-in-Tick
returns-in-Tick g c =
    at_a_station g.L.Lines.tells c.tick.result c.args.parts.now c.tick.new.parts c.requires.whole c.args.event.now c.args.lines.now c.tick.new.lines (event.Tick c.in-Tick.station) c.in-Tick.is c.tick.ensures.stations c.tick.ensures.rules c.tick.ensures.now c.tick.ensures.links
    tt (on_ok_any (⊥ → ⊥) c.tick.result (λ x. x)) (on_err_any (Unit {0}) c.tick.result tt) c.tick.ensures.happens

pub returns-in-Arrive : goal.returns-in-Arrive
returns-in-Arrive g c =
    at_a_station g.L.Lines.tells c.arrive.result c.args.parts.now c.arrive.new.parts c.requires.whole c.args.event.now c.args.lines.now c.arrive.new.lines (event.Arrive c.in-Arrive.copy) c.in-Arrive.is c.arrive.ensures.stations c.arrive.ensures.rules c.arrive.ensures.now c.arrive.ensures.links
    tt (on_ok_any (⊥ → ⊥) c.arrive.result (λ x. x)) (on_err_any (Unit {0}) c.arrive.result tt) c.arrive.ensures.happens

pub returns-in-Lose : goal.returns-in-Lose
returns-in-Lose g c =
    lost g.L.Lines.tells _ c.args.parts.now c.lose.new.parts c.requires.whole c.args.event.now c.args.lines.now c.lose.new.lines c.in-Lose.copy c.in-Lose.is c.lose.ensures.stations c.lose.ensures.rules c.lose.ensures.now c.lose.ensures.links c.lose.ensures.happens

pub returns-in-Restart : goal.returns-in-Restart
returns-in-Restart g c =
    at_a_station g.L.Lines.tells c.restart.result c.args.parts.now c.restart.new.parts c.requires.whole c.args.event.now c.args.lines.now c.restart.new.lines (event.Restart c.in-Restart.station) c.in-Restart.is c.restart.ensures.stations c.restart.ensures.rules c.restart.ensures.now c.restart.ensures.links
    tt c.restart.ensures.within (on_err_any (Unit {0}) c.restart.result tt) c.restart.ensures.happens
