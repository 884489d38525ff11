use Rattle.dt_world_model.specs.Station.{Arrive}
use Rattle.dt_turn.specs.Hearing.{listens_fails, listens_hands, listens_tags, listens_tells}
use Rattle.dt_turn.specs.Shelving.{plain}
use Rattle.dt_turn.proofs.Overheard.{ended, heard_if, same_visitor}
use Rattle.dt_turn.proofs.Readying.{event_goes}
use Rattle.dt_turn.proofs.packet_answers.listen.Goals as goal

pub returns-clause-ends : goal.returns-clause-ends
returns-clause-ends g c =
    let v = g.V.Visitor in
    ended v.tells (v.tags c.args.now) v.hands v.fails c.arrive.result _ c.args.listener.now c.arrive.new.visitor c.arrive.new.self.state c.arrive.ensures.script

pub returns-clause-heard : goal.returns-clause-heard
returns-clause-heard g c =
    let v = g.V.Visitor in
    heard_if v.tells (v.tags c.args.now) v.hands v.fails c.arrive.result _ c.args.listener.now c.arrive.new.visitor c.arrive.new.self.state c.arrive.ensures.script

pub returns-clause-same : goal.returns-clause-same
returns-clause-same g c =
    let v = g.V.Visitor in
    same_visitor v.tells (v.tags c.args.now) v.hands v.fails c.arrive.result _ c.args.listener.now c.arrive.new.visitor c.arrive.new.self.state c.arrive.ensures.script

pub returns-clause-on : goal.returns-clause-on
returns-clause-on g c =
    let v = g.V.Visitor in
    event_goes (listens_tells v.tells) (listens_tags (v.tags c.args.now)) (listens_hands v.hands) (listens_fails v.fails) c.arrive.result c.args.now (Arrive c.args.link (plain c.args.frame.now)) c.args.station.now c.arrive.new.self c.args.listener.now c.arrive.new.visitor
    c.arrive.ensures.script c.arrive.ensures.stays.rules c.arrive.ensures.spent c.arrive.ensures.stays.me c.arrive.ensures.stays.links c.arrive.ensures.stays.latest
