use Rattle.dt_station.proofs.Passes.{ends_send}
use Rattle.std.proofs.Common.{refl}
use Rattle.dt_station.proofs.passing.send_off.Goals as goal

pub returns-clause-ends : goal.returns-clause-ends
returns-clause-ends g c =
    ends_send g.V.Visitor.tells (g.V.Visitor.tags c.args.now.ms) g.V.Visitor.hands g.V.Visitor.fails c.args.now.ms c.args.host.now.state c.args.frame.now c.tag-tag.result (record { octets = c.args.frame.now; tag = c.tag-tag.result }) c.args.relay.now c.pass_on.new.relay c.args.visitor.now c.tag-tag.new.self c.pass_on.new.visitor c.pass_on.result c.tag-tag.ensures
    refl refl c.pass_on.ensures.ends
