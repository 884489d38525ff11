use Rattle.dt_recv.proofs.Accepting.{action_on_is}
use Rattle.dt_recv.proofs.receivers.Receiver.action_on.Goals as goal

pub returns-clause-packet : goal.returns-clause-packet
returns-clause-packet c =
    let k = c.args.segment.now in
    action_on_is c.args.self.now.rules c.args.self.now.state k.drf k.number k.payload.octets.now k.payload.begin k.payload.end c.expected.ensures c.free.ensures.value c.action.ensures
